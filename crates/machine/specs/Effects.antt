-- What each action does. A status word alone leaves image and session as they came; any other action answers 9000, but for a search.
use Rattle.std.specs.Prelude.{ℕ, ◌+◌, List, [], get_or, eqb, Result, Ok, Err}
use Rattle.base.specs.Choice.{if_else}
use Rattle.base.specs.Bytes.{part}
use Rattle.store_records.specs.Body.{count}
use Rattle.store_kinds.specs.Rules.{biometrics_kind}
use Rattle.store_image.specs.Image.{body, records_of, append_to, update_in, activate_in}
use Rattle.store_kinds.specs.declared.rules.Rule.{Rule}
use Rattle.objects_writer.specs.Writing.{tlv}
use Rattle.objects_templates.specs.declared.Search.{Search}
use Rattle.store_files.specs.Files.{id_of, file_bytes}
use Rattle.store_files.specs.declared.File.TheVariants.{RecordFile, TransparentFile}
use Rattle.store_files.specs.declared.Transparent.TheVariants.{Biometrics}
use Rattle.machine_apdu.specs.Status.{normal}
use Rattle.machine_reply_record.specs.Joined.{records_data}
use Rattle.machine_reply_fmm.specs.Report.{total, remaining, existing, report_data}
use Rattle.machine_session.specs.Session.{placed, entered, set_file}
use Rattle.machine_session.specs.declared.Place.TheVariants.{OnFile, OnRecord}
use Rattle.machine_session.specs.declared.Session.{Session}
use Rattle.machine_record.specs.SearchRecord.{search_hits, search_reply, search_status}
use Rattle.machine_action.specs.declared.Action.{Action}
use Rattle.machine_action.specs.declared.Action.TheVariants.{SelectApplication, SelectFile, ReadBinary, UpdateBinary, Activate, AppendRecord, ReadRecord, SearchRecord, Report, ReadBinaryOdd}
use Rattle.machine_answer.specs.Outcome.{Outcome, says}

-- a search that answers 9000 lists what matches, and the first of it becomes the current record [Q9] [Q12]
unfoldable pub searched : List ℕ → Session → List ℕ → List ℕ → Rule → Search → ℕ → Outcome
searched img s d buf r q ne =
    let rs = records_of img r.kind in
    if_else (eqb (search_status rs d q ne) normal)
    (says normal (search_reply rs d q) (placed s (OnRecord r.id (get_or (search_hits rs d q) 0 0))) img buf)
    (says (search_status rs d q ne) [] s img buf)

-- d is the command's data field [O13] [L6] [L7] [Y5] [Y6] [Y10] [Y11] [W5] [A2] [G4] [J5] [J6] [Z4] [Z8]
unfoldable pub done : Result Action ℕ → List ℕ → Session → List ℕ → List ℕ → Outcome
done (Err w) img s d buf = says w [] s img buf
-- an application, or the master file, has no current file at first
done (Ok (SelectApplication a)) img s d buf = says normal [] (entered s a) img buf
-- a file that is selected has no current record, even where it was the current file
done (Ok (SelectFile f)) img s d buf = says normal [] (placed s (OnFile (id_of f))) img buf
done (Ok (ReadBinary t o n)) img s d buf = says normal (part (file_bytes img t) o n) (set_file s (TransparentFile t)) img buf
done (Ok (UpdateBinary n w)) img s d buf =
    says normal [] (set_file s (TransparentFile (Biometrics n))) (update_in img (biometrics_kind n) w.offset (part d w.bytes.at w.bytes.len)) buf
done (Ok (Activate n)) img s d buf = says normal [] s (activate_in img (biometrics_kind n)) buf
-- the new record becomes the current one
done (Ok (AppendRecord r)) img s d buf =
    says normal [] (placed s (OnRecord r.id (count (body img r.kind) + 1))) (append_to img r.kind d) buf
done (Ok (ReadRecord r a b)) img s d buf = says normal (records_data (records_of img r.kind) a b) (set_file s (RecordFile r)) img buf
done (Ok (SearchRecord r q ne)) img s d buf = searched img s d buf r q ne
done (Ok (Report f p2)) img s d buf = says normal (report_data p2 (total img f) (remaining img f) (existing img f)) (set_file s f) img buf
done (Ok (ReadBinaryOdd t o n)) img s d buf = says normal (tlv 0x53 (part (file_bytes img t) o n)) (set_file s (TransparentFile t)) img buf
