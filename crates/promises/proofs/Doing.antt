-- What was done where 9000 is answered (`append-done`, `update-done`, `activate-done`). Read before: ../specs/Done.antt.
-- The proofs go forward through the tests of each command: whatever a test that fails answers is no 9000.
use Prim.Native.Nat.{◌%◌, ◌-◌, ◌≤◌, ◌<◌, min, ℕ, ◌+◌, ◌/◌, max}
use mathlib.Core.Path.{◌≡◌, refl, sym, ap, ap₂, subst, ◌∙◌}
use mathlib.Core.Bool.{true, false, ◌||◌}
use mathlib.Core.List.Memᴰ
use mathlib.Core.List.{List, [], ◌∷◌}
use native.Mathlib.Omega.{arith}
use lib.ListN.{get_or, length, drop, length-take}
use lib.Dec.{leb, eqb, ltb}
use borrow.Author.Tests.{eqb-false, eq-eqb, ne_eqb, eqb-true, leb-true, ltb-true, lt-ltb, le-ltb}
use Rattle.machine_chain.specs.Chain.{Chain}
use Rattle.base.specs.Bytes.{part, splice, AllBytes}
use Rattle.base.proofs.Cases.{if_else_ind, all_of_facts}
use Rattle.base.proofs.Parts.{length_part}
use Rattle.store_kinds.specs.Biometrics.{state, written, written_bytes}
use Rattle.store_kinds.specs.Rules.{biometrics_kind}
use Rattle.store_kinds.specs.declared.rules.Rule.{Rule}
use Rattle.store_image.specs.Image.{well_formed, body, records_of}
use Rattle.store_image.proofs.Laws.{Changed, append_changes, append-list, records-count, biometrics-file, update-body, update-state, update-written, update-content, activate-body, activate_changes, activate-state, activate-written, activate-content}
use Rattle.objects_writer.specs.Number.{big}
use Rattle.objects_writer.specs.Writing.{tlv}
use Rattle.objects_writer.specs.Fitting.{object_length}
use Rattle.objects_writer.proofs.Fitting.{object_length-tlv, length-tlv-part}
use Rattle.objects_templates.specs.OffsetObject.{read_offset_object}
use Rattle.objects_templates.proofs.Offsets.{offset_sound}
use Rattle.objects_templates.specs.Update.{read_update}
use Rattle.objects_templates.specs.Reference.{read_reference, reference_data}
use Rattle.objects_templates.specs.Span.{Span}
use Rattle.objects_templates.proofs.References.{reference_sound}
use Rattle.objects_templates.specs.declared.Writes.{Writes}
use Rattle.objects_templates.proofs.Updates.{update_sound}
use Rattle.store_files.specs.Files.{file_bytes}
use Rattle.store_files.specs.Master.{aid_of}
use Rattle.store_files.specs.declared.Transparent.{Transparent}
use Rattle.store_files.specs.declared.File.{File}
use Rattle.store_files.specs.declared.File.TheVariants.{RecordFile, TransparentFile}
use Rattle.machine_binary.specs.Activate.{activate_file}
use Rattle.machine_session.specs.Session.{placed, set_file}
use Rattle.machine_session.specs.Resolve.{resolve_record, resolve_transparent, resolve_biometrics, resolve_file}
use Rattle.machine_session.specs.declared.Access.{Access}
use Rattle.machine_session.specs.declared.Access.TheVariants.{Append}
use Rattle.machine_session.specs.declared.Session.{Session}
use Rattle.machine_session.specs.declared.Place.TheVariants.{OnRecord}
use Rattle.machine_session.specs.declared.Named.{Named}
use Rattle.machine_session.specs.declared.Named.TheVariants.{Current, Short, Id}
use Rattle.machine_session.proofs.Steps.{in_order-each, RecordResolved, TransparentResolved, BiometricsResolved, FileResolved, RecordOk, TransparentOk, BiometricsOk, AnyOk, resolve_record-well_formed, resolve_transparent-well_formed, resolve_biometrics-well_formed, resolve_file-well_formed}
use Rattle.machine_apdu.specs.declared.Frame.{Frame}
use Rattle.machine_action.specs.Tests.{lc_only, p1p2, id_in, or_current, id_or_current, on_record, on_transparent, on_biometrics, on_file}
use Rattle.machine_action.specs.declared.Action.{Action}
use Rattle.machine_action.specs.declared.Action.TheVariants.{SelectFile, ReadBinary, UpdateBinary, Activate, AppendRecord, ReadBinaryOdd}
use Rattle.machine_select.specs.Select.{select_aid, select_master, select_file, select_by, one_of_three, length_fits, select}
use Rattle.machine_select.specs.Fmm.{fmm_on, fmm_named, fmm_file, fmm_by, fmm}
use Rattle.machine_binary.specs.ReadBinary.{names_current, read_named, read_offset, read_binary_on, read_binary}
use Rattle.machine_binary.specs.ReadBinaryOdd.{read_odd_on, read_odd_by, read_binary_odd}
use Rattle.machine_binary.proofs.OddReading.{odd_count, OddBounds, odd_bounds}
use Rattle.machine_binary.specs.UpdateBinary.{update_on, update_by, update_binary}
use Rattle.machine_record.specs.AppendRecord.{append_on, append_record}
use Rattle.machine_dispatch.specs.Decide.{by_ins, by_own_ins, by_class, by_shape, decide, data_of}
use Rattle.machine_dispatch.proofs.Allowing.{Appends, Writable}
use Rattle.machine_reply_fmm.specs.Report.{total, remaining, existing, report_data}
use Rattle.machine_reply_fmm.proofs.Reporting.{report_bound}
use Rattle.machine_answer.specs.Outcome.{Outcome, says}
use Rattle.machine.specs.Effects.{done}
use Rattle.machine.specs.Step.{verdict_on, step}
use Rattle.machine_link.specs.Link.{is_command}
use Rattle.promises.specs.Calls.{is_pair}
use Rattle.promises.specs.Done.{Only, Obeyed, Appended, AppendDone, Updated, UpdateDone, Activated, ActivateDone, Fetched, ReadDone, FetchedOdd, ReadOddDone, Selected, SelectDone, Referred, Reported, FmmDone}
use Rattle.promises.proofs.Answering.{data_said, step_accepted, status_accepted, accepted_facts, accepted_room}
use Rattle.promises.proofs.Deciding.{even_led, odd_led}
use Rattle.promises.proofs.Whole.{pair_facts, data_length, data_bytes, class_decided}
use Rattle.promises.specs.Files.{Inspected, WritesTo}
use Rattle.promises.proofs.Naming.{record_meant, record_permitted, p2-meant, biometrics-writes, transparent_inspected, file_inspected}
use Rattle.promises.proofs.Growing.{accepts, write_accepted, write_changes}
use Rattle.std.specs.Prelude.{Option, Some, None, Result, Ok, Err}

only_changed : (img new : List ℕ) (k : ℕ) → Changed img new k → Only k img new
only_changed img new k c = record { well = c.well; size = c.size; files = c.same-files; others = c.others }

-- ---- through the tests of a command

module _ (img : List ℕ) (s : Session) (d buf : List ℕ) (R : Outcome → Type 0) where
  -- a decision whose outcome, where it answers 9000, is as R says
  abbrev pub Came : Result Action ℕ → Type 0
  Came x = (done x img s d buf).answer.status ≡ 0x9000 → R (done x img s d buf)

  word-came : (w : ℕ) → ltb w 0x9000 ≡ true → Came (Err w)
  unfolding done says
  word-came w h e = absurd (omega (arith, ltb-true w 0x9000 h, e))

  on-record : (x : Access) (n : Named) (go : Rule → Result Action ℕ) → ((r : Rule) → resolve_record img s x n ≡ Ok r → RecordResolved img s x r → Came (go r)) → Came (on_record (resolve_record img s x n) go)
  on-record x n go h = by (resolve_record img s x n) refl (resolve_record-well_formed img s x n)
    where
      by : (a : Result Rule ℕ) → resolve_record img s x n ≡ a → RecordOk img s x a → Came (on_record a go)
      by (Err w) e o = word-came w o
      by (Ok r) e o = h r e o

  on-transparent : (n : Named) (go : Transparent → Result Action ℕ) → ((t : Transparent) → resolve_transparent img s n ≡ Ok t → TransparentResolved img s t → Came (go t)) → Came (on_transparent (resolve_transparent img s n) go)
  on-transparent n go h = by (resolve_transparent img s n) refl (resolve_transparent-well_formed img s n)
    where
      by : (a : Result Transparent ℕ) → resolve_transparent img s n ≡ a → TransparentOk img s a → Came (on_transparent a go)
      by (Err w) e o = word-came w o
      by (Ok t) e o = h t e o

  on-biometrics : (n : Named) (go : ℕ → Result Action ℕ) → ((k : ℕ) → resolve_biometrics img s n ≡ Ok k → BiometricsResolved img s k → Came (go k)) → Came (on_biometrics (resolve_biometrics img s n) go)
  on-biometrics n go h = by (resolve_biometrics img s n) refl (resolve_biometrics-well_formed img s n)
    where
      by : (a : Result ℕ ℕ) → resolve_biometrics img s n ≡ a → BiometricsOk img s a → Came (on_biometrics a go)
      by (Err w) e o = word-came w o
      by (Ok k) e o = h k e o

  on-file : (n : Named) (go : File → Result Action ℕ) → ((g : File) → resolve_file img s n ≡ Ok g → FileResolved img s g → Came (go g)) → Came (on_file (resolve_file img s n) go)
  on-file n go h = by (resolve_file img s n) refl (resolve_file-well_formed img s n)
    where
      by : (a : Result File ℕ) → resolve_file img s n ≡ a → AnyOk img s a → Came (on_file a go)
      by (Err w) e o = word-came w o
      by (Ok g) e o = h g e o

-- ---- a command answered 9000

module _ (img : List ℕ) (s : Session) (ch : Chain) (cmd buf : List ℕ) (f : Frame) {c i : ℕ} (b : Obeyed img s ch cmd buf f c i) where
  abbrev d : List ℕ
  d = data_of ch cmd

  cla : f.header.cla ≡ c
  cla = (pair_facts f c i b.pair).0

  ins : f.header.ins ≡ i
  ins = (pair_facts f c i b.pair).1

  is-accepted : verdict_on img s ch (length buf) ≡ (Ok tt)
  is-accepted = status_accepted img s ch cmd buf b.status

  well : well_formed img ≡ true
  well = (accepted_facts img s ch (length buf) is-accepted).0

  came : (R : Outcome → Type 0) (x : Result Action ℕ) → decide img s ch cmd ≡ x → Came img s d buf R x → R (step img s ch cmd buf)
  came R x e h =
      let u : step img s ch cmd buf ≡ done x img s d buf = step_accepted img s ch cmd buf is-accepted ∙ ap (λ (y : Result Action ℕ). done y img s d buf) e in
      subst R (sym u) (h (sym (ap (λ (o : Outcome). o.answer.status) u) ∙ b.status))

  by-class : eqb (c / 16 % 2) 1 ≡ false → (eqb c 0x00 || eqb c 0x80) ≡ true → is_command c i ≡ true → decide img s ch cmd ≡ by_class img s f d
  by-class u k m = class_decided ch cmd f b.shape c i b.pair u k m img s

-- ---- APPEND RECORD

pub append-done : AppendDone
append-done img s ch cmd buf f b = came img s ch cmd buf f b R (append_record img s f (data_of ch cmd)) led tests
  where
    R : Outcome → Type 0
    R = Appended img s ch cmd f

    led : decide img s ch cmd ≡ append_record img s f (data_of ch cmd)
    led = by-class img s ch cmd buf f b refl refl (unfold is_command in refl) ∙ (unfold by_class by_ins in simp (cla img s ch cmd buf f b, ins img s ch cmd buf f b))

    word : (w : ℕ) → ltb w 0x9000 ≡ true → Came img s (data_of ch cmd) buf R (Err w)
    word = word-came img s (data_of ch cmd) buf R

    append : (r : Rule) → resolve_record img s Append (or_current (f.header.p2 / 8)) ≡ Ok r → Appends img s (length (data_of ch cmd)) r → Came img s (data_of ch cmd) buf R (Ok (AppendRecord r))
    append r e a z =
        unfold done says records_of in
        let o = well img s ch cmd buf f b in
        let x = accepts img s ch cmd buf o (data_of ch cmd) r a in
        record {
          rule = r;
          meant = p2-meant s (f.header.p2 / 8) (RecordFile r) ∙ record_meant img s Append (or_current (f.header.p2 / 8)) r e;
          permitted = record_permitted img s Append (or_current (f.header.p2 / 8)) r e;
          records = append-list img r.kind r (data_of ch cmd) o x;
          only = only_changed img _ r.kind (append_changes img r.kind r (data_of ch cmd) o x);
          current = ap (λ (n : ℕ). placed s (OnRecord r.id (n + 1))) (sym (records-count (body img r.kind)));
        }

    on : (r : Rule) → resolve_record img s Append (or_current (f.header.p2 / 8)) ≡ Ok r → RecordResolved img s Append r → lc_only f ≡ true
        → Came img s (data_of ch cmd) buf R (append_on img (length (data_of ch cmd)) r)
    on r e o l =
        unfold append_on in
        in_order-each (Came img s (data_of ch cmd) buf R) _ _ (word 0x6700 refl, (word 0x6A84 refl, (word 0x6A84 refl, tt)))
        (λ p. append r e (record {
          file = o;
          some = let h = leb-true 1 f.lc (unfold lc_only in (all_of_facts (leb 1 f.lc ∷ eqb f.le 0 ∷ []) l).0) in omega (arith, h, data_length ch cmd f b.shape);
          short = p.0;
          few = p.1.0;
          room = p.1.1.0;
        }))

    tests : Came img s (data_of ch cmd) buf R (append_record img s f (data_of ch cmd))
    tests =
        unfold append_record in
        in_order-each (Came img s (data_of ch cmd) buf R) _ _ (word 0x6A86 refl, (word 0x6700 refl, tt))
        (λ p. on-record img s (data_of ch cmd) buf R Append (or_current (f.header.p2 / 8)) (append_on img (length (data_of ch cmd))) (λ r e o. on r e o p.1.0))

-- ---- UPDATE BINARY

-- P1-P2 is the id, or where it is 0000 the file is the current one
pub id-or-current : (i : ℕ) → (i ≡ 0 → id_or_current i ≡ Current) × ((i ≡ 0 → ⊥) → id_or_current i ≡ Id i)
unfolding id_or_current
id-or-current i = (λ h. simp (eq-eqb i 0 h), λ h. simp (ne_eqb i 0 h))

pub update-done : UpdateDone
update-done img s ch cmd buf f so y b = came img s ch cmd buf f b R (update_binary img s f (data_of ch cmd)) led tests
  where
    R : Outcome → Type 0
    R = Updated img s ch cmd f

    o : well_formed img ≡ true
    o = well img s ch cmd buf f b

    led : decide img s ch cmd ≡ update_binary img s f (data_of ch cmd)
    led = by-class img s ch cmd buf f b refl refl (unfold is_command in refl) ∙ (unfold by_class by_ins in simp (cla img s ch cmd buf f b, ins img s ch cmd buf f b))

    word : (w : ℕ) → ltb w 0x9000 ≡ true → Came img s (data_of ch cmd) buf R (Err w)
    word = word-came img s (data_of ch cmd) buf R

    write : (w : Writes) → read_update (data_of ch cmd) ≡ Some w → (n : ℕ) → resolve_biometrics img s (id_or_current (p1p2 f)) ≡ Ok n
        → Writable img s n w → Came img s (data_of ch cmd) buf R (Ok (UpdateBinary n w))
    write w v n e a z =
        unfold done says in
        let x = update_sound (data_of ch cmd) w v (data_bytes ch cmd f b.shape so y) in
        let offset = x.0 in
        let bytes = x.1 in
        let u = x.2 in
        let k : ℕ = biometrics_kind n in
        let g = a.file.file.ok in
        let dat : List ℕ = part (data_of ch cmd) w.bytes.at w.bytes.len in
        let t = write_accepted img s ch cmd buf o n w (data_of ch cmd) a in
        let new = update-body img k o g.kind g.stands w.offset dat in
        let to = biometrics-writes img s (id_or_current (p1p2 f)) n e a.file in
        record {
          number = n;
          offset = offset;
          bytes = bytes;
          of_current = λ h. subst (λ (x : Named). WritesTo img s x n) ((id-or-current (p1p2 f)).0 h) to;
          of_id = λ h. subst (λ (x : Named). WritesTo img s x n) ((id-or-current (p1p2 f)).1 h) to;
          writes = u.written;
          sized = u.sized;
          stands = ap written_bytes new ∙ update-content (body img k) w.offset dat t ∙ ap₂ (splice (written_bytes (body img k))) u.offset_is u.bytes_placed.is;
          larger = ap written new ∙ update-written (body img k) w.offset dat t
              ∙ ap₂ (λ (a : ℕ) (l : List ℕ). max (written (body img k)) (a + length l)) u.offset_is u.bytes_placed.is;
          state_kept = ap state new ∙ update-state (body img k) w.offset dat t;
          only = only_changed img _ k (write_changes img s ch cmd buf o n w (data_of ch cmd) a);
          current = refl;
        }

    on : (w : Writes) → read_update (data_of ch cmd) ≡ Some w → (n : ℕ) → resolve_biometrics img s (id_or_current (p1p2 f)) ≡ Ok n → BiometricsResolved img s n
        → Came img s (data_of ch cmd) buf R (update_on img w n)
    on w v n e r =
        unfold update_on in
        in_order-each (Came img s (data_of ch cmd) buf R) _ _ (word 0x6A80 refl, (word 0x6A84 refl, tt))
        (λ p. write w v n e (record { file = r; behind = p.0; room = p.1.0 }))

    fields : (u : Option Writes) → read_update (data_of ch cmd) ≡ u → Came img s (data_of ch cmd) buf R (update_by img s (p1p2 f) u)
    fields None v = word 0x6A80 refl
    fields (Some w) v = on-biometrics img s (data_of ch cmd) buf R (id_or_current (p1p2 f)) (update_on img w) (on w v)

    tests : Came img s (data_of ch cmd) buf R (update_binary img s f (data_of ch cmd))
    tests =
        unfold update_binary in
        in_order-each (Came img s (data_of ch cmd) buf R) _ _ (word 0x6700 refl, tt) (λ p. fields (read_update (data_of ch cmd)) refl)

-- ---- ACTIVATE

pub activate-done : ActivateDone
activate-done img s ch cmd buf f b = came img s ch cmd buf f b R (activate_file img s f) led tests
  where
    R : Outcome → Type 0
    R = Activated img s

    o : well_formed img ≡ true
    o = well img s ch cmd buf f b

    led : decide img s ch cmd ≡ activate_file img s f
    led = by-class img s ch cmd buf f b refl refl (unfold is_command in refl) ∙ (unfold by_class by_ins in simp (cla img s ch cmd buf f b, ins img s ch cmd buf f b))

    word : (w : ℕ) → ltb w 0x9000 ≡ true → Came img s (data_of ch cmd) buf R (Err w)
    word = word-came img s (data_of ch cmd) buf R

    on : (n : ℕ) → resolve_biometrics img s Current ≡ Ok n → BiometricsResolved img s n → Came img s (data_of ch cmd) buf R (Ok (Activate n))
    on n e r t =
        unfold done says in
        let k : ℕ = biometrics_kind n in
        let g = r.file.ok in
        let new = activate-body img k o g.kind g.stands in
        let h = biometrics-file img k o g.kind g.stands in
        record {
          number = n;
          of_current = biometrics-writes img s Current n e r;
          active = ap state new ∙ activate-state (body img k) h;
          written_kept = ap written new ∙ activate-written (body img k) h;
          content_kept = ap written_bytes new ∙ activate-content (body img k) h;
          only = only_changed img _ k (activate_changes img k o g.kind g.stands);
          current = refl;
        }

    tests : Came img s (data_of ch cmd) buf R (activate_file img s f)
    tests =
        unfold activate_file in
        in_order-each (Came img s (data_of ch cmd) buf R) _ _ (word 0x6A86 refl, (word 0x6700 refl, tt))
        (λ p. on-biometrics img s (data_of ch cmd) buf R Current (λ (n : ℕ). Ok (Activate n)) on)

-- ---- READ BINARY

-- P1 below 80 leaves the current file, and P1-P2 is the offset
pub read_named_lem : (f : Frame)
    → (f.header.p1 < 0x80 → (read_named f ≡ Current) × (read_offset f ≡ p1p2 f))
    × (0x80 ≤ f.header.p1 → (read_named f ≡ Short (f.header.p1 % 0x20)) × (read_offset f ≡ f.header.p2))
unfolding read_named read_offset names_current
read_named_lem f = (
  λ h. let e = lt-ltb f.header.p1 0x80 h in (simp e, simp e),
  λ h. let e = le-ltb f.header.p1 0x80 h in (simp e, simp e),
)

pub read_done : ReadDone
read_done img s ch cmd buf f b = came img s ch cmd buf f b R (read_binary img s f) (even_led ch cmd f b.shape img s b.pair) tests
  where
    R : Outcome → Type 0
    R = Fetched img s f

    word : (w : ℕ) → ltb w 0x9000 ≡ true → Came img s (data_of ch cmd) buf R (Err w)
    word = word-came img s (data_of ch cmd) buf R

    read : (t : Transparent) → resolve_transparent img s (read_named f) ≡ Ok t → TransparentResolved img s t → read_offset f < length (file_bytes img t)
        → Came img s (data_of ch cmd) buf R (Ok (ReadBinary t (read_offset f) (min f.ne (min 2048 (length (file_bytes img t) - read_offset f)))))
    read t e r h z =
        unfold done says in
        let n : ℕ = min f.ne (min 2048 (length (file_bytes img t) - read_offset f)) in
        let i = transparent_inspected img s (read_named f) t e r in
        let l : length (part (file_bytes img t) (read_offset f) n) ≤ 2048 = omega (arith, length-take n (drop (read_offset f) (file_bytes img t))) in
        record {
          file = t;
          offset = read_offset f;
          of_current = λ y. let q = (read_named_lem f).0 y in (subst (λ (x : Named). Inspected img s x (TransparentFile t)) q.0 i, q.1);
          of_short = λ y. let q = (read_named_lem f).1 y in (subst (λ (x : Named). Inspected img s x (TransparentFile t)) q.0 i, q.1);
          inside = h;
          told = data_said 0x9000 (part (file_bytes img t) (read_offset f) n) (set_file s (TransparentFile t)) img buf l (accepted_room img s ch buf (is-accepted img s ch cmd buf f b));
          image_kept = refl;
          current = refl;
        }

    on : (t : Transparent) → resolve_transparent img s (read_named f) ≡ Ok t → TransparentResolved img s t → Came img s (data_of ch cmd) buf R (read_binary_on img (read_offset f) f.ne t)
    on t e r =
        unfold read_binary_on in
        in_order-each (Came img s (data_of ch cmd) buf R) _ _ (word 0x6B00 refl, tt) (λ p. read t e r (ltb-true (read_offset f) (length (file_bytes img t)) p.0))

    tests : Came img s (data_of ch cmd) buf R (read_binary img s f)
    tests =
        unfold read_binary in
        in_order-each (Came img s (data_of ch cmd) buf R) _ _ (word 0x6A86 refl, (word 0x6700 refl, tt))
        (λ p. on-transparent img s (data_of ch cmd) buf R (read_named f) (read_binary_on img (read_offset f) f.ne) on)

-- ---- READ BINARY with the odd INS

pub read_odd_done : ReadOddDone
read_odd_done img s ch cmd buf f so y b = came img s ch cmd buf f b R (read_binary_odd img s f (data_of ch cmd)) (odd_led ch cmd f b.shape img s b.pair) tests
  where
    R : Outcome → Type 0
    R = FetchedOdd img s ch cmd f

    word : (w : ℕ) → ltb w 0x9000 ≡ true → Came img s (data_of ch cmd) buf R (Err w)
    word = word-came img s (data_of ch cmd) buf R

    read : (a : ℕ) → read_offset_object (data_of ch cmd) ≡ Some a → (t : Transparent) → resolve_transparent img s (id_or_current (p1p2 f)) ≡ Ok t → TransparentResolved img s t
        → (n : ℕ) → OddBounds img a f.ne t n → Came img s (data_of ch cmd) buf R (Ok (ReadBinaryOdd t a n))
    read a v t e r n k z =
        unfold done says in
        let x = offset_sound (data_of ch cmd) a v (data_bytes ch cmd f b.shape so y) in
        let o = x.1 in
        let c : List ℕ = part (file_bytes img t) a n in
        let l : length c ≡ n = length_part (file_bytes img t) a n k.inside in
        let q : length (tlv 0x53 c) ≡ object_length n = length-tlv-part 0x53 (file_bytes img t) a n (omega arith) k.inside in
        let i = transparent_inspected img s (id_or_current (p1p2 f)) t e r in
        let told = data_said 0x9000 (tlv 0x53 c) (set_file s (TransparentFile t)) img buf (omega (arith, q, k.short)) (accepted_room img s ch buf (is-accepted img s ch cmd buf f b)) in
        record {
          file = t;
          offset = x.0;
          bytes = c;
          of_current = λ h. subst (λ (x : Named). Inspected img s x (TransparentFile t)) ((id-or-current (p1p2 f)).0 h) i;
          of_id = λ h. subst (λ (x : Named). Inspected img s x (TransparentFile t)) ((id-or-current (p1p2 f)).1 h) i;
          asks = o.written;
          size = o.size;
          told = told;
          content = ap₂ (part (file_bytes img t)) o.offset_is (sym l);
          some = omega (arith, l, k.some);
          inside = omega (arith, l, o.offset_is, k.inside);
          fits = omega (arith, ap length told, q, k.fits);
          as_many = λ more h j. omega (arith, object_length-tlv 0x53 more (omega arith), k.longest (length more) (omega (arith, l)) (omega (arith, o.offset_is)));
          image_kept = refl;
          current = refl;
        }

    on : (a : ℕ) → read_offset_object (data_of ch cmd) ≡ Some a → (t : Transparent) → resolve_transparent img s (id_or_current (p1p2 f)) ≡ Ok t → TransparentResolved img s t
        → Came img s (data_of ch cmd) buf R (read_odd_on img a f.ne t)
    on a v t e r =
        unfold read_odd_on in
        in_order-each (Came img s (data_of ch cmd) buf R) _ _ (word 0x6B00 refl, (word 0x6700 refl, tt))
        (λ p. read a v t e r (odd_count img a f.ne t) (odd_bounds img a f.ne t p.0 p.1.0))

    data-field : (x : Option ℕ) → read_offset_object (data_of ch cmd) ≡ x → Came img s (data_of ch cmd) buf R (read_odd_by img s f x)
    data-field None v = word 0x6A80 refl
    data-field (Some a) v = on-transparent img s (data_of ch cmd) buf R (id_or_current (p1p2 f)) (read_odd_on img a f.ne) (on a v)

    tests : Came img s (data_of ch cmd) buf R (read_binary_odd img s f (data_of ch cmd))
    tests =
        unfold read_binary_odd in
        in_order-each (Came img s (data_of ch cmd) buf R) _ _ (word 0x6700 refl, tt) (λ p. data-field (read_offset_object (data_of ch cmd)) refl)

-- ---- SELECT

pub select-done : SelectDone
select-done img s ch cmd buf f b = came img s ch cmd buf f b R (select img s f (data_of ch cmd)) led tests
  where
    R : Outcome → Type 0
    R = Selected img s ch cmd f

    p1 : ℕ
    p1 = f.header.p1

    led : decide img s ch cmd ≡ select img s f (data_of ch cmd)
    led = by-class img s ch cmd buf f b refl refl (unfold is_command in refl) ∙ (unfold by_class by_ins in simp (cla img s ch cmd buf f b, ins img s ch cmd buf f b))

    word : (w : ℕ) → ltb w 0x9000 ≡ true → Came img s (data_of ch cmd) buf R (Err w)
    word = word-came img s (data_of ch cmd) buf R

    -- where P1 is not 04 the data has two bytes
    two_bytes : length_fits p1 f.lc ≡ true → (p1 ≡ 0x04 → ⊥) → length (data_of ch cmd) ≡ 2
    two_bytes h n =
        unfold length_fits in
        data_length ch cmd f b.shape ∙ eqb-true f.lc 2 (simp (ne_eqb p1 0x04 n) at h)

    known_aid : p1 ≡ 0x04 → (a : ℕ) → aid_of (data_of ch cmd) ≡ Some a → Came img s (data_of ch cmd) buf R (select_aid img s (Some a))
    known_aid e a q =
        unfold done says in
        in_order-each (Came img s (data_of ch cmd) buf R) _ _ (word 0x6A82 refl, (word 0x6982 refl, tt))
        (λ p z. record {
          p1_known = Memᴰ.head e;
          by_aid = λ _. (a, q, p.0, p.1.0, refl);
          by_file_id = λ y. absurd (omega (arith, e, y));
          by_master = λ y. absurd (omega (arith, e, y));
          image_kept = refl;
          nothing_told = refl;
        })

    aid : p1 ≡ 0x04 → (a : Option ℕ) → aid_of (data_of ch cmd) ≡ a → Came img s (data_of ch cmd) buf R (select_aid img s a)
    aid e None q = word 0x6A82 refl
    aid e (Some a) q = known_aid e a q

    file : p1 ≡ 0x02 → length (data_of ch cmd) ≡ 2 → Came img s (data_of ch cmd) buf R (select_file img s (id_in (data_of ch cmd)))
    file e l =
        unfold select_file done says in
        on-file img s (data_of ch cmd) buf R (Id (id_in (data_of ch cmd))) (λ (f : File). Ok (SelectFile f))
        (λ g q r z. record {
          p1_known = Memᴰ.tail (Memᴰ.head e);
          by_aid = λ y. absurd (omega (arith, e, y));
          by_file_id = λ _. (g, l, file_inspected img s (Id (id_in (data_of ch cmd))) g q r, refl);
          by_master = λ y. absurd (omega (arith, e, y));
          image_kept = refl;
          nothing_told = refl;
        })

    master : p1 ≡ 0x00 → length (data_of ch cmd) ≡ 2 → Came img s (data_of ch cmd) buf R (select_master (id_in (data_of ch cmd)))
    master e l =
        unfold select_master done says in
        if_else_ind (Came img s (data_of ch cmd) buf R) (eqb (id_in (data_of ch cmd)) 0x3F00)
        (λ q z. record {
          p1_known = Memᴰ.tail (Memᴰ.tail (Memᴰ.head e));
          by_aid = λ y. absurd (omega (arith, e, y));
          by_file_id = λ y. absurd (omega (arith, e, y));
          by_master = λ _. (l, eqb-true (id_in (data_of ch cmd)) 0x3F00 q, refl);
          image_kept = refl;
          nothing_told = refl;
        })
        (λ q. word 0x6A82 refl)

    chosen : one_of_three p1 ≡ true → length_fits p1 f.lc ≡ true → Came img s (data_of ch cmd) buf R (select_by img s p1 (data_of ch cmd))
    chosen h l =
        unfold select_by one_of_three in
        if_else_ind (Came img s (data_of ch cmd) buf R) (eqb p1 0x04)
        (λ y. aid (eqb-true p1 0x04 y) (aid_of (data_of ch cmd)) refl)
        (λ n. let k = two_bytes l (eqb-false p1 0x04 n) in
        if_else_ind (Came img s (data_of ch cmd) buf R) (eqb p1 0x02) (λ y. file (eqb-true p1 0x02 y) k) (λ m. master (eqb-true p1 0x00 (simp (n, m) at h)) k))

    tests : Came img s (data_of ch cmd) buf R (select img s f (data_of ch cmd))
    tests =
        unfold select in
        in_order-each (Came img s (data_of ch cmd) buf R) _ _ (word 0x6A86 refl, (word 0x6A86 refl, (word 0x6700 refl, (word 0x6700 refl, tt))))
        (λ p. chosen p.1.0 p.1.1.1.0)

-- ---- FMM

pub fmm-done : FmmDone
fmm-done img s ch cmd buf f so y b = came img s ch cmd buf f b R (fmm img s f (data_of ch cmd)) led tests
  where
    R : Outcome → Type 0
    R = Reported img s ch cmd f

    p1 : ℕ
    p1 = f.header.p1

    p2 : ℕ
    p2 = f.header.p2

    led : decide img s ch cmd ≡ fmm img s f (data_of ch cmd)
    led = by-class img s ch cmd buf f b refl refl (unfold is_command in refl) ∙ (unfold by_class by_own_ins in simp (cla img s ch cmd buf f b, ins img s ch cmd buf f b))

    word : (w : ℕ) → ltb w 0x9000 ≡ true → Came img s (data_of ch cmd) buf R (Err w)
    word = word-came img s (data_of ch cmd) buf R

    report : (n : Named) → (p1 ≡ 0 → n ≡ Current) → ((p1 ≡ 0 → ⊥) → Referred (data_of ch cmd) n) → Came img s (data_of ch cmd) buf R (fmm_named img s p2 n)
    report n c d =
        unfold fmm_named fmm_on done says in
        on-file img s (data_of ch cmd) buf R n (fmm_on p2)
        (λ g e r. in_order-each (Came img s (data_of ch cmd) buf R) _ _ (word 0x6A86 refl, tt)
        (λ p z. record {
          file = g;
          named = n;
          of_current = c;
          of_named = d;
          reached = file_inspected img s n g e r;
          told = data_said 0x9000 (report_data p2 (total img g) (remaining img g) (existing img g)) (set_file s g) img buf
              (report_bound p2 (total img g) (remaining img g) (existing img g)) (accepted_room img s ch buf (is-accepted img s ch cmd buf f b));
          image_kept = refl;
          current = refl;
        }))

    -- the value of `51`
    value : Span → List ℕ
    value q = part (data_of ch cmd) q.at q.len

    refers : (q : Span) → read_reference (data_of ch cmd) ≡ Some q → (n : Named) → (length (value q) ≡ 1 → (get_or (value q) 0 0 % 8 ≡ 0) × (n ≡ Short (get_or (value q) 0 0 / 8)))
        → (length (value q) ≡ 2 → n ≡ Id (id_in (value q))) → Referred (data_of ch cmd) n
    refers q e n c d =
        let x = reference_sound (data_of ch cmd) q e (data_bytes ch cmd f b.shape so y) in
        let w = x.1.file_placed.is in
        record {
          reference = value q;
          writes = x.1.written ∙ ap reference_data (sym w);
          size = subst (λ (l : List ℕ). (1 ≤ length l) × (length l ≤ 2)) (sym w) x.1.file_size;
          by_short_id = c;
          by_file_id = d;
        }

    by-reference : (q : Span) → read_reference (data_of ch cmd) ≡ Some q → (p1 ≡ 0 → ⊥) → Came img s (data_of ch cmd) buf R (fmm_file img s p2 (value q))
    by-reference q e n =
        unfold fmm_file in
        let v = value q in
        if_else_ind (Came img s (data_of ch cmd) buf R) (eqb (length v) 1)
        (λ l. in_order-each (Came img s (data_of ch cmd) buf R) _ _ (word 0x6A80 refl, tt)
        (λ p. report (Short (get_or v 0 0 / 8)) (λ z. absurd (n z))
        (λ _. refers q e (Short (get_or v 0 0 / 8)) (λ _. (eqb-true (get_or v 0 0 % 8) 0 p.0, refl)) (λ t. absurd (omega (arith, t, eqb-true (length v) 1 l))))))
        (λ l. report (Id (id_in v)) (λ z. absurd (n z)) (λ _. refers q e (Id (id_in v)) (λ t. absurd (eqb-false (length v) 1 l t)) (λ _. refl)))

    data-field : (r : Option Span) → read_reference (data_of ch cmd) ≡ r → (p1 ≡ 0 → ⊥) → Came img s (data_of ch cmd) buf R (fmm_by img s p2 (data_of ch cmd) r)
    data-field None e n = word 0x6A80 refl
    data-field (Some q) e n = by-reference q e n

    tests : Came img s (data_of ch cmd) buf R (fmm img s f (data_of ch cmd))
    tests =
        unfold fmm in
        in_order-each (Came img s (data_of ch cmd) buf R) _ _ (word 0x6A86 refl, (word 0x6A86 refl, (word 0x6700 refl, (word 0x6700 refl, tt))))
        (λ p. if_else_ind (Came img s (data_of ch cmd) buf R) (eqb p1 0)
        (λ z. report Current (λ _. refl) (λ n. absurd (n (eqb-true p1 0 z))))
        (λ z. data-field (read_reference (data_of ch cmd)) refl (eqb-false p1 0 z)))
