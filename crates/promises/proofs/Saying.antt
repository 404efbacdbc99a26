-- An accepted command gets data and one of the status words (`gets_word`), in at most 2,050 bytes.
-- Read before: ../specs/Promises.antt, section 1.
use Prim.Native.Nat.{ℕ, ◌+◌, ◌-◌, ◌/◌, ◌%◌, ◌≤◌}
use mathlib.Core.Path.{◌≡◌, refl, sym, ap, ap₂, subst, ◌∙◌}
use mathlib.Core.Bool.{true}
use mathlib.Core.List.{List, [], ◌∷◌, ◌++◌, Memᴰ}
use native.Mathlib.Omega.{arith}
use lib.ListN.{length, drop, length-take, length-append}
use lib.Dec.{eqb}
use lib.Seq.{sets, length-sets}
use Rattle.machine_chain.specs.Chain.{Chain, so_far}
use Rattle.base.specs.Bytes.{part, put, AllBytes}
use Rattle.base.proofs.Runs.{put_accepted, part-sets, sets-append}
use Rattle.base.proofs.Cases.{by_cases, if_else_ind}
use borrow.Author.Tests.{eqb-true, eqb-false}
use Rattle.store_image.specs.Image.{well_formed, records_of}
use Rattle.objects_templates.specs.declared.Search.{Search}
use Rattle.store_files.specs.Files.{file_bytes}
use Rattle.machine_session.specs.Verdict.{refusal_number, verdict_number, verdict}
use Rattle.machine_session.specs.declared.Session.{Session}
use Rattle.machine_session.specs.declared.Refusal.TheVariants.{ShortBuffer, BadImage, BadRights, BadSession}
use Rattle.machine_session.proofs.Steps.{in_order-each}
use Rattle.machine_apdu.specs.Shape.{shape_of}
use Rattle.machine_apdu.specs.declared.Frame.{Frame}
use Rattle.machine_record.specs.SearchRecord.{search_status}
use Rattle.machine_dispatch.specs.Decide.{decide, data_by, data_of}
use Rattle.machine_action.specs.declared.Action.{Action}
use Rattle.machine_action.specs.declared.Action.TheVariants.{SelectApplication, SelectFile, ReadBinary, UpdateBinary, Activate, AppendRecord, ReadRecord, SearchRecord, Report, ReadBinaryOdd}
use Rattle.machine_dispatch.proofs.Allowing.{From, reference-short}
use Rattle.machine_reply_record.proofs.Joining.{records_bound}
use Rattle.objects_writer.proofs.Fitting.{length-tlv-part}
use Rattle.machine_reply_fmm.proofs.Reporting.{report_bound}
use Rattle.machine_answer.specs.Outcome.{Outcome, word, says}
use Rattle.machine.specs.Effects.{searched, done}
use Rattle.machine.specs.Step.{verdict_on, step_by, step}
use Rattle.machine.proofs.Seeking.{reply-short}
use Rattle.promises.specs.Words.{words}
use Rattle.promises.specs.Promises.{Answered, GetsWord}
use Rattle.promises.proofs.Answering.{accepted_facts, accepted_room}
use Rattle.promises.proofs.Keeping.{step_kept}
use Rattle.promises.proofs.Wording.{word-most, refusing_word, Worded}
use Rattle.promises.proofs.Whole.{data_bytes, Way, stops, links, whole, way}
use Rattle.std.specs.Prelude.{Option, Some, None, Result, Ok, Err}
use Rattle.machine_session.specs.declared.Refusal.{Refusal}

-- data and a word, in a buffer that takes both
said : (w : ℕ) (dat : List ℕ) (s : Session) (img buf : List ℕ) → 2050 ≤ length buf → length dat ≤ 2048 → Memᴰ w words → Answered (says w dat s img buf)
unfolding says
said w dat s img buf r h e =
    record { known = e; word_counted = omega arith; data_bounded = omega arith; word_last = last }
  where
    long : length (dat ++ word w) ≡ length dat + 2
    long = unfold word in length-append dat (word w)

    stored : put buf 0 (dat ++ word w) ≡ sets (sets buf 0 dat) (0 + length dat) (word w)
    stored = put_accepted buf 0 (dat ++ word w) (omega (arith, long)) ∙ sets-append buf 0 dat (word w)

    high : w / 256 % 256 ≡ w / 256
    high = omega (arith, word-most w e)

    last : part (put buf 0 (dat ++ word w)) (length dat + 2 - 2) 2 ≡ w / 256 ∷ w % 256 ∷ []
    last =
        unfold word in
        let m : length dat + 2 - 2 ≡ 0 + length dat = omega arith in
        ap₂ (λ (l : List ℕ) (k : ℕ). part l k 2) stored m
        ∙ part-sets (sets buf 0 dat) (0 + length dat) (word w) (omega (arith, length-sets buf 0 dat))
        ∙ ap (λ (k : ℕ). k ∷ w % 256 ∷ []) high

-- the status of a search is one of the words
search_word : (rs : List (List ℕ)) (d : List ℕ) (q : Search) (ne : ℕ) → Memᴰ (search_status rs d q ne) words
unfolding search_status words
search_word rs d q ne =
    in_order-each (λ (w : ℕ). Memᴰ w words) _ _ (Memᴰ.tail (Memᴰ.head refl), (refusing_word 0x6700 refl, tt)) (λ p. Memᴰ.head refl)

module _ (img : List ℕ) (s : Session) (buf : List ℕ) (o : well_formed img ≡ true) (room : 2050 ≤ length buf) where
  -- a word alone, and 9000 with data
  alone : (w : ℕ) (t : Session) (im : List ℕ) → Memᴰ w words → Answered (says w [] t im buf)
  alone w t im e = said w [] t im buf room (omega arith) e

  with-data : (dat : List ℕ) (t : Session) → length dat ≤ 2048 → Answered (says 0x9000 dat t img buf)
  with-data dat t h = said 0x9000 dat t img buf room h (unfold words in Memᴰ.head refl)

  did : (t : Session) (im : List ℕ) → Answered (says 0x9000 [] t im buf)
  did t im = alone 0x9000 t im (unfold words in Memᴰ.head refl)

  done-answered : (f : Frame) (d : List ℕ) (x : Result Action ℕ) → AllBytes d → From img s f d x → Worded x → Answered (done x img s d buf)
  unfolding done searched words
  done-answered f d (Err w) b h k = alone w s img (refusing_word w k)
  done-answered f d (Ok (SelectApplication a)) b h k = did _ _
  done-answered f d (Ok (SelectFile g)) b h k = did _ _
  done-answered f d (Ok (ReadBinary t a n)) b h k = with-data _ _ (omega (arith, h.2, length-take n (drop a (file_bytes img t))))
  done-answered f d (Ok (UpdateBinary n w)) b h k = did _ _
  done-answered f d (Ok (Activate n)) b h k = did _ _
  done-answered f d (Ok (AppendRecord r)) b h k = did _ _
  done-answered f d (Ok (ReadRecord r a z)) b h k = with-data _ _ (records_bound _ a z)
  done-answered f d (Ok (SearchRecord r q ne)) b h k =
      if_else_ind Answered (eqb (search_status (records_of img r.kind) d q ne) 0x9000)
      (λ e. with-data _ _ (reply-short img d r q o h.file.file.ok (reference-short d q h.asks b)))
      (λ e. alone _ s img (search_word (records_of img r.kind) d q ne))
  done-answered f d (Ok (Report g p2)) b h k = with-data _ _ (report_bound p2 _ _ _)
  done-answered f d (Ok (ReadBinaryOdd t a n)) b h k = with-data _ _ (omega (arith, h.2, length-tlv-part 0x53 (file_bytes img t) a n (omega arith) h.3))

  way-answered : (ch : Chain) (cmd : List ℕ) → AllBytes (so_far ch) → AllBytes cmd → Way img s ch cmd → Answered (done (decide img s ch cmd) img s (data_of ch cmd) buf)
  unfolding done words
  way-answered ch cmd a b (stops w n e) = subst (λ (y : Result Action ℕ). Answered (done y img s (data_of ch cmd) buf)) (sym e) (alone w s img (refusing_word w n))
  way-answered ch cmd a b (links f y) = subst (λ (y : Result Action ℕ). Answered (done y img s (data_of ch cmd) buf)) (sym y.action) (did s img)
  way-answered ch cmd a b (whole f y) = done-answered f (data_of ch cmd) (decide img s ch cmd) (data_bytes ch cmd f y.whole a b) y.from y.worded

pub gets_word : GetsWord
unfolding step
gets_word img s ch cmd buf a b = go (verdict_on img s ch (length buf)) refl
  where
    go : (x : Result (Unit {0}) Refusal) → verdict_on img s ch (length buf) ≡ x → verdict_number (step_by x img s ch cmd buf).answer.verdict ≡ 0 → Answered (step_by x img s ch cmd buf)
    go (Ok tt) e z =
        unfold step_by in
        way-answered img s buf (accepted_facts img s ch (length buf) e).0 (accepted_room img s ch buf e) ch cmd a b (way img s ch cmd)
    go (Err ShortBuffer) e z = unfold step_by verdict_number refusal_number in absurd (omega (arith, z))
    go (Err BadImage) e z = unfold step_by verdict_number refusal_number in absurd (omega (arith, z))
    go (Err BadRights) e z = unfold step_by verdict_number refusal_number in absurd (omega (arith, z))
    go (Err BadSession) e z = unfold step_by verdict_number refusal_number in absurd (omega (arith, z))

-- so length and status have bounds, whatever is answered
pub step_small : (img : List ℕ) (s : Session) (ch : Chain) (cmd buf : List ℕ) → AllBytes (so_far ch) → AllBytes cmd → ((step img s ch cmd buf).answer.length ≤ 2050) × ((step img s ch cmd buf).answer.status ≤ 0x9000)
step_small img s ch cmd buf a b =
    let x = (step img s ch cmd buf).answer in
    by_cases (eqb (verdict_number x.verdict) 0)
    (λ y. let h = gets_word img s ch cmd buf a b (eqb-true _ _ y) in (h.data_bounded, word-most _ h.known))
    (λ n. let z = eqb-false (verdict_number x.verdict) 0 n in
    let p : 1 ≤ verdict_number x.verdict = omega (arith, z) in
    let h = (step_kept img s ch cmd buf).refused p in (omega (arith, h.0), omega (arith, h.1)))

-- and the status for any command, bytes or not
pub step-status : (img : List ℕ) (s : Session) (ch : Chain) (cmd buf : List ℕ) → (step img s ch cmd buf).answer.status ≤ 0x9000
unfolding step
step-status img s ch cmd buf = go (verdict_on img s ch (length buf))
  where
    by : (x : Result Action ℕ) (d : List ℕ) → Worded x → (done x img s d buf).answer.status ≤ 0x9000
    by (Err w) d k = unfold done says in word-most w (refusing_word w k)
    by (Ok (SelectApplication a)) d k = unfold done says in omega arith
    by (Ok (SelectFile g)) d k = unfold done says in omega arith
    by (Ok (ReadBinary t a n)) d k = unfold done says in omega arith
    by (Ok (UpdateBinary n w)) d k = unfold done says in omega arith
    by (Ok (Activate n)) d k = unfold done says in omega arith
    by (Ok (AppendRecord r)) d k = unfold done says in omega arith
    by (Ok (ReadRecord r a z)) d k = unfold done says in omega arith
    by (Ok (SearchRecord r q ne)) d k = unfold done searched says in if_else_ind (λ (u : Outcome). u.answer.status ≤ 0x9000) (eqb (search_status (records_of img r.kind) d q ne) 0x9000) (λ e. omega arith) (λ e. word-most _ (search_word (records_of img r.kind) d q ne))
    by (Ok (Report g p2)) d k = unfold done says in omega arith
    by (Ok (ReadBinaryOdd t a n)) d k = unfold done says in omega arith

    status-of : (x : Result Action ℕ) → decide img s ch cmd ≡ x → (done x img s (data_of ch cmd) buf).answer.status ≤ 0x9000 → (done (decide img s ch cmd) img s (data_of ch cmd) buf).answer.status ≤ 0x9000
    status-of x e = subst (λ (y : Result Action ℕ). (done y img s (data_of ch cmd) buf).answer.status ≤ 0x9000) (sym e)

    by_way : Way img s ch cmd → (done (decide img s ch cmd) img s (data_of ch cmd) buf).answer.status ≤ 0x9000
    by_way (stops w n e) = status-of (Err w) e (by (Err w) (data_of ch cmd) n)
    by_way (links f y) = status-of (Err 0x9000) y.action (unfold done says in omega arith)
    by_way (whole f y) = by (decide img s ch cmd) (data_of ch cmd) y.worded

    go : (x : Result (Unit {0}) Refusal) → (step_by x img s ch cmd buf).answer.status ≤ 0x9000
    go (Ok tt) = unfold step_by in by_way (way img s ch cmd)
    go (Err r) = unfold step_by in omega arith
