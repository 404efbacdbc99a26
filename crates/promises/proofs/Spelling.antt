-- A search is answered alike in both spellings of its file's short id. Read ../specs/Promises.antt, `BothSpellings`, before. Exports
-- `both_spellings`.
use Prim.Native.Nat.{ℕ, ◌*◌, ◌%◌, ◌≤◌}
use mathlib.Core.Path.{◌≡◌, refl, sym, ap, subst, ◌∙◌}
use mathlib.Core.List.{List, [], ◌∷◌, ◌++◌}
use native.Mathlib.Omega.{arith}
use lib.ListN.{length, get_or}
use lib.Dec.{leb, eqb, lit≤}
use borrow.Author.Tests.{eqb-false, ltb-true}
use Rattle.machine_chain.specs.Chain.{Chain}
use Rattle.base.specs.Choice.{if_else}
use Rattle.base.proofs.Cases.{by_cases}
use Rattle.store_image.specs.Image.{records_of}
use Rattle.store_kinds.specs.declared.rules.Rule.{Rule}
use Rattle.objects_writer.specs.Writing.{tlv, tag_bytes, length_bytes}
use Rattle.objects_templates.specs.Search.{SearchFields}
use Rattle.machine_session.specs.Order.{in_order}
use Rattle.machine_session.specs.Resolve.{resolve_record}
use Rattle.machine_session.specs.Session.{placed}
use Rattle.machine_session.specs.declared.Access.TheVariants.{Read}
use Rattle.machine_session.specs.declared.Place.TheVariants.{OnRecord}
use Rattle.machine_session.specs.declared.Session.{Session}
use Rattle.machine_session.proofs.Steps.{RecordResolved, RecordOk, resolve_record-well_formed}
use Rattle.machine_apdu.specs.Status.{normal, no_match, wrong_length}
use Rattle.machine_apdu.specs.declared.Frame.{Frame}
use Rattle.machine_action.specs.Tests.{on_record}
use Rattle.machine_record.specs.SearchRecord.{search_named, search_on, search_status}
use Rattle.machine_record.proofs.Spelling.{search_named_alike}
use Rattle.machine_dispatch.specs.Decide.{data_of}
use Rattle.machine_reply_search.specs.Found.{listed, found_data}
use Rattle.machine_reply_search.proofs.Listing.{found-length}
use Rattle.machine_answer.specs.Outcome.{Outcome, outcome, answered, refused, says}
use Rattle.machine.specs.Effects.{searched, done}
use Rattle.machine.specs.Step.{verdict_on, step_by, step}
use Rattle.machine.proofs.Seeking.{reply-short}
use Rattle.promises.specs.Promises.{SearchCommand, with_file, Alike, BothSpellings}
use Rattle.promises.proofs.Answering.{data_said, behind_said, accepted_room, accepted_facts}
use Rattle.promises.proofs.Deciding.{Reached, search_reached, reached-outcome}
use Rattle.promises.proofs.Searching.{numbers, hits_are, reply-is, file-short}
use Rattle.std.specs.Prelude.{Result, Ok, Err}
use Rattle.machine_session.specs.declared.Refusal.{Refusal}

-- ---- outcomes that are alike

-- an outcome is like itself where its status is not 9000
alike_itself : (y z : ℕ) (o : Outcome) → (o.answer.status ≡ 0x9000 → ⊥) → Alike y z o o
alike_itself y z o n = record { answer = refl; image = refl; repeats = λ e. absurd (n e); behind = refl; silent = λ _. refl }

word_alike : (y z : ℕ) (img : List ℕ) (s : Session) (buf : List ℕ) (k : ℕ) → (k ≡ 0x9000 → ⊥) → Alike y z (says k [] s img buf) (says k [] s img buf)
unfolding says
word_alike y z img s buf k n = alike_itself y z (says k [] s img buf) n

-- a reply by one byte has it behind its own tag and length, and is as long as a reply by another
module _ (ns : List ℕ) where
  abbrev before : List ℕ
  before = tag_bytes 0x7F76 ++ length_bytes (length (0x51 ∷ 0x01 ∷ 0x00 ∷ listed ns))

  found-is : (b : ℕ) → found_data (b ∷ []) ns ≡ before ++ (0x51 ∷ 0x01 ∷ b ∷ listed ns)
  unfolding found_data tlv tag_bytes length_bytes
  found-is b = refl

  same_length : (a b : ℕ) → length (found_data (a ∷ []) ns) ≡ length (found_data (b ∷ []) ns)
  same_length a b = sym (found-length (a ∷ []) ns (lit≤ tt)) ∙ found-length (b ∷ []) ns (lit≤ tt)

found_alike : (y z : ℕ) (ns img : List ℕ) (s : Session) (buf : List ℕ) → length (found_data (y ∷ []) ns) ≤ 2048 → 2050 ≤ length buf
    → Alike y z (says 0x9000 (found_data (y ∷ []) ns) s img buf) (says 0x9000 (found_data (z ∷ []) ns) s img buf)
unfolding says
found_alike y z ns img s buf short room =
    let v : List ℕ = found_data (y ∷ []) ns in
    let w : List ℕ = found_data (z ∷ []) ns in
    let e : length w ≡ length v = same_length ns z y in
    record {
      answer = ap (λ (k : ℕ). answered k 0x9000 s) e;
      image = refl;
      repeats = λ _. (before ns, listed ns, data_said 0x9000 v s img buf short room ∙ found-is ns y, data_said 0x9000 w s img buf (omega (arith, e)) room ∙ found-is ns z);
      behind = behind_said 0x9000 w buf (length v) e (omega arith) ∙ sym (behind_said 0x9000 v buf (length v) refl (omega arith));
      silent = λ k. absurd (k refl);
    }

-- ---- what a search for the fields x comes to with the byte b as its reference

module _ (img : List ℕ) (s : Session) (buf : List ℕ) (f : Frame) (x : SearchFields) (some : 1 ≤ length x.text) where
  abbrev matched : Rule → List ℕ
  matched r = numbers (records_of img r.kind) x some

  abbrev status : Rule → ℕ → ℕ
  status r b = in_order ((leb 1 (length (matched r)), no_match) ∷ (leb (length (found_data (b ∷ []) (matched r))) f.ne, wrong_length) ∷ []) normal

  -- by what steps 7 to 9 answer
  abbrev answers : Result Rule ℕ → ℕ → Outcome
  answers (Err k) b = says k [] s img buf
  answers (Ok r) b =
      if_else (eqb (status r b) normal)
      (says normal (found_data (b ∷ []) (matched r)) (placed s (OnRecord r.id (get_or (matched r) 0 0))) img buf)
      (says (status r b) [] s img buf)

  module _ (ch : Chain) (a : verdict_on img s ch (length buf) ≡ (Ok tt)) where
    abbrev room : 2050 ≤ length buf
    room = accepted_room img s ch buf a

    module _ (b : ℕ) (cmd : List ℕ) (c : SearchCommand ch cmd f (with_file x (b ∷ []))) where
      abbrev resolved : Result Rule ℕ
      resolved = resolve_record img s Read (search_named (b ∷ []))

      abbrev ok : RecordOk img s Read resolved
      ok = resolve_record-well_formed img s Read (search_named (b ∷ []))

      abbrev asked : Reached img s ch cmd f (with_file x (b ∷ []))
      asked = search_reached img s ch cmd f (with_file x (b ∷ [])) c

      at-file : (r : Rule) → resolved ≡ Ok r
          → (searched img s (data_of ch cmd) buf r asked.query f.ne ≡ answers (Ok r) b) × (length (found_data (b ∷ []) (matched r)) ≤ 2048)
      unfolding searched search_status
      at-file r e =
          let y : SearchFields = with_file x (b ∷ []) in
          let g : RecordResolved img s Read r = subst (RecordOk img s Read) e ok in
          let o = (accepted_facts img s ch (length buf) a).0 in
          let h = hits_are img s (data_of ch cmd) buf r asked.query f.ne y asked.searches o room g.file.ok in
          let p = reply-is img s (data_of ch cmd) buf r asked.query f.ne y asked.searches o room g.file.ok in
          let k = file-short img s (data_of ch cmd) buf r asked.query f.ne y asked.searches o room g.file.ok in
          (rw (h, p), subst (λ (m : List ℕ). length m ≤ 2048) p (reply-short img (data_of ch cmd) r asked.query o g.file.ok k))

      -- a status word of steps 7 to 9 is not 9000
      stops : (k : ℕ) → resolved ≡ Err k → k ≡ 0x9000 → ⊥
      stops k e z = let h = ltb-true k 0x9000 (subst (RecordOk img s Read) e ok) in omega (arith, z)

      comes-to : (z : Result Rule ℕ) → resolved ≡ z → step img s ch cmd buf ≡ answers z b
      unfolding done
      comes-to z e = reached-outcome img s ch cmd buf f (with_file x (b ∷ [])) asked z a e ∙ acts z e
        where
          acts : (z : Result Rule ℕ) → resolved ≡ z → done (on_record z (search_on asked.query f.ne)) img s (data_of ch cmd) buf ≡ answers z b
          acts (Err k) e = refl
          acts (Ok r) e = (at-file r e).0

-- ---- the theorem

module _ (img : List ℕ) (s : Session) (ch : Chain) (cmd other buf : List ℕ) (f : Frame) (x : SearchFields) (y : ℕ) (n : y % 8 ≡ 0 → ⊥) (c : SearchCommand ch cmd f (with_file x (y ∷ []))) (d : SearchCommand ch other f (with_file x (8 * y ∷ []))) where
  abbrev some : 1 ≤ length x.text
  some = c.sized.text_size

  answers-alike : verdict_on img s ch (length buf) ≡ (Ok tt) → (z : Result Rule ℕ) → resolve_record img s Read (search_named (y ∷ [])) ≡ z → Alike y (8 * y) (answers img s buf f x some z y) (answers img s buf f x some z (8 * y))
  answers-alike a (Err k) e = word_alike y (8 * y) img s buf k (stops img s buf f x some ch a y cmd c k e)
  answers-alike a (Ok r) e =
      let ns = matched img s buf f x some r in
      let l = same_length ns (8 * y) y in
      by_cases (eqb (status img s buf f x some r y) normal)
      (λ t. simp (l, t) (found_alike y (8 * y) ns img (placed s (OnRecord r.id (get_or ns 0 0))) buf (at-file img s buf f x some ch a y cmd c r e).1 (accepted_room img s ch buf a)))
      (λ t. simp (l, t) (word_alike y (8 * y) img s buf (status img s buf f x some r y) (eqb-false _ _ t)))

  spelled-alike : (z : Result (Unit {0}) Refusal) → verdict_on img s ch (length buf) ≡ z → Alike y (8 * y) (step img s ch cmd buf) (step img s ch other buf)
  unfolding step step_by
  spelled-alike (Err r) e = simp e (alike_itself y (8 * y) (outcome (refused r s) img buf) (λ z. omega (arith, z)))
  spelled-alike (Ok tt) e =
      let z = resolve_record img s Read (search_named (y ∷ [])) in
      simp (comes-to img s buf f x some ch e y cmd c z refl, comes-to img s buf f x some ch e (8 * y) other d z (ap (resolve_record img s Read) (search_named_alike y n)))
      (answers-alike e z refl)

pub both_spellings : BothSpellings
both_spellings img s ch cmd other buf f x y n c d = spelled-alike img s ch cmd other buf f x y n c d (verdict_on img s ch (length buf)) refl
