-- Where the body of a file stands: what the result of `malquindo_file` tells, that no command moves a body, and what a caller lends.
-- Read before: ../specs/Bodies.antt. Exports `c_file`, `c_file_stays`; `lent_body-is`, `lent_records`, `lent_grown` (the body that is lent, and its
-- records over calls), `after_c-append`.
use Prim.Native.Nat.{ℕ, zero, suc, ◌+◌, ◌-◌, ◌*◌, ◌≤◌, ◌<◌}
use mathlib.Core.Path.{◌≡◌, refl, sym, ap, ap₂, ◌∙◌}
use mathlib.Core.Bool.{true, false}
use mathlib.Core.List.{List, [], ◌∷◌, ◌++◌}
use native.Mathlib.Omega.{arith}
use native.Mathlib.Nat.{mod-eq_of_lt}
use lib.ListN.{length}
use lib.Dec.{eqb}
use borrow.Author.Tests.{leb-true}
use Rattle.base.specs.Bytes.{part}
use Rattle.base.proofs.Cases.{false-true, by_cases, if_else_ind, all_of_facts}
use Rattle.store_records.specs.Body.{records}
use Rattle.store_kinds.specs.Rules.{is_biometrics, biometrics_kind}
use Rattle.store_image.specs.Image.{len_at, kind_at, find, has, body, records_of, well_formed}
use Rattle.store_image.proofs.Laws.{found_inside, found-head, found-body, has-found, has_missing, body_lacking, append-find, update-find, activate-find}
use Rattle.machine_session.specs.declared.Session.{Session}
use Rattle.machine_record.specs.SearchRecord.{search_status}
use Rattle.machine_chain.specs.Chain.{Chain}
use Rattle.machine_dispatch.specs.Decide.{decide, data_of}
use Rattle.machine_action.specs.declared.Action.{Action}
use Rattle.machine_action.specs.declared.Action.TheVariants.{SelectApplication, SelectFile, ReadBinary, UpdateBinary, Activate, AppendRecord, ReadRecord, SearchRecord, Report, ReadBinaryOdd}
use Rattle.machine_answer.specs.Outcome.{Outcome, says}
use Rattle.machine.specs.Effects.{searched, done}
use Rattle.machine.specs.Step.{step_by}
use Rattle.machine.specs.Lent.{verdict_lent, step_lent}
use Rattle.machine_session_bytes.specs.Layout.{is_session, session_in}
use Rattle.malquindo.specs.Face.{chain_part, chain_of_c, Called, malformed, called, found_result, file_result}
use Rattle.promises.specs.Linked.{CCall, CommandC, after_call_c, after_c, additions_c, history_c}
use Rattle.promises.specs.Bodies.{file_place_in, file_length_in, FileC, CFile, CFileStays, lent_body}
use Rattle.promises.proofs.Calling.{c_holds}
use Rattle.std.specs.Prelude.{Option, Some, None, Result, Ok, Err}
use Rattle.machine_session.specs.declared.Refusal.{Refusal}

-- ---- where a file's body stands

image-short : (img : List ℕ) → well_formed img ≡ true → length img ≤ 262144
unfolding well_formed
image-short img o = leb-true _ _ (all_of_facts _ o).0

-- the two numbers of a result
file-place : (s n r : ℕ) → n < 4294967296 → r ≡ s * 4294967296 + n → file_place_in r ≡ s
unfolding file_place_in
file-place s n r h e = omega arith

file-length : (s n r : ℕ) → n < 4294967296 → r ≡ s * 4294967296 + n → file_length_in r ≡ n
unfolding file_length_in
file-length s n r h e = omega arith

module _ (img : List ℕ) (k r : ℕ) where
  file-none : r ≡ 0 → (well_formed img ≡ true → has img k ≡ true → ⊥) → FileC img k r
  unfolding file_place_in file_length_in
  file-none z f =
      record {
        there_complete = λ o h. absurd (f o h);
        there_sound = λ h. absurd (omega arith);
        stands = λ h. absurd (omega arith);
        within = omega arith;
        bytes = λ h. absurd (omega arith);
        head = λ h. absurd (omega arith);
      }

  file-at : (s n : ℕ) → well_formed img ≡ true → find img k ≡ Some (s, n) → r ≡ found_result (Some (s, n)) → FileC img k r
  file-at s n o e f =
      let i = found_inside img k s n e in
      let h = found-head img k s n e in
      let m = image-short img o in
      let q : r ≡ s * 4294967296 + n = f ∙ ap₂ (λ (x y : ℕ). x * 4294967296 + y) (mod-eq_of_lt (omega arith)) (mod-eq_of_lt (omega arith)) in
      let p = file-place s n r (omega arith) q in
      let l = file-length s n r (omega arith) q in
      record {
        there_complete = λ _ _. omega (arith, h.0);
        there_sound = λ _. (o, has-found img k s n e);
        stands = λ _. e ∙ ap₂ (λ (x y : ℕ). Some (x, y)) (sym p) (sym l);
        within = omega arith;
        bytes = λ _. ap₂ (λ (x y : ℕ). part img x y) p l ∙ sym (found-body img k s n e);
        head = λ _. (omega (arith, h.0), ap (λ (x : ℕ). len_at img (x - 6)) p ∙ h.1 ∙ sym l, ap (λ (x : ℕ). kind_at img (x - 6)) p ∙ h.2);
      }

pub c_file : CFile
unfolding file_result
c_file img k = by_cases (well_formed img) (λ o. go o (find img k) refl) (λ o. file-none img k _ (simp o) (λ t _. false-true (sym o ∙ t)))
  where
    go : well_formed img ≡ true → (f : Option (ℕ × ℕ)) → find img k ≡ f → FileC img k (file_result img k)
    go o (Some (s, n)) e = file-at img k _ s n o e (simp (o, e))
    go o None e = file-none img k _ (simp (o, e)) (λ _ h. false-true (sym (has_missing img k e) ∙ h))

-- what is not there is told as 0
none_told : (r : ℕ) → (1 ≤ r → ⊥) → r ≡ 0
none_told zero f = refl
none_told (suc r) f = absurd (f (omega arith))

file_lacking : (img : List ℕ) (k : ℕ) → has img k ≡ false → file_result img k ≡ 0
file_lacking img k h = none_told (file_result img k) (λ g. false-true (sym h ∙ ((c_file img k).there_sound g).1))

-- ---- a command leaves every body where it is

module _ (img : List ℕ) (s : Session) (buf : List ℕ) (k : ℕ) where
  done-find : (x : Result Action ℕ) (d : List ℕ) → find (done x img s d buf).image k ≡ find img k
  unfolding done says searched
  done-find (Err w) d = refl
  done-find (Ok (SelectApplication a)) d = refl
  done-find (Ok (SelectFile f)) d = refl
  done-find (Ok (ReadBinary t o n)) d = refl
  done-find (Ok (UpdateBinary n w)) d = update-find img (biometrics_kind n) w.offset (part d w.bytes.at w.bytes.len) k
  done-find (Ok (Activate n)) d = activate-find img (biometrics_kind n) k
  done-find (Ok (AppendRecord r)) d = append-find img r.kind d k
  done-find (Ok (ReadRecord r a b)) d = refl
  done-find (Ok (SearchRecord r q ne)) d =
      if_else_ind (λ (x : Outcome). find x.image k ≡ find img k) (eqb (search_status (records_of img r.kind) d q ne) 0x9000) (λ e. refl) (λ e. refl)
  done-find (Ok (Report f p2)) d = refl
  done-find (Ok (ReadBinaryOdd t o n)) d = refl

  step_by-find : (v : Result (Unit {0}) Refusal) (ch : Chain) (cmd : List ℕ) → find (step_by v img s ch cmd buf).image k ≡ find img k
  unfolding step_by
  step_by-find (Ok tt) ch cmd = done-find (decide img s ch cmd) (data_of ch cmd)
  step_by-find (Err r) ch cmd = refl

called-find : (img ses cmd buf : List ℕ) (k : ℕ) → find (called img ses cmd buf).image k ≡ find img k
unfolding called malformed step_lent
called-find img ses cmd buf k =
    if_else_ind (λ (c : Called). find c.image k ≡ find img k) (is_session ses)
    (λ _. step_by-find img (session_in ses) buf k (verdict_lent img (session_in ses) (chain_part ses) (length buf)) (chain_of_c ses) cmd)
    (λ _. refl)

pub c_file_stays : CFileStays
unfolding file_result after_c after_call_c
c_file_stays img ses cmd buf k o =
    let w : well_formed (called img ses cmd buf).image ≡ true = (c_holds img (CommandC ses cmd buf ∷ []) o).well in
    simp (o, w, called-find img ses cmd buf k)

-- ---- the body that a caller lends

module _ (img : List ℕ) (k : ℕ) (o : well_formed img ≡ true) where
  -- it is the file's; where there is no such file it has no bytes
  pub lent_body-is : lent_body img k ≡ body img k
  unfolding lent_body file_place_in file_length_in
  lent_body-is =
      let f = c_file img k in
      by_cases (has img k)
      (λ h. f.bytes (f.there_complete o h))
      (λ h. rw (file_lacking img k h) (sym (body_lacking img k h)))

  pub lent_records : records (lent_body img k) ≡ records_of img k
  unfolding records_of
  lent_records = ap records lent_body-is

-- over calls its list of records goes on
pub lent_grown : (img : List ℕ) (k : ℕ) (calls : List CCall) → well_formed img ≡ true → is_biometrics k ≡ false
    → records (lent_body (after_c img calls) k) ≡ records (lent_body img k) ++ additions_c k img calls
unfolding history_c
lent_grown img k calls o b =
    let h = c_holds img calls o in
    lent_records (after_c img calls) k h.well
    ∙ h.records k b
    ∙ ap (λ (rs : List (List ℕ)). rs ++ additions_c k img calls) (sym (lent_records img k o))

pub after_c-append : (img : List ℕ) (cs ds : List CCall) → after_c img (cs ++ ds) ≡ after_c (after_c img cs) ds
unfolding after_c
after_c-append img [] ds = refl
after_c-append img (c ∷ cs) ds = after_c-append (after_call_c img c) cs ds
