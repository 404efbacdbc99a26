-- One command, from the machine's answer to the bytes that a caller gets. Read specs/Face.antt before. Exports `lent_rest`, `called-answered` for bytes
-- that are a session, `called-refused` for bytes that are none; `cut-answered` and `cut-refused`, the same of a cut.
use Prim.Native.Nat.{ℕ, ◌+◌, ◌-◌, ◌≤◌, ◌<◌}
use mathlib.Core.Path.{◌≡◌, refl, sym, ap, ap₂, ◌∙◌}
use mathlib.Core.Bool.{Bool, true, false}
use mathlib.Core.List.{List, ◌++◌, append-nil}
use native.Mathlib.Omega.{arith}
use lib.ListN.{length, take, drop, length-append, length-drop, drop_of_length-le}
use Rattle.base.specs.Bytes.{part, put_fits, put}
use Rattle.base.proofs.Parts.{part_all}
use Rattle.base.proofs.Runs.{put_fits_accepted, length-put, put-behind}
use Rattle.machine_chain.specs.Layout.{no_chain_bytes}
use Rattle.machine_chain.proofs.Joining.{blank-length}
use borrow.Author.Tests.{le-leb, lt-leb}
use Rattle.machine_session.specs.Verdict.{verdict}
use Rattle.machine_session.specs.declared.Session.{Session}
use Rattle.machine_answer.specs.Outcome.{outcome}
use Rattle.machine.specs.Lent.{step_lent, chain_into}
use Rattle.machine_answer.specs.declared.Answer.{Answer}
use Rattle.machine_cut.specs.Cutting.{cut_outcome, cut_lent}
use Rattle.machine_cut.specs.declared.CutAnswer.{CutAnswer}
use Rattle.machine_session_bytes.specs.Layout.{session_bytes, is_session, session_in}
use Rattle.malquindo.specs.Face.{result_of, whole_bytes, takes_session, opened_in, chain_part, session_after, called_as, called_by, malformed, called, cut_result, called_cut_as, called_cut_by, called_cut}

-- the chain's bytes were lent and came back behind the first 25
pub lent_rest : (ses last : List ℕ) → take 25 ses ++ (last ++ drop (length ses - 25) (drop 25 ses)) ≡ take 25 ses ++ last
lent_rest ses last =
    ap (λ (l : List ℕ). take 25 ses ++ (last ++ l)) (drop_of_length-le (drop 25 ses) {i = length ses - 25} (omega (arith, length-drop 25 ses)))
    ∙ ap (λ (l : List ℕ). take 25 ses ++ l) (append-nil last)

pub called-answered : (img ses cmd buf : List ℕ) {s : Session} {xs : List ℕ} {a : Answer} {img' mid ses' buf' xs' : List ℕ} {r : ℕ} → is_session ses ≡ true → s ≡ session_in ses → xs ≡ chain_part ses
    → (outcome a img' buf' ≡ step_lent img s xs cmd buf) × (xs' ≡ chain_into img s xs cmd (length buf)) → mid ≡ take 25 ses ++ xs'
    → ses' ≡ session_after mid a.status a.session → r ≡ result_of a.verdict a.length a.status → called_as r img' ses' buf' ≡ called img ses cmd buf
unfolding called
called-answered img ses cmd buf {a = a} {img' = img'} {mid = mid} {buf' = buf'} y x w e m k r =
    let z : mid ≡ take 25 ses ++ chain_into img (session_in ses) (chain_part ses) cmd (length buf) =
    m ∙ ap (λ (l : List ℕ). take 25 ses ++ l) (e.1 ∙ ap₂ (λ (t : Session) (l : List ℕ). chain_into img t l cmd (length buf)) x w) in
    simp y
    (ap₂ (λ (n : ℕ) (l : List ℕ). called_as n img' l buf') r (k ∙ ap (λ (l : List ℕ). session_after l a.status a.session) z)
    ∙ ap (called_by (take 25 ses ++ chain_into img (session_in ses) (chain_part ses) cmd (length buf)))
    (e.0 ∙ ap₂ (λ (t : Session) (l : List ℕ). step_lent img t l cmd buf) x w))

pub called-refused : (img ses cmd buf : List ℕ) {r : ℕ} → is_session ses ≡ false → r ≡ result_of (verdict img false (length buf)) 0 0 → called_as r img ses buf ≡ called img ses cmd buf
unfolding called malformed
called-refused img ses cmd buf n r = simp n (ap (λ (x : ℕ). called_as x img ses buf) r)

module _ (img ses cmd : List ℕ) (n : ℕ) where
  pub cut-answered : {s : Session} {xs : List ℕ} {a : CutAnswer} {last : List ℕ} {r : ℕ} → is_session ses ≡ true → s ≡ session_in ses → xs ≡ part ses 25 (length ses)
      → cut_outcome a last ≡ cut_lent img s xs cmd n
      → r ≡ cut_result a.verdict a.stores → called_cut_as r last ≡ called_cut img ses cmd n
  unfolding called_cut
  cut-answered {last = last} y x w e r =
      let z = w ∙ part_all ses 25 (length ses) (omega arith) in
      simp y (ap (λ (m : ℕ). called_cut_as m last) r ∙ ap called_cut_by (e ∙ ap₂ (λ (t : Session) (l : List ℕ). cut_lent img t l cmd n) x z))

  pub cut-refused : {r : ℕ} → is_session ses ≡ false → r ≡ cut_result (verdict img false 2050) 0 → called_cut_as r img ≡ called_cut img ses cmd n
  unfolding called_cut
  cut-refused e r = simp e (ap (λ (m : ℕ). called_cut_as m img) r)

-- ---- a session without a chain, stored whole

module _ (ses : List ℕ) (s : Session) where
  pub opened-short : length ses < 1054 → (false ≡ takes_session ses) × (ses ≡ opened_in ses s)
  unfolding takes_session opened_in
  opened-short h = let e = lt-leb 1054 (length ses) h in (sym e, rw e refl)

  pub opened-stored : {mid last : List ℕ} {r : Bool} → 1054 ≤ length ses → (mid ≡ put ses 0 (session_bytes s)) × (length (session_bytes s) ≡ 25)
      → (r ≡ put_fits mid 25 no_chain_bytes) × (last ≡ put mid 25 no_chain_bytes) → (r ≡ takes_session ses) × (last ≡ opened_in ses s)
  unfolding takes_session opened_in whole_bytes
  opened-stored {mid} h m e =
      let l : length mid ≡ length ses = ap length m.0 ∙ length-put ses 0 (session_bytes s) in
      let z : 0 + length (session_bytes s) ≡ 25 = omega (arith, m.1) in
      let t = le-leb 1054 (length ses) h in (
        e.0 ∙ put_fits_accepted mid 25 no_chain_bytes (omega (arith, blank-length)) ∙ sym t,
        e.1
            ∙ ap₂ (λ (x : List ℕ) (k : ℕ). put x k no_chain_bytes) m.0 (sym z)
            ∙ put-behind ses 0 (session_bytes s) no_chain_bytes (omega (arith, length-append (session_bytes s) no_chain_bytes, blank-length, m.1))
            ∙ rw t refl,
      )
