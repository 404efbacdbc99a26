-- The data of an answer, and what an accepted call is. Read ../specs/Promises.antt before. Exports `data_said`, `behind_said`,
-- `step_accepted`, `taken_accepted`, `accepted_room`, `accepted_facts`, `status_accepted`, `step-verdict` (the verdict that is told).
use Prim.Native.Nat.{ℕ, ◌+◌, ◌-◌, ◌≤◌}
use mathlib.Core.Path.{◌≡◌, refl, sym, ap, ap₂, subst, ◌∙◌}
use mathlib.Core.Bool.{true}
use mathlib.Core.List.{List, ◌++◌, ◌∷◌, []}
use native.Mathlib.Omega.{arith}
use lib.ListN.{length, take, drop, length-append}
use lib.Dec.{eqb}
use lib.Seq.{sets, take-take, take-append_seam}
use Rattle.base.specs.Choice.{all_of}
use Rattle.machine_chain.specs.Chain.{Chain}
use Rattle.base.specs.Bytes.{put}
use Rattle.base.proofs.Runs.{put_accepted, part-sets, sets-append, drop-sets_add, drop-sets_past}
use Rattle.base.proofs.Cases.{if_else_ind, all_of_facts}
use Rattle.store_image.specs.Image.{well_formed, records_of}
use Rattle.machine_session.specs.Session.{session_fits}
use Rattle.machine_session.specs.Verdict.{refusal_number, verdict_number, verdict}
use Rattle.machine_session.specs.declared.Session.{Session}
use Rattle.machine_session.specs.declared.Refusal.TheVariants.{ShortBuffer, BadImage, BadRights, BadSession}
use Rattle.machine_action.specs.declared.Action.{Action}
use Rattle.machine_action.specs.declared.Action.TheVariants.{SelectApplication, SelectFile, ReadBinary, UpdateBinary, Activate, AppendRecord, ReadRecord, SearchRecord, Report, ReadBinaryOdd}
use Rattle.machine_record.specs.SearchRecord.{search_status}
use Rattle.machine_dispatch.specs.Decide.{decide, data_of}
use Rattle.machine_answer.specs.Outcome.{Outcome, word, says}
use Rattle.machine_link.specs.Link.{chain_fits}
use Rattle.machine.specs.Effects.{searched, done}
use Rattle.machine.specs.Step.{verdict_on, step_by, step}
use Rattle.machine.proofs.Accepting.{Known, verdict_accepted}
use Rattle.promises.specs.Promises.{data_in}
use Rattle.std.specs.Prelude.{Result, Ok, Err}
use Rattle.machine_session.specs.declared.Refusal.{Refusal}

-- the data stands before the word, in a buffer that takes both
pub data_said : (w : ℕ) (dat : List ℕ) (s : Session) (img buf : List ℕ) → length dat ≤ 2048 → 2050 ≤ length buf → data_in (says w dat s img buf) ≡ dat
unfolding says word
data_said w dat s img buf h r =
    let vs : List ℕ = dat ++ word w in
    let n : length vs ≡ length dat + 2 = length-append dat (word w) in
    let m : length dat + 2 - 2 ≡ length dat = omega arith in
    ap₂ (λ (k : ℕ) (l : List ℕ). take k l) m (put_accepted buf 0 vs (omega arith))
    ∙ sym (take-take (length dat) (length vs) (sets buf 0 vs) (omega arith))
    ∙ ap (take (length dat)) (part-sets buf 0 vs (omega arith))
    ∙ take-append_seam dat (word w)

-- behind n bytes of data stand the status word and the buffer as it was
pub behind_said : (w : ℕ) (dat buf : List ℕ) (n : ℕ) → length dat ≡ n → n + 2 ≤ length buf → drop (n + 2 - 2) (put buf 0 (dat ++ word w)) ≡ sets (drop n buf) 0 (word w)
unfolding word
behind_said w dat buf n l room =
    let m : n + 2 - 2 ≡ n = omega arith in
    let at : 0 + length dat ≡ n + 0 = omega (arith, l) in
    ap₂ (λ (k : ℕ) (b : List ℕ). drop k b) m
    (put_accepted buf 0 (dat ++ word w) (omega (arith, l, length-append dat (word w)))
    ∙ sets-append buf 0 dat (word w)
    ∙ ap (λ (k : ℕ). sets (sets buf 0 dat) k (word w)) at)
    ∙ drop-sets_add n (sets buf 0 dat) 0 (word w)
    ∙ ap (λ (b : List ℕ). sets b 0 (word w)) (drop-sets_past n buf 0 dat (omega (arith, l)))

-- an accepted call
pub step_accepted : (img : List ℕ) (s : Session) (ch : Chain) (cmd buf : List ℕ) → verdict_on img s ch (length buf) ≡ (Ok tt) → step img s ch cmd buf ≡ done (decide img s ch cmd) img s (data_of ch cmd) buf
unfolding step step_by
step_accepted img s ch cmd buf e = ap (λ (x : Result (Unit {0}) Refusal). step_by x img s ch cmd buf) e

-- a call that is not refused is accepted
pub taken_accepted : (img : List ℕ) (s : Session) (ch : Chain) (cmd buf : List ℕ) → verdict_number (step img s ch cmd buf).answer.verdict ≡ 0 → verdict_on img s ch (length buf) ≡ (Ok tt)
unfolding step step_by verdict_number refusal_number
taken_accepted img s ch cmd buf e = go (verdict_on img s ch (length buf)) e
  where
    go : (x : Result (Unit {0}) Refusal) → verdict_number (step_by x img s ch cmd buf).answer.verdict ≡ 0 → x ≡ (Ok tt)
    go (Ok tt) e = refl
    go (Err ShortBuffer) e = absurd (omega (arith, e))
    go (Err BadImage) e = absurd (omega (arith, e))
    go (Err BadRights) e = absurd (omega (arith, e))
    go (Err BadSession) e = absurd (omega (arith, e))

-- what is known of an accepted call
known : (img : List ℕ) (s : Session) (ch : Chain) (n : ℕ) → verdict_on img s ch n ≡ (Ok tt) → (well_formed img ≡ true) × (2050 ≤ n) × (all_of (session_fits img s ∷ chain_fits ch ∷ []) ≡ true)
known img s ch n e = subst (Known img (all_of (session_fits img s ∷ chain_fits ch ∷ [])) n) e (verdict_accepted img (all_of (session_fits img s ∷ chain_fits ch ∷ [])) n)

pub accepted_room : (img : List ℕ) (s : Session) (ch : Chain) (buf : List ℕ) → verdict_on img s ch (length buf) ≡ (Ok tt) → 2050 ≤ length buf
accepted_room img s ch buf e = (known img s ch (length buf) e).1

pub accepted_facts : (img : List ℕ) (s : Session) (ch : Chain) (n : ℕ) → verdict_on img s ch n ≡ (Ok tt) → (well_formed img ≡ true) × (session_fits img s ≡ true)
accepted_facts img s ch n e = let k = known img s ch n e in (k.0, (all_of_facts _ k.2).0)

-- a call answered 9000 is accepted
pub status_accepted : (img : List ℕ) (s : Session) (ch : Chain) (cmd buf : List ℕ) → (step img s ch cmd buf).answer.status ≡ 0x9000 → verdict_on img s ch (length buf) ≡ (Ok tt)
unfolding step step_by
status_accepted img s ch cmd buf e = go (verdict_on img s ch (length buf)) e
  where
    go : (x : Result (Unit {0}) Refusal) → (step_by x img s ch cmd buf).answer.status ≡ 0x9000 → x ≡ (Ok tt)
    go (Ok tt) e = refl
    go (Err r) e = absurd (omega (arith, e))

module _ (img : List ℕ) (s : Session) (buf : List ℕ) where
  -- whatever is done is told as accepted
  done-accepted : (x : Result Action ℕ) (d : List ℕ) → (done x img s d buf).answer.verdict ≡ (Ok tt)
  unfolding done says searched
  done-accepted (Err w) d = refl
  done-accepted (Ok (SelectApplication a)) d = refl
  done-accepted (Ok (SelectFile f)) d = refl
  done-accepted (Ok (ReadBinary t o n)) d = refl
  done-accepted (Ok (UpdateBinary n w)) d = refl
  done-accepted (Ok (Activate n)) d = refl
  done-accepted (Ok (AppendRecord r)) d = refl
  done-accepted (Ok (ReadRecord r a b)) d = refl
  done-accepted (Ok (SearchRecord r q ne)) d =
      if_else_ind (λ (o : Outcome). o.answer.verdict ≡ (Ok tt)) (eqb (search_status (records_of img r.kind) d q ne) 0x9000) (λ e. refl) (λ e. refl)
  done-accepted (Ok (Report f p2)) d = refl
  done-accepted (Ok (ReadBinaryOdd t o n)) d = refl

  -- so the verdict that is told is the verdict
  step_by-verdict : (x : Result (Unit {0}) Refusal) (ch : Chain) (cmd : List ℕ) → (step_by x img s ch cmd buf).answer.verdict ≡ x
  unfolding step_by
  step_by-verdict (Ok tt) ch cmd = done-accepted (decide img s ch cmd) (data_of ch cmd)
  step_by-verdict (Err r) ch cmd = refl

  pub step-verdict : (ch : Chain) (cmd : List ℕ) → (step img s ch cmd buf).answer.verdict ≡ verdict_on img s ch (length buf)
  unfolding step
  step-verdict ch cmd = step_by-verdict (verdict_on img s ch (length buf)) ch cmd
