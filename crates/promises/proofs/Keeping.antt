-- What a call keeps, whatever it answers. Read ../specs/Promises.antt, section 1, before. Exports `step_kept`, `put_rest`.
use Prim.Native.Nat.{ℕ, ◌+◌}
use mathlib.Core.Path.{◌≡◌, refl, sym, ap, ◌∙◌}
use mathlib.Core.Bool.{Bool}
use mathlib.Core.List.{List, [], ◌∷◌, ◌++◌, Memᴰ}
use native.Mathlib.Omega.{arith}
use lib.ListN.{length, drop, length-append}
use lib.Seq.{length-sets}
use lib.Dec.{ltb, eqb}
use Rattle.base.specs.Choice.{all_of}
use Rattle.machine_chain.specs.Chain.{Chain, NoChain}
use Rattle.base.specs.Bytes.{put_fits, put}
use Rattle.base.proofs.Cases.{if_else_ind}
use Rattle.base.proofs.Runs.{drop-sets_past}
use Rattle.store_image.specs.Image.{well_formed, records_of}
use Rattle.machine_session.specs.Session.{session_fits}
use Rattle.machine_session.specs.Verdict.{refusal_number, verdict_number, verdict}
use Rattle.machine_session.specs.declared.Session.{Session}
use Rattle.machine_session.specs.declared.Refusal.{Refusal}
use Rattle.machine_session.specs.declared.Refusal.TheVariants.{ShortBuffer, BadImage, BadRights, BadSession}
use Rattle.machine_record.specs.SearchRecord.{search_status}
use Rattle.machine_apdu.specs.Shape.{shape_of}
use Rattle.machine_apdu.specs.declared.Frame.{Frame}
use Rattle.machine_dispatch.specs.Decide.{by_class, data_of, on_course, by_shape, decide, chain_on, chain_by, chain_behind}
use Rattle.machine_action.specs.declared.Action.{Action}
use Rattle.machine_action.specs.declared.Action.TheVariants.{SelectApplication, SelectFile, ReadBinary, UpdateBinary, Activate, AppendRecord, ReadRecord, SearchRecord, Report, ReadBinaryOdd}
use Rattle.machine_answer.specs.Outcome.{Outcome, outcome, refused, word, says}
use Rattle.machine.specs.Effects.{searched, done}
use Rattle.machine_link.specs.Link.{turn, chain_fits}
use Rattle.machine_link.specs.declared.Course.{Course}
use Rattle.machine_link.specs.declared.Course.TheVariants.{Extends, Goes}
use Rattle.machine.specs.Step.{verdict_on, step_by, step, chain_after_by, chain_after}
use Rattle.promises.specs.Promises.{Kept, SaysNo}
use Rattle.std.specs.Prelude.{Option, Some, None, Result, Ok, Err}

-- a run stored at the start changes nothing behind it
pub put_rest : (buf vs : List ℕ) → drop (length vs) (put buf 0 vs) ≡ drop (length vs) buf
unfolding put
put_rest buf vs =
    if_else_ind (λ (l : List ℕ). drop (length vs) l ≡ drop (length vs) buf) (put_fits buf 0 vs) (λ e. drop-sets_past (length vs) buf 0 vs (omega arith)) (λ e. refl)

put-size : (buf vs : List ℕ) → length (put buf 0 vs) ≡ length buf
unfolding put
put-size buf vs = if_else_ind (λ (l : List ℕ). length l ≡ length buf) (put_fits buf 0 vs) (λ e. length-sets buf 0 vs) (λ e. refl)

module _ (img : List ℕ) (s : Session) (ch : Chain) (buf : List ℕ) where
  -- an answer with a status word, perhaps another image, another session and another chain
  says-kept : (w : ℕ) (dat : List ℕ) (t : Session) (im : List ℕ) (left : Chain) → ((w ≡ 0x9000 → ⊥) → im ≡ img) → ((w ≡ 0x9000 → ⊥) → t ≡ s)
      → ((w ≡ 0x9000 → ⊥) → left ≡ NoChain) → Kept img s ch buf (says w dat t im buf) left
  unfolding says word verdict_number
  says-kept w dat t im left i j k =
      record {
        image_kept = i;
        session_kept = j;
        chain_dropped = λ v. k;
        chain_kept = λ e. k;
        rest_kept = ap (λ (n : ℕ). drop n (put buf 0 (dat ++ word w))) (sym long) ∙ put_rest buf (dat ++ word w) ∙ ap (λ (n : ℕ). drop n buf) long;
        size_kept = put-size buf (dat ++ word w);
        number = Memᴰ.head refl;
        refused = λ h. absurd (omega (arith, h));
      }
    where
      long : length (dat ++ word w) ≡ length dat + 2
      long = length-append dat (word w)

  -- a status word alone, and an effect
  word_kept : (w : ℕ) → Kept img s ch buf (says w [] s img buf) NoChain
  word_kept w = says-kept w [] s img NoChain (λ h. refl) (λ h. refl) (λ h. refl)

  effect-kept : (dat : List ℕ) (t : Session) (im : List ℕ) (left : Chain) → Kept img s ch buf (says 0x9000 dat t im buf) left
  effect-kept dat t im left = says-kept 0x9000 dat t im left (λ h. absurd (h refl)) (λ h. absurd (h refl)) (λ h. absurd (h refl))

  done-kept : (x : Result Action ℕ) (d : List ℕ) → Kept img s ch buf (done x img s d buf) NoChain
  unfolding done searched
  done-kept (Err w) d = word_kept w
  done-kept (Ok (SelectApplication a)) d = effect-kept _ _ _ _
  done-kept (Ok (SelectFile f)) d = effect-kept _ _ _ _
  done-kept (Ok (ReadBinary t o n)) d = effect-kept _ _ _ _
  done-kept (Ok (UpdateBinary n w)) d = effect-kept _ _ _ _
  done-kept (Ok (Activate n)) d = effect-kept _ _ _ _
  done-kept (Ok (AppendRecord r)) d = effect-kept _ _ _ _
  done-kept (Ok (ReadRecord r a b)) d = effect-kept _ _ _ _
  done-kept (Ok (SearchRecord r q ne)) d =
      if_else_ind (λ (o : Outcome). Kept img s ch buf o NoChain) (eqb (search_status (records_of img r.kind) d q ne) 0x9000) (λ e. effect-kept _ _ _ _) (λ e. word_kept _)
  done-kept (Ok (Report f p2)) d = effect-kept _ _ _ _
  done-kept (Ok (ReadBinaryOdd t o n)) d = effect-kept _ _ _ _

  -- a link that is taken is answered 9000, and leaves the longer chain
  course-kept : (k : Result Course ℕ) (f g : Frame) (d e own : List ℕ) → Kept img s ch buf (done (on_course k img s f d) img s e buf) (chain_on k ch g own)
  unfolding done
  course-kept (Err w) f g d e own = word_kept w
  course-kept (Ok Extends) f g d e own = effect-kept _ _ _ _
  course-kept (Ok Goes) f g d e own = done-kept (by_class img s f d) e

  shape-kept : (a : Option Frame) (cmd e : List ℕ) → Kept img s ch buf (done (by_shape img s ch cmd a) img s e buf) (chain_by ch cmd a)
  unfolding done
  shape-kept None cmd e = word_kept _
  shape-kept (Some f) cmd e = course-kept (turn ch f) _ f _ e _

  refused_kept : (r : Refusal) → Memᴰ (refusal_number r) (0 ∷ 1 ∷ 2 ∷ 4 ∷ []) → Kept img s ch buf (outcome (refused r s) img buf) ch
  unfolding verdict_number refusal_number
  refused_kept r h =
      record {
        image_kept = λ e. refl;
        session_kept = λ e. refl;
        chain_dropped = λ z. absurd (some r z);
        chain_kept = λ e z. e;
        rest_kept = refl;
        size_kept = refl;
        number = h;
        refused = λ e. (refl, refl, refl, refl, refl, refl);
      }
    where
      some : (x : Refusal) → refusal_number x ≡ 0 → ⊥
      some ShortBuffer z = omega (arith, z)
      some BadImage z = omega (arith, z)
      some BadRights z = omega (arith, z)
      some BadSession z = omega (arith, z)

  -- number 3 is no command's
  step_by-kept : (x : Result (Unit {0}) Refusal) (cmd : List ℕ) → (verdict_number x ≡ 3 → ⊥) → Kept img s ch buf (step_by x img s ch cmd buf) (chain_after_by x ch cmd)
  unfolding step_by verdict_number refusal_number decide chain_behind
  step_by-kept (Ok tt) cmd n = shape-kept (shape_of cmd) cmd (data_of ch cmd)
  step_by-kept (Err ShortBuffer) cmd n = refused_kept ShortBuffer (Memᴰ.tail (Memᴰ.head refl))
  step_by-kept (Err BadImage) cmd n = refused_kept BadImage (Memᴰ.tail (Memᴰ.tail (Memᴰ.head refl)))
  step_by-kept (Err BadRights) cmd n = absurd (n refl)
  step_by-kept (Err BadSession) cmd n = refused_kept BadSession (Memᴰ.tail (Memᴰ.tail (Memᴰ.tail (Memᴰ.head refl))))

pub verdict-not-rights : (img : List ℕ) (fits : Bool) (n : ℕ) → verdict_number (verdict img fits n) ≡ 3 → ⊥
unfolding verdict verdict_number refusal_number
verdict-not-rights img fits n =
    let P : Result (Unit {0}) Refusal → Type 0 = λ x. verdict_number x ≡ 3 → ⊥ in
    if_else_ind P (ltb n 2050)
    (λ _ z. omega (arith, z))
    (λ _. if_else_ind P (well_formed img)
    (λ _. if_else_ind P fits (λ _ z. omega (arith, z)) (λ _ z. omega (arith, z)))
    (λ _ z. omega (arith, z)))

pub step_kept : SaysNo
unfolding step chain_after
step_kept img s ch cmd buf =
    step_by-kept img s ch buf (verdict_on img s ch (length buf)) cmd (verdict-not-rights img (all_of (session_fits img s ∷ chain_fits ch ∷ [])) (length buf))
