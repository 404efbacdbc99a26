-- A status word alone: what a call says that has no data, where the session and the image are known by equal numbers. Read
-- specs/Outcome.antt before. Exports `says-only`.
use Prim.Native.Nat.{ℕ}
use mathlib.Core.Path.{◌≡◌, ap, ap₂, ◌∙◌}
use mathlib.Core.List.{List, []}
use Rattle.base.specs.Bytes.{put}
use Rattle.machine_session.specs.declared.Session.{Session}
use Rattle.machine_answer.specs.Outcome.{outcome, word, answered, says}
use Rattle.machine_answer.specs.declared.Answer.{Answer}

-- no data, and perhaps another image
pub says-only : (w : ℕ) (s : Session) (img buf : List ℕ) {t : Session} {im new : List ℕ} {a : Answer} → t ≡ s → im ≡ img
    → (a ≡ answered 0 w t) × (new ≡ put buf 0 (word w)) → outcome a im new ≡ says w [] s img buf
unfolding says
says-only w s img buf {t} {im} {new} o i e =
    ap₂ (λ (x : Answer) (m : List ℕ). outcome x m new) (e.0 ∙ ap (λ (x : Session). answered 0 w x) o) i
    ∙ ap (outcome (answered 0 w s) img) e.1
