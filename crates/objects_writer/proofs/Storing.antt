-- Runs of bytes stored one behind the other from the start of a buffer. Read before: specs/Writer.antt, and `put` in base. Exports `Wrote`
-- (what is stored so far), a law for one run more (`wrote_run`, `wrote_put`, `wrote_after`) and what a writer then answers (`wrote_all`,
-- `wrote_refused`).
use Prim.Native.Nat.{ℕ, ◌+◌, ◌≤◌, ◌<◌}
use mathlib.Core.Path.{◌≡◌, refl, sym, ap, ap₂, ◌∙◌}
use mathlib.Core.Bool.{true}
use mathlib.Core.List.{List, [], ◌++◌}
use native.Mathlib.Omega.{arith}
use native.Mathlib.Nat.{zero-add}
use lib.ListN.{length, length-append}
use lib.Seq.{sets, length-sets}
use Rattle.base.specs.Bytes.{put_fits, put}
use Rattle.base.proofs.Runs.{sets-append, put_fits_accepted, put_fits-refused, put_accepted, put_refused}
use Rattle.objects_writer.specs.Writer.{put_end}
use Rattle.objects_writer.proofs.Writings.{put_end_accepted, put_end-refused}

-- b stands at the start of what was `out`, and r is the place behind it
pub record Wrote (out b : List ℕ) (r : ℕ) (last : List ℕ) : Type 0 where
  pub place : r ≡ length b
  pub bytes : last ≡ sets out 0 b

pub wrote_none : (out : List ℕ) → Wrote out [] 0 out
wrote_none out = record { place = refl; bytes = refl }

-- a run behind those that stand
pub wrote_run : (out b d : List ℕ) {r : ℕ} {last last' : List ℕ} → Wrote out b r last → last' ≡ sets last r d → Wrote out (b ++ d) (r + length d) last'
wrote_run out b d w e =
    record {
      place = ap (λ (k : ℕ). k + length d) w.place ∙ sym (length-append b d);
      bytes =
          e
          ∙ ap₂ (λ (l : List ℕ) (k : ℕ). sets l k d) w.bytes (w.place ∙ sym (zero-add (length b)))
          ∙ sym (sets-append out 0 b d);
    }

-- how long the buffer is then, and where the next run ends
pub wrote_length : (out b : List ℕ) {r : ℕ} {last : List ℕ} → Wrote out b r last → length last ≡ length out
wrote_length out b w = ap length w.bytes ∙ length-sets out 0 b

wrote_room : (out b d : List ℕ) (r : ℕ) (last : List ℕ) → Wrote out b r last → length (b ++ d) ≤ length out → r + length d ≤ length last
wrote_room out b d r last w h = omega (arith, w.place, wrote_length out b w, length-append b d)

-- the same by a store that asks for room
pub wrote_put : (out b d : List ℕ) {r : ℕ} {last last' : List ℕ} → length (b ++ d) ≤ length out → Wrote out b r last → last' ≡ put last r d → Wrote out (b ++ d) (r + length d) last'
wrote_put out b d {r} {last} h w e = wrote_run out b d w (e ∙ put_accepted last r d (wrote_room out b d r last w h))

pub wrote_after : (out b d : List ℕ) {r r' : ℕ} {last last' : List ℕ} → length (b ++ d) ≤ length out → Wrote out b r last → (r' ≡ put_end last r d) × (last' ≡ put last r d) → Wrote out (b ++ d) r' last'
wrote_after out b d {r} {r'} {last} h w e =
    let p = wrote_put out b d h w e.1 in
    let f : put_fits last r d ≡ true = put_fits_accepted last r d (wrote_room out b d r last w h) in
    record { place = e.0 ∙ sym (put_end_accepted last r d f) ∙ p.place; bytes = p.bytes }

-- what a writer answers and stores: all of the bytes, or none of them
pub wrote_all : (out b b' : List ℕ) {r : ℕ} {last : List ℕ} → b ≡ b' → length b' ≤ length out → Wrote out b r last → (r ≡ put_end out 0 b') × (last ≡ put out 0 b')
wrote_all out b b' e h w = (
  w.place ∙ ap length e ∙ sym (zero-add (length b')) ∙ put_end_accepted out 0 b' (put_fits_accepted out 0 b' (omega arith)),
  w.bytes ∙ ap (sets out 0) e ∙ sym (put_accepted out 0 b' (omega arith)),
)

pub wrote_refused : (out b : List ℕ) → length out < length b → (0 ≡ put_end out 0 b) × (out ≡ put out 0 b)
wrote_refused out b h = (put_end-refused out 0 b (put_fits-refused out 0 b (omega arith)), sym (put_refused out 0 b (omega arith)))
