-- Three pieces stored one behind the other are stored whole, or nothing is. Read Bytes of base before. Exports `pieces-refused`,
-- `pieces_accepted`, `session-length`.
use Rattle.machine_session.specs.declared.Session.{Session}
use Rattle.machine_session_bytes.specs.Layout.{place_bytes, session_bytes}
use Prim.Native.Nat.{ℕ, ◌+◌, ◌≤◌, ◌<◌}
use mathlib.Core.Path.{◌≡◌, sym, ap, ◌∙◌}
use mathlib.Core.Bool.{Bool, false}
use mathlib.Core.List.{List, [], ◌∷◌, ◌++◌, append_assoc}
use native.Mathlib.Omega.{arith}
use lib.ListN.{length, length-append}
use lib.Seq.{sets, length-sets}
use Rattle.base.specs.Bytes.{put_fits, put}
use Rattle.base.proofs.Runs.{put_fits_accepted, put_fits-refused, put_accepted, put_refused, put-behind}

module _ (out a b c : List ℕ) (i : length a ≡ 3) (j : length b ≡ 17) (k : length c ≡ 5) where
  abbrev all : List ℕ
  all = a ++ (b ++ c)

  sizes : (length (a ++ b) ≡ 20) × (length all ≡ 25)
  sizes = (omega (arith, length-append a b), omega (arith, length-append a (b ++ c), length-append b c))

  pub pieces-refused : length out < 25 → (false ≡ put_fits out 0 all) × (out ≡ put out 0 all) × (length all ≡ 25)
  pieces-refused l = let n = sizes.1 in (sym (put_fits-refused out 0 all (omega arith)), sym (put_refused out 0 all (omega arith)), n)

  module _ (l : 25 ≤ length out) where
    after_two : put (put out 0 a) 3 b ≡ put out 0 (a ++ b)
    after_two =
        let m = sizes.0 in
        let e : 0 + length a ≡ 3 = omega arith in
        ap (λ (n : ℕ). put (put out 0 a) n b) (sym e) ∙ put-behind out 0 a b (omega arith)

    after-all : put (put out 0 (a ++ b)) 20 c ≡ put out 0 all
    after-all =
        let m = sizes.0 in
        let e : 0 + length (a ++ b) ≡ 20 = omega arith in
        ap (λ (n : ℕ). put (put out 0 (a ++ b)) n c) (sym e)
        ∙ put-behind out 0 (a ++ b) c (omega (arith, length-append (a ++ b) c))
        ∙ ap (put out 0) (append_assoc a b c)

    room : put_fits (put out 0 (a ++ b)) 20 c ≡ put_fits out 0 all
    room =
        let m = sizes.0 in
        let n = sizes.1 in
        let s : length (sets out 0 (a ++ b)) ≡ length out = length-sets out 0 (a ++ b) in
        ap (λ (x : List ℕ). put_fits x 20 c) (put_accepted out 0 (a ++ b) (omega arith))
        ∙ put_fits_accepted (sets out 0 (a ++ b)) 20 c (omega arith)
        ∙ sym (put_fits_accepted out 0 all (omega arith))

    pub pieces_accepted : {o₁ o₂ o₃ : List ℕ} {r : Bool} → o₁ ≡ put out 0 a → o₂ ≡ put o₁ 3 b → (r ≡ put_fits o₂ 20 c) × (o₃ ≡ put o₂ 20 c) → (r ≡ put_fits out 0 all) × (o₃ ≡ put out 0 all) × (length all ≡ 25)
    pieces_accepted e f g =
        let h = f ∙ ap (λ (x : List ℕ). put x 3 b) e ∙ after_two in
        (g.0 ∙ ap (λ (x : List ℕ). put_fits x 20 c) h ∙ room, g.1 ∙ ap (λ (x : List ℕ). put x 20 c) h ∙ after-all, sizes.1)

-- the bytes of a session, by those of its place
pub session-length : (s : Session) {l : List ℕ} → l ≡ place_bytes s.application s.place
    → length ((s.rights.flags ∷ s.rights.travel ∷ s.rights.visa ∷ []) ++ (s.rights.biometrics ++ l)) ≡ 25 → length (session_bytes s) ≡ 25
unfolding session_bytes
session-length s e h =
    sym (ap (λ (x : List ℕ). length ((s.rights.flags ∷ s.rights.travel ∷ s.rights.visa ∷ []) ++ (s.rights.biometrics ++ x))) e) ∙ h
