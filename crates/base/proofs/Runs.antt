-- A run of bytes stored in a list. Read before: specs/Bytes.antt. Exports the laws of `sets` that the library lacks, `sets-turn` (one turn
-- of a loop that copies), `put_fits_accepted`, `put_accepted` and their likes, and `put-behind`.
use Prim.Native.Nat.{ℕ, suc, ◌+◌, ◌≤◌, ◌<◌}
use mathlib.Core.Path.{◌≡◌, refl, sym, ap, ◌∙◌}
use mathlib.Core.Bool.{true, false}
use mathlib.Core.List.{List, [], ◌∷◌, ◌++◌, append_assoc}
use native.Mathlib.Omega.{arith}
use native.Mathlib.Numerals.{add-one}
use native.Mathlib.Nat.{add-zero, add-suc}
use lib.ListN.{length, get_or, take, drop, set, length-append}
use lib.Seq.{sets, get_or-set_other, drop-set-lt, drop-set-add, take-suc, length-sets, sets-eq, drop_at, take_at, length-take-le}
use borrow.Author.Tests.{le-leb, lt-leb}
use Rattle.base.specs.Bytes.{part, put_fits, put}
use Rattle.base.proofs.Cases.{if_else_ind}

pub sets_snoc : (l : List ℕ) (i : ℕ) (vs : List ℕ) (a : ℕ) → sets l i (vs ++ (a ∷ [])) ≡ set (sets l i vs) (i + length vs) a
sets_snoc l i [] a = simp add-zero
sets_snoc l i (v ∷ vs) a = sets_snoc (set l i v) (suc i) vs a ∙ ap (λ (k : ℕ). set (sets (set l i v) (suc i) vs) k a) (omega arith)

-- one turn of a loop that copies
pub sets-turn : (l d : List ℕ) (i : ℕ) (s : List ℕ) (j : ℕ) → d ≡ sets l i (take j s) → j < length s → set d (i + j) (get_or s j 0) ≡ sets l i (take (j + 1) s)
sets-turn l d i s j q h =
    let e : length (take j s) ≡ j = length-take-le j s (omega arith) in
    ap (λ (r : List ℕ). set r (i + j) (get_or s j 0)) q
    ∙ sym (ap (λ (k : ℕ). sets l i (take k s)) (add-one j)
    ∙ ap (sets l i) (take-suc s j 0 h)
    ∙ sets_snoc l i (take j s) (get_or s j 0)
    ∙ ap (λ (k : ℕ). set (sets l i (take j s)) (i + k) (get_or s j 0)) e)

-- before the run
pub get_d_sets_before : (l : List ℕ) (i : ℕ) (vs : List ℕ) (p : ℕ) → p < i → get_or (sets l i vs) p 0 ≡ get_or l p 0
get_d_sets_before l i [] p h = refl
get_d_sets_before l i (v ∷ vs) p h = get_d_sets_before (set l i v) (suc i) vs p (omega arith) ∙ get_or-set_other l i p v 0 (λ e. omega arith)

-- behind the run
pub get_d_sets-after : (l : List ℕ) (i : ℕ) (vs : List ℕ) (p : ℕ) → i + length vs ≤ p → get_or (sets l i vs) p 0 ≡ get_or l p 0
get_d_sets-after l i [] p h = refl
get_d_sets-after l i (v ∷ vs) p h = get_d_sets-after (set l i v) (suc i) vs p (omega arith) ∙ get_or-set_other l i p v 0 (λ e. omega arith)

-- the run itself
pub part-sets : (l : List ℕ) (i : ℕ) (vs : List ℕ) → i + length vs ≤ length l → part (sets l i vs) i (length vs) ≡ vs
part-sets l i vs h =
    ap (λ (r : List ℕ). take (length vs) (drop i r)) (sets-eq vs l i h ∙ append_assoc (take i l) vs (drop (i + length vs) l))
    ∙ ap (take (length vs)) (drop_at (take i l) (vs ++ drop (i + length vs) l) i (length-take-le i l (omega arith)))
    ∙ take_at vs (drop (i + length vs) l) (length vs) refl

-- what follows a run, and a run that starts behind the first n
pub drop-sets_past : (n : ℕ) (l : List ℕ) (i : ℕ) (vs : List ℕ) → i + length vs ≤ n → drop n (sets l i vs) ≡ drop n l
drop-sets_past n l i [] h = refl
drop-sets_past n l i (v ∷ vs) h = drop-sets_past n (set l i v) (suc i) vs (omega arith) ∙ drop-set-lt n l i v (omega arith)

pub drop-sets_add : (n : ℕ) (l : List ℕ) (i : ℕ) (vs : List ℕ) → drop n (sets l (n + i) vs) ≡ sets (drop n l) i vs
drop-sets_add n l i [] = refl
drop-sets_add n l i (v ∷ vs) =
    ap (λ (k : ℕ). drop n (sets (set l (n + i) v) k vs)) (sym (add-suc n i))
    ∙ drop-sets_add n (set l (n + i) v) (suc i) vs
    ∙ ap (λ (m : List ℕ). sets m (suc i) vs) (drop-set-add n l i v)

-- a run behind a run
pub sets-append : (l : List ℕ) (i : ℕ) (vs ws : List ℕ) → sets l i (vs ++ ws) ≡ sets (sets l i vs) (i + length vs) ws
sets-append l i [] ws = simp add-zero
sets-append l i (v ∷ vs) ws = sets-append (set l i v) (suc i) vs ws ∙ ap (λ (k : ℕ). sets (sets (set l i v) (suc i) vs) k ws) (omega arith)

-- a run that fits is stored, and one that does not changes nothing
module _ (xs : List ℕ) (at : ℕ) (b : List ℕ) where
  pub put_fits_accepted : at + length b ≤ length xs → put_fits xs at b ≡ true
  unfolding put_fits
  put_fits_accepted h = le-leb _ _ h

  pub put_fits-refused : length xs < at + length b → put_fits xs at b ≡ false
  unfolding put_fits
  put_fits-refused h = lt-leb _ _ h

  pub put_accepted : at + length b ≤ length xs → put xs at b ≡ sets xs at b
  unfolding put
  put_accepted h = simp (put_fits_accepted h)

  pub put_refused : length xs < at + length b → put xs at b ≡ xs
  unfolding put
  put_refused h = simp (put_fits-refused h)

  pub length-put : length (put xs at b) ≡ length xs
  unfolding put
  length-put = if_else_ind (λ (l : List ℕ). length l ≡ length xs) (put_fits xs at b) (λ e. length-sets xs at b) (λ e. refl)

-- a run behind a run is the run of both
pub put-behind : (out : List ℕ) (at : ℕ) (a b : List ℕ) → at + length (a ++ b) ≤ length out → put (put out at a) (at + length a) b ≡ put out at (a ++ b)
put-behind out at a b h =
    let l = length-append a b in
    let p : put out at a ≡ sets out at a = put_accepted out at a (omega arith) in
    ap (λ (x : List ℕ). put x (at + length a) b) p
    ∙ put_accepted (sets out at a) (at + length a) b (omega (arith, length-sets out at a))
    ∙ sym (sets-append out at a b)
    ∙ sym (put_accepted out at (a ++ b) h)
