-- What a move knows that is not refused, and that nothing else is asked of it.
-- Read before: store_move's specs/Moving.antt. Exports: `all_fit`, `listed`, `all_listed`.
use Prim.Native.Nat.{ℕ, zero, suc, ◌≤◌}
use mathlib.Core.Path.{◌≡◌, refl}
use mathlib.Core.Bool.{true, ◌&&◌}
use mathlib.Core.List.{List}
use native.Mathlib.Omega.{arith}
use lib.ListN.{length}
use lib.Dec.{leb}
use borrow.Author.Tests.{lt-leb, le-leb, leb-false}
use Rattle.base.proofs.Cases.{by_cases, and_left, and_right}
use Rattle.store_image.specs.Image.{kind_at, end_at, find_from, find, has, well_formed}
use Rattle.store_image.proofs.Splicing.{missing_at, Way, here-it-is, further, way}
use Rattle.store_image.proofs.Files.{There, there, has-at, has-found}
use Rattle.store_move_plan.specs.Rooms.{rows, blank}
use Rattle.store_move_plan.proofs.Search.{Fits}
use Rattle.store_move.specs.Moving.{content, lists_from, lists, roomy_to, roomy}
use Rattle.store_move.specs.Loops.{Standing}
use Rattle.store_move.proofs.Walk.{stand_start, here}
use Rattle.std.specs.Prelude.{Some}

-- ---- each room holds its content

-- no more is tested than that each content fits
pub all_fit : (old list : List ℕ) → Fits (content old) list → roomy old list ≡ true
unfolding roomy roomy_to
all_fit old list f = go (rows list) (omega arith)
  where
    go : (n : ℕ) → n ≤ rows list → roomy_to old list n ≡ true
    go zero h = refl
    go (suc n) h = rw (go n (omega arith), le-leb _ _ (f n h))

-- ---- each kind of the old image has a row

-- the section that a search finds in the old image is one of those whose kind was looked up
listed-from : (f : ℕ) (old list : List ℕ) (p k s n : ℕ) → lists_from f old p list ≡ true → find_from f old p k ≡ Some (s, n) → has (blank list) k ≡ true
unfolding find_from
listed-from zero old list p k s n a e = missing_at s n e
listed-from (suc f) old list p k s n a e = go (listed-from f old list (end_at old p) k s n) (way f old p k s n e)
  where
    parts : end_at old p ≤ length old → (has (blank list) (kind_at old p) ≡ true) × (lists_from f old (end_at old p) list ≡ true)
    parts h =
        let t : (has (blank list) (kind_at old p) && lists_from f old (end_at old p) list) ≡ true = unfold lists_from in (simp (lt-leb (length old) p (omega arith)) at a) in
        (and_left (has (blank list) (kind_at old p)) _ t, and_right (has (blank list) (kind_at old p)) _ t)

    go : (lists_from f old (end_at old p) list ≡ true → find_from f old (end_at old p) k ≡ Some (s, n) → has (blank list) k ≡ true) → Way old p k s n f → has (blank list) k ≡ true
    go r (here-it-is h i j l) = rw (← i) (parts h).0
    go r (further h i j) = r (parts h).1 j

pub listed : (old list : List ℕ) (k : ℕ) → lists old list ≡ true → has old k ≡ true → has (blank list) k ≡ true
unfolding lists find
listed old list k a h = go (has-at old k h)
  where
    go : There old k → has (blank list) k ≡ true
    go (there s n e) = listed-from (length old) old list 0 k s n a e

-- and only kinds of sections that a search finds are looked up
pub all_listed : (old list : List ℕ) → well_formed old ≡ true → ((k : ℕ) → has old k ≡ true → has (blank list) k ≡ true) → lists old list ≡ true
unfolding lists lists_from
all_listed old list well a = go (length old) 0 (stand_start old well)
  where
    go : (f p : ℕ) → Standing old p → lists_from f old p list ≡ true
    go zero p s = refl
    go (suc f) p s =
        by_cases (leb (length old) p)
        (λ y. rw y)
        (λ n. let q = here old p s (leb-false _ _ n) in
        rw (n, a (kind_at old p) (has-found old (kind_at old p) _ _ q.found), go f (end_at old p) q.next))
