-- A place in the old image: what stands there, and the place behind it.
-- Read before: specs/Loops.antt. Exports: `stand_start`, `stand_next`, `Here`, `here` (what stands at a place), `met_…`, `meets-…` (whether it is of a
-- kind).
use Prim.Native.Nat.{ℕ, zero, suc, ◌+◌, ◌≤◌, ◌<◌}
use mathlib.Core.Path.{◌≡◌, refl, sym, ◌∙◌}
use mathlib.Core.Bool.{true}
use mathlib.Core.List.{List}
use native.Mathlib.Omega.{arith}
use lib.ListN.{length}
use borrow.Author.Tests.{le-leb, eq-eqb, ne_eqb, ltb-true, eqb-true}
use Rattle.base.specs.Bytes.{part}
use Rattle.base.proofs.Cases.{all_of_facts}
use Rattle.store_image.specs.Image.{len_at, kind_at, end_at, find_from, find, sections_ok, well_formed, body}
use Rattle.store_image.proofs.Sections.{section_ok_facts}
use Rattle.store_image.proofs.Splicing.{open_sections, sections_of}
use Rattle.store_image.proofs.Files.{body-found}
use Rattle.store_move.specs.Loops.{Standing, meets}
use Rattle.std.specs.Prelude.{Some}

pub stand_start : (old : List ℕ) → well_formed old ≡ true → Standing old 0
unfolding find
stand_start old o = record { last = 0; fuel = length old; enough = omega arith; right = sections_of old o; ahead = λ k h. refl }

-- what stands at a place before the end
pub record Here (old : List ℕ) (p : ℕ) : Type 0 where
  pub whole : end_at old p ≤ length old
  pub found : find old (kind_at old p) ≡ Some (p + 6, len_at old p)
  pub next : Standing old (end_at old p)

pub here : (old : List ℕ) (p : ℕ) → Standing old p → p < length old → Here old p
unfolding find_from
here old p s h = go s.fuel s.enough s.right s.ahead
  where
    go : (f : ℕ) → length old ≤ p + f → sections_ok f old p s.last ≡ true → ((k : ℕ) → s.last < k → find old k ≡ find_from f old p k) → Here old p
    go zero e r a = absurd (omega arith)
    go (suc f) e r a =
        let q = open_sections f old p s.last h r in
        let g = section_ok_facts old p s.last q.0 in
        record {
          whole = g.whole;
          found = a (kind_at old p) g.after ∙ simp (le-leb _ _ g.whole, eq-eqb (kind_at old p) (kind_at old p) refl);
          next = record {
            last = kind_at old p;
            fuel = f;
            enough = omega arith;
            right = q.1;
            ahead = λ k i. a k (omega (arith, g.after)) ∙ simp (le-leb _ _ g.whole, ne_eqb (kind_at old p) k (λ e. omega arith));
          };
        }

-- the place behind, as the code has the section's length l
pub stand_next : (old : List ℕ) (p : ℕ) → Standing old p → p < length old → (l : ℕ) → l ≡ len_at old p → Standing old (p + 6 + l)
stand_next old p s h l e = rw e (here old p s h).next

-- the section that is met is the one of its kind
module _ (old : List ℕ) (p k : ℕ) (s : Standing old p) (m : meets old p k ≡ true) where
  before-end : p < length old
  unfolding meets
  before-end = ltb-true _ _ (all_of_facts _ m).0

  pub met_whole : end_at old p ≤ length old
  met_whole = (here old p s before-end).whole

  pub met_next : (l : ℕ) → l ≡ len_at old p → Standing old (p + 6 + l)
  met_next = stand_next old p s before-end

  pub met_body : (l : ℕ) → l ≡ len_at old p → part old (p + 6) l ≡ body old k
  unfolding meets
  met_body l e =
      let i : kind_at old p ≡ k = eqb-true _ _ (all_of_facts _ m).1.0 in
      rw e (sym (body-found old k (p + 6) (len_at old p) (rw (← i) (here old p s before-end).found)))
