-- A move to the same rooms: it is not refused, and where the free bytes are zero the new image is the old one.
-- Read before: specs/Same.antt, Heads. Exports: `content-fits`, `empty_has`, `empty_length`, `blank-well_formed`, `own_moved`.
use Prim.Native.Nat.{ℕ, zero, suc, ◌*◌, ◌≤◌, ◌<◌}
use mathlib.Core.Path.{◌≡◌, refl, sym, ap, ap₂, ◌∙◌}
use mathlib.Core.Bool.{true}
use mathlib.Core.List.{List, [], ◌++◌}
use native.Mathlib.Omega.{arith}
use lib.ListN.{length, length-take}
use Rattle.base.specs.Bytes.{part}
use Rattle.store_kinds.specs.Rules.{kind_ok}
use Rattle.store_image.specs.Image.{has, well_formed, body}
use Rattle.store_image.proofs.Files.{body-well_formed}
use Rattle.store_move_plan.specs.Rooms.{rows, row_room, row_kind, zeros, filled, section, sections, laid, no_content, blank}
use Rattle.store_move_plan.proofs.Search.{Fits, same_length}
use Rattle.store_move_plan.proofs.Blank.{filled_empty, none-fits}
use Rattle.store_move.specs.Moving.{content, moved, content_length}
use Rattle.store_move_laws.specs.Same.{heads, FreeZero}
use Rattle.store_move_laws.proofs.Contents.{zeros-well_formed}
use Rattle.store_move_laws.proofs.Found.{has_same, laid-well_formed}
use Rattle.store_move_laws.proofs.Heads.{full, own_laid, own_has, own_length}

module _ (old : List ℕ) (well : well_formed old ≡ true) where
  -- a room is as long as its body, and the content is a part of it
  body-fits : Fits (body old) (heads old)
  body-fits i h = omega (arith, own_length old well i h)

  pub content-fits : Fits (content old) (heads old)
  unfolding content
  content-fits i h =
      let xs : List ℕ = body old (row_kind (heads old) i) in
      let m = length-take (content_length (row_kind (heads old) i) xs) xs in
      omega (arith, own_length old well i h)

  -- the empty image has the old one's rooms, so it has its files and its length, and is right as that is
  pub empty_has : (k : ℕ) → has (blank (heads old)) k ≡ has old k
  unfolding blank
  empty_has k = has_same (heads old) (body old) no_content body-fits (none-fits (heads old)) k ∙ ap (λ (l : List ℕ). has l k) (own_laid old well)

  pub empty_length : length (blank (heads old)) ≡ length old
  unfolding blank
  empty_length = same_length (heads old) (body old) no_content body-fits (none-fits (heads old)) ∙ ap length (own_laid old well)

  pub blank-well_formed : well_formed (blank (heads old)) ≡ true
  unfolding blank
  blank-well_formed = laid-well_formed (heads old) (body old) no_content body-fits (none-fits (heads old)) right (ap well_formed (own_laid old well) ∙ well)
    where
      right : (i : ℕ) → i < rows (heads old) → kind_ok (row_kind (heads old) i) (filled (row_room (heads old) i) (body old (row_kind (heads old) i))) ≡ true
          → kind_ok (row_kind (heads old) i) (filled (row_room (heads old) i) []) ≡ true
      right i h o =
          let k : ℕ = row_kind (heads old) i in
          let z : kind_ok k (zeros (length (body old k))) ≡ true = zeros-well_formed k (body old k) (body-well_formed old k well (own_has old well i h)) in
          rw (filled_empty, ← own_length old well i h) z

  -- where the free bytes are zero, the content alone makes the same sections
  module _ (zero-free : FreeZero old) where
    same-room : (i : ℕ) → i < rows (heads old)
        → filled (row_room (heads old) i) (content old (row_kind (heads old) i)) ≡ filled (row_room (heads old) i) (body old (row_kind (heads old) i))
    unfolding FreeZero
    same-room i h =
        let k : ℕ = row_kind (heads old) i in
        let l : length (body old k) ≡ row_room (heads old) i = own_length old well i h in
        let z : body old k ≡ filled (length (body old k)) (content old k) = zero-free k (own_has old well i h) in
        sym (ap (λ (n : ℕ). filled n (content old k)) l) ∙ sym z ∙ sym (full (row_room (heads old) i) (body old k) l)

    same-sections : (n : ℕ) → n ≤ rows (heads old) → sections (content old) (heads old) n ≡ sections (body old) (heads old) n
    unfolding sections section
    same-sections zero h = refl
    same-sections (suc n) h =
        ap₂ (λ (x y : List ℕ). x ++ (part (heads old) (6 * n) 6 ++ y)) (same-sections n (omega arith)) (same-room n h)

    pub own_moved : moved old (heads old) ≡ old
    unfolding moved laid
    own_moved = same-sections (rows (heads old)) (omega arith) ∙ own_laid old well
