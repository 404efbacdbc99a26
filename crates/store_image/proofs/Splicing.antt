-- A new body of the same length in a section's place: what is found stays found, other bodies stay, and the image stays well formed.
-- Read before: specs/Image.antt, Sections. Exports: `Way`, `way` (the section at hand is found or passed), `found-…` (what is found lies in the
-- image, apart from others, and is right for its kind), `spliced_…` (the image with the new body).
use Prim.Native.Nat.{ℕ, zero, suc, ◌+◌, ◌-◌, ◌≤◌, ◌<◌}
use mathlib.Core.Path.{◌≡◌, refl, sym, ap, ◌∙◌}
use mathlib.Core.Bool.{Bool, true, false, ◌&&◌}
use mathlib.Core.List.{List}
use mathlib.Core.Logic.{◌⊎◌, inl, inr, ⊎_elim}
use native.Mathlib.Omega.{arith}
use lib.ListN.{length}
use lib.Dec.{leb, eqb}
use borrow.Author.Tests.{lt-leb, leb-true, eqb-true, eqb-false}
use Rattle.base.specs.Bytes.{part, splice}
use Rattle.base.proofs.Cases.{and_left, and_right, all_of_facts}
use Rattle.base.proofs.Parts.{Agree, part_agree, splice-length, splice-before, splice-after, splice-part}
use Rattle.store_kinds.specs.Rules.{application_of, kind_ok}
use Rattle.store_image.specs.Image.{len_at, kind_at, body_at, end_at, choose, find_from, find, is_at, has, present, section_ok, sections_ok, well_formed}
use Rattle.store_records.proofs.Numbers.{le16_agree, le32_agree}
use Rattle.store_image.proofs.Sections.{section_ok_facts}
use Rattle.store_image.proofs.Presence.{present-same}
use Rattle.std.specs.Prelude.{Option, Some, None}

-- ---- what a find says

pub missing_at : {A : Type 0} (s n : ℕ) → ◌≡◌ {A = Option (ℕ × ℕ)} None (Some (s, n)) → A
missing_at s n e = absurd (let z : ◌≡◌ {A = ℕ} 0 1 = cc in omega arith)

-- the section at p is the one that is found, or is passed
pub data Way (img : List ℕ) (p k s n : ℕ) (f : ℕ) : Type 0 where
  here-it-is : end_at img p ≤ length img → kind_at img p ≡ k → p + 6 ≡ s → len_at img p ≡ n → Way img p k s n f
  further : end_at img p ≤ length img → (kind_at img p ≡ k → ⊥) → find_from f img (end_at img p) k ≡ Some (s, n) → Way img p k s n f

pub way : (f : ℕ) (img : List ℕ) (p k s n : ℕ) → find_from (suc f) img p k ≡ Some (s, n) → Way img p k s n f
unfolding find_from
way f img p k s n = go (leb (end_at img p) (length img)) (eqb (kind_at img p) k) refl refl
  where
    go : (a b : Bool) → leb (end_at img p) (length img) ≡ a → eqb (kind_at img p) k ≡ b
        → choose a b (Some (p + 6, len_at img p)) (find_from f img (end_at img p) k) ≡ Some (s, n) → Way img p k s n f
    go false b ea eb e = missing_at s n e
    go true true ea eb e =
        let q : ◌≡◌ {A = ℕ × ℕ} (p + 6, len_at img p) (s, n) = cc in
        here-it-is (leb-true _ _ ea) (eqb-true _ _ eb) (ap (λ (x : ℕ × ℕ). x.0) q) (ap (λ (x : ℕ × ℕ). x.1) q)
    go true false ea eb e = further (leb-true _ _ ea) (eqb-false _ _ eb) e

-- a body that is found lies within the image, behind its length and its kind
record Within (img : List ℕ) (p k s n : ℕ) : Type 0 where
  after : p + 6 ≤ s
  inside : s + n ≤ length img
  head : (len_at img (s - 6) ≡ n) × (kind_at img (s - 6) ≡ k)

found_within : (f : ℕ) (img : List ℕ) (p k s n : ℕ) → find_from f img p k ≡ Some (s, n) → Within img p k s n
unfolding find_from
found_within zero img p k s n e = missing_at s n e
found_within (suc f) img p k s n e = go (found_within f img (end_at img p) k s n) (way f img p k s n e)
  where
    go : (find_from f img (end_at img p) k ≡ Some (s, n) → Within img (end_at img p) k s n) → Way img p k s n f → Within img p k s n
    go r (here-it-is h i j l) =
        let q : s - 6 ≡ p = omega arith in
        record { after = omega arith; inside = omega arith; head = (ap (λ (x : ℕ). len_at img x) q ∙ l, ap (λ (x : ℕ). kind_at img x) q ∙ i) }
    go r (further h i j) = let w = r j in record { after = omega arith; inside = w.inside; head = w.head }

-- sections of two kinds lie apart
apart : (f : ℕ) (img : List ℕ) (p k s n j t m : ℕ) → (j ≡ k → ⊥) → find_from f img p k ≡ Some (s, n) → find_from f img p j ≡ Some (t, m) → (t + m ≤ s) ⊎ (s + n ≤ t)
unfolding find_from
apart zero img p k s n j t m ne e d = missing_at s n e
apart (suc f) img p k s n j t m ne e d = go (apart f img (end_at img p) k s n j t m ne) (way f img p k s n e) (way f img p j t m d)
  where
    go : (find_from f img (end_at img p) k ≡ Some (s, n) → find_from f img (end_at img p) j ≡ Some (t, m) → (t + m ≤ s) ⊎ (s + n ≤ t))
        → Way img p k s n f → Way img p j t m f → (t + m ≤ s) ⊎ (s + n ≤ t)
    go r (here-it-is a b c l) (here-it-is a' b' c' l') = absurd (ne (sym b' ∙ b))
    go r (here-it-is a b c l) (further a' b' c') = let w = found_within f img (end_at img p) j t m c' in inr (omega arith)
    go r (further a b c) (here-it-is a' b' c' l') = let w = found_within f img (end_at img p) k s n c in inl (omega arith)
    go r (further a b c) (further a' b' c') = r c c'

pub found_inside : (img : List ℕ) (k s n : ℕ) → find img k ≡ Some (s, n) → s + n ≤ length img
unfolding find
found_inside img k s n e = (found_within (length img) img 0 k s n e).inside

pub found-head : (img : List ℕ) (k s n : ℕ) → find img k ≡ Some (s, n) → (6 ≤ s) × (len_at img (s - 6) ≡ n) × (kind_at img (s - 6) ≡ k)
unfolding find
found-head img k s n e = let w = found_within (length img) img 0 k s n e in (w.after, w.head.0, w.head.1)

pub found-apart : (img : List ℕ) (k s n j t m : ℕ) → (j ≡ k → ⊥) → find img k ≡ Some (s, n) → find img j ≡ Some (t, m) → (t + m ≤ s) ⊎ (s + n ≤ t)
unfolding find
found-apart img k s n j t m = apart (length img) img 0 k s n j t m

-- ---- two images that agree outside the body at s, of n bytes

module _ (img new : List ℕ) (s n : ℕ) (same : length new ≡ length img) (before : Agree img new 0 s) (after : (e : ℕ) → Agree img new (s + n) e) where
  -- a section's header, whole in either stretch
  len-before : (p : ℕ) → p + 6 ≤ s → len_at new p ≡ len_at img p
  len-before p h = le32_agree img new 0 s p before (omega arith) (omega arith)

  kind-before : (p : ℕ) → p + 6 ≤ s → kind_at new p ≡ kind_at img p
  kind-before p h = le16_agree img new 0 s (p + 4) before (omega arith) (omega arith)

  len_after : (p : ℕ) → s + n ≤ p → len_at new p ≡ len_at img p
  len_after p h = le32_agree img new (s + n) (p + 6) p (after (p + 6)) h (omega arith)

  kind-after : (p : ℕ) → s + n ≤ p → kind_at new p ≡ kind_at img p
  kind-after p h = le16_agree img new (s + n) (p + 6) (p + 4) (after (p + 6)) (omega arith) (omega arith)

  body-before : (p : ℕ) → end_at img p ≤ s → body_at new p ≡ body_at img p
  body-before p h = ap (part new (p + 6)) (len-before p (omega arith)) ∙ part_agree img new 0 s (p + 6) (len_at img p) same before (omega arith) (omega arith)

  body-after : (p : ℕ) → s + n ≤ p → body_at new p ≡ body_at img p
  body-after p h = ap (part new (p + 6)) (len_after p h) ∙ part_agree img new (s + n) (end_at img p) (p + 6) (len_at img p) same (after (end_at img p)) (omega arith) (omega arith)

  -- one step of a find, where the header agrees
  find-step : (f p j : ℕ) → len_at new p ≡ len_at img p → kind_at new p ≡ kind_at img p → find_from f new (end_at img p) j ≡ find_from f img (end_at img p) j
      → find_from (suc f) new p j ≡ find_from (suc f) img p j
  unfolding find_from
  find-step f p j l k r = rw (l, k, same, r)

  find-after : (f p j : ℕ) → s + n ≤ p → find_from f new p j ≡ find_from f img p j
  unfolding find_from
  find-after zero p j h = refl
  find-after (suc f) p j h = find-step f p j (len_after p h) (kind-after p h) (find-after f (end_at img p) j (omega arith))

  find-same : (f p k j : ℕ) → find_from f img p k ≡ Some (s, n) → find_from f new p j ≡ find_from f img p j
  unfolding find_from
  find-same zero p k j e = refl
  find-same (suc f) p k j e = go (find-same f (end_at img p) k j) (way f img p k s n e)
    where
      go : (find_from f img (end_at img p) k ≡ Some (s, n) → find_from f new (end_at img p) j ≡ find_from f img (end_at img p) j) → Way img p k s n f
          → find_from (suc f) new p j ≡ find_from (suc f) img p j
      go r (here-it-is a b c l) = find-step f p j (len-before p (omega arith)) (kind-before p (omega arith)) (find-after f (end_at img p) j (omega arith))
      go r (further a b c) =
          let w = found_within f img (end_at img p) k s n c in
          find-step f p j (len-before p (omega arith)) (kind-before p (omega arith)) (r c)

  module _ (k : ℕ) (found : find img k ≡ Some (s, n)) where
    -- every find answers as before
    pub find-kept : (j : ℕ) → find new j ≡ find img j
    unfolding find
    find-kept j = rw same (find-same (length img) 0 k j found)

    has_kept : (j : ℕ) → has new j ≡ has img j
    unfolding has
    has_kept j = ap is_at (find-kept j)

    -- the body of every other kind stays
    pub other_kept : (j t m : ℕ) → (j ≡ k → ⊥) → find img j ≡ Some (t, m) → part new t m ≡ part img t m
    other_kept j t m ne e =
        ⊎_elim
        (λ h. part_agree img new 0 s t m same before (omega arith) h)
        (λ h. part_agree img new (s + n) (t + m) t m same (after (t + m)) h (omega arith))
        (found-apart img k s n j t m ne found e)

    -- one section, where its header agrees and its body is as right as it was
    sections-step : (f p last : ℕ) → len_at new p ≡ len_at img p → kind_at new p ≡ kind_at img p
        → kind_ok (kind_at img p) (body_at new p) ≡ kind_ok (kind_at img p) (body_at img p)
        → sections_ok f new (end_at img p) (kind_at img p) ≡ sections_ok f img (end_at img p) (kind_at img p)
        → sections_ok (suc f) new p last ≡ sections_ok (suc f) img p last
    unfolding sections_ok section_ok
    sections-step f p last l i b r = rw (i, b, l, same, r, present-same img new has_kept (application_of (kind_at img p)))

    sections-after : (f p last : ℕ) → s + n ≤ p → sections_ok f new p last ≡ sections_ok f img p last
    unfolding sections_ok
    sections-after zero p last h = rw same
    sections-after (suc f) p last h =
        sections-step f p last (len_after p h) (kind-after p h) (ap (kind_ok (kind_at img p)) (body-after p h)) (sections-after f (end_at img p) (kind_at img p) (omega arith))

    -- the body at s is right in both
    module _ (right : kind_ok k (part new s n) ≡ true) (was : kind_ok k (part img s n) ≡ true) where
      sections-kept : (f p last : ℕ) → find_from f img p k ≡ Some (s, n) → sections_ok f new p last ≡ sections_ok f img p last
      unfolding find_from
      sections-kept zero p last e = missing_at s n e
      sections-kept (suc f) p last e = go (sections-kept f (end_at img p) (kind_at img p)) (way f img p k s n e)
        where
          go : (find_from f img (end_at img p) k ≡ Some (s, n) → sections_ok f new (end_at img p) (kind_at img p) ≡ sections_ok f img (end_at img p) (kind_at img p))
              → Way img p k s n f → sections_ok (suc f) new p last ≡ sections_ok (suc f) img p last
          go r (here-it-is a b c l) =
              let ln = len-before p (omega arith) in
              let two : kind_ok (kind_at img p) (body_at new p) ≡ kind_ok (kind_at img p) (body_at img p) = rw (ln, b, c, l, right, was) in
              sections-step f p last ln (kind-before p (omega arith)) two (sections-after f (end_at img p) (kind_at img p) (omega arith))
          go r (further a b c) =
              let w = found_within f img (end_at img p) k s n c in
              sections-step f p last (len-before p (omega arith)) (kind-before p (omega arith)) (ap (kind_ok (kind_at img p)) (body-before p (omega arith))) (r c)

-- ---- what is found in a well-formed image is right for its kind

pub open_sections : (f : ℕ) (img : List ℕ) (p last : ℕ) → p < length img → sections_ok (suc f) img p last ≡ true
    → (section_ok img p last ≡ true) × (sections_ok f img (end_at img p) (kind_at img p) ≡ true)
unfolding sections_ok
open_sections f img p last h o =
    let a : Bool = section_ok img p last in
    let b : Bool = sections_ok f img (end_at img p) (kind_at img p) in
    let q : (a && b) ≡ true = simp (lt-leb _ _ h) at o in
    (and_left a b q, and_right a b q)

-- and its application is present
abbrev pub Right : List ℕ → ℕ → ℕ → ℕ → Type 0
Right img k s n = (kind_ok k (part img s n) ≡ true) × (present img (application_of k) ≡ true)

found-well_formed-from : (f : ℕ) (img : List ℕ) (p last k s n : ℕ) → sections_ok f img p last ≡ true → find_from f img p k ≡ Some (s, n) → Right img k s n
unfolding find_from
found-well_formed-from zero img p last k s n o e = missing_at s n e
found-well_formed-from (suc f) img p last k s n o e = go (found-well_formed-from f img (end_at img p) (kind_at img p) k s n) (way f img p k s n e)
  where
    go : (sections_ok f img (end_at img p) (kind_at img p) ≡ true → find_from f img (end_at img p) k ≡ Some (s, n) → Right img k s n) → Way img p k s n f → Right img k s n
    go r (here-it-is a b c l) =
        let q = section_ok_facts img p last (open_sections f img p last (omega arith) o).0 in
        (rw (← b, ← c, ← l) q.right, rw (← b) q.beside)
    go r (further a b c) = r (open_sections f img p last (omega arith) o).1 c

pub sections_of : (img : List ℕ) → well_formed img ≡ true → sections_ok (length img) img 0 0 ≡ true
unfolding well_formed
sections_of img o = (all_of_facts _ o).1.0

pub found-well_formed : (img : List ℕ) (k s n : ℕ) → well_formed img ≡ true → find img k ≡ Some (s, n) → Right img k s n
unfolding find
found-well_formed img k s n o e = found-well_formed-from (length img) img 0 0 k s n (sections_of img o) e

-- ---- a body put in the place of another

module _ (img : List ℕ) (k s : ℕ) (body : List ℕ) (found : find img k ≡ Some (s, length body)) where
  fits : s + length body ≤ length img
  fits = found_inside img k s (length body) found

  pub spliced_find : (j : ℕ) → find (splice img s body) j ≡ find img j
  spliced_find = find-kept img (splice img s body) s (length body) (splice-length img s body fits) (splice-before img s body fits) (splice-after img s body fits) k found

  pub spliced_other : (j t m : ℕ) → (j ≡ k → ⊥) → find img j ≡ Some (t, m) → part (splice img s body) t m ≡ part img t m
  spliced_other = other_kept img (splice img s body) s (length body) (splice-length img s body fits) (splice-before img s body fits) (splice-after img s body fits) k found

  pub spliced_well_formed : well_formed img ≡ true → kind_ok k body ≡ true → well_formed (splice img s body) ≡ true
  unfolding well_formed find
  spliced_well_formed o right =
      let new : List ℕ = splice img s body in
      let same : length new ≡ length img = splice-length img s body fits in
      let r : kind_ok k (part new s (length body)) ≡ true = ap (kind_ok k) (splice-part img s body fits) ∙ right in
      let was : kind_ok k (part img s (length body)) ≡ true = (found-well_formed img k s (length body) o found).0 in
      let kept = sections-kept img new s (length body) same (splice-before img s body fits) (splice-after img s body fits) k found r was (length img) 0 0 found in
      rw (same, kept) o
