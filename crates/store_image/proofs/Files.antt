-- An image as its files: a file's body is found, another is put in its place, all others stay.
-- Read before: specs/Image.antt. Exports: `…-found`, `…_missing` (by what a search finds), `There`, `has-at`, `body-well_formed`, `has-present`,
-- `with_body-…` (the image with another body of the same length).
use Prim.Native.Nat.{ℕ, ◌+◌, ◌-◌}
use mathlib.Core.Path.{◌≡◌, refl, sym, ap, ◌∙◌}
use mathlib.Core.Bool.{true, false}
use mathlib.Core.List.{List, [], ◌++◌}
use native.Mathlib.Omega.{arith}
use lib.ListN.{length, take, drop}
use Rattle.base.specs.Bytes.{part, splice}
use Rattle.base.proofs.Cases.{false-true}
use Rattle.base.proofs.Parts.{part_mid, length_part, splice_lent, splice-length, splice-part, splice-same}
use Rattle.store_kinds.specs.Rules.{application_of, kind_ok}
use Rattle.store_image.specs.Image.{find, is_at, has, present, well_formed, body_by, body, with_body_by, with_body}
use Rattle.store_image.proofs.Splicing.{found-well_formed, found_inside, spliced_find, spliced_other, spliced_well_formed}
use Rattle.std.specs.Prelude.{Option, Some, None}

-- ---- what a find says of the file

module _ (img : List ℕ) (k : ℕ) where
  module _ (s n : ℕ) (e : find img k ≡ Some (s, n)) where
    pub body-found : body img k ≡ part img s n
    unfolding body
    body-found = ap (λ (f : Option (ℕ × ℕ)). body_by f img) e

    pub has-found : has img k ≡ true
    unfolding has
    has-found = ap is_at e

    pub with_body-found : (b : List ℕ) → with_body img k b ≡ splice img s b
    unfolding with_body
    with_body-found b = ap (λ (f : Option (ℕ × ℕ)). with_body_by f img b) e

    pub body-length : length (body img k) ≡ n
    body-length = ap length body-found ∙ length_part img s n (found_inside img k s n e)

    -- the part from s to s + n that the code lends, and what it is when it comes back as f of it
    pub body_lent : part img s (s + n - s) ≡ body img k
    body_lent = part_mid img s n ∙ sym body-found

    pub with_body_lent : (f : List ℕ → List ℕ) (last : List ℕ) → ((xs : List ℕ) → length (f xs) ≡ length xs) → last ≡ f (part img s (s + n - s))
        → take s img ++ (last ++ drop (s + n - s) (drop s img)) ≡ with_body img k (f (body img k))
    with_body_lent f last same el =
        splice_lent img s n last (f (body img k)) (el ∙ ap f body_lent) (same (body img k) ∙ body-length) ∙ sym (with_body-found (f (body img k)))

  module _ (e : find img k ≡ None) where
    pub body_missing : body img k ≡ []
    unfolding body
    body_missing = ap (λ (f : Option (ℕ × ℕ)). body_by f img) e

    pub has_missing : has img k ≡ false
    unfolding has
    has_missing = ap is_at e

    pub with_body_missing : (b : List ℕ) → img ≡ with_body img k b
    unfolding with_body
    with_body_missing b = sym (ap (λ (f : Option (ℕ × ℕ)). with_body_by f img b) e)

-- a file that is there has a place
pub data There (img : List ℕ) (k : ℕ) : Type 0 where
  there : (s n : ℕ) → find img k ≡ Some (s, n) → There img k

pub has-at : (img : List ℕ) (k : ℕ) → has img k ≡ true → There img k
unfolding has
has-at img k = go (find img k) refl
  where
    go : (f : Option (ℕ × ℕ)) → find img k ≡ f → is_at f ≡ true → There img k
    go (Some (s, n)) e h = there s n e
    go None e h = absurd (let z : ◌≡◌ {A = ℕ} 0 1 = cc in omega arith)

-- one that is not there has no body
pub body_lacking : (img : List ℕ) (k : ℕ) → has img k ≡ false → body img k ≡ []
unfolding has
body_lacking img k = go (find img k) refl
  where
    go : (f : Option (ℕ × ℕ)) → find img k ≡ f → is_at f ≡ false → body img k ≡ []
    go (Some (s, n)) e h = false-true (sym h)
    go None e h = body_missing img k e

-- a file of a well-formed image is right for its kind, and its application is present
pub body-well_formed : (img : List ℕ) (k : ℕ) → well_formed img ≡ true → has img k ≡ true → kind_ok k (body img k) ≡ true
body-well_formed img k o h = go (has-at img k h)
  where
    go : There img k → kind_ok k (body img k) ≡ true
    go (there s n e) = ap (kind_ok k) (body-found img k s n e) ∙ (found-well_formed img k s n o e).0

pub has-present : (img : List ℕ) (k : ℕ) → well_formed img ≡ true → has img k ≡ true → present img (application_of k) ≡ true
has-present img k o h = go (has-at img k h)
  where
    go : There img k → present img (application_of k) ≡ true
    go (there s n e) = (found-well_formed img k s n o e).1

-- a file that gets its own body again is as it was
pub with_body-same : (img : List ℕ) (k : ℕ) → with_body img k (body img k) ≡ img
with_body-same img k = go (find img k) refl
  where
    go : (f : Option (ℕ × ℕ)) → find img k ≡ f → with_body img k (body img k) ≡ img
    go (Some (s, n)) e =
        with_body-found img k s n e (body img k) ∙ ap (splice img s) (body-found img k s n e) ∙ splice-same img s n (found_inside img k s n e)
    go None e = sym (with_body_missing img k e (body img k))

-- ---- another body of the same length in the place of a file's

module _ (img : List ℕ) (k : ℕ) (b : List ℕ) (h : has img k ≡ true) (len : length b ≡ length (body img k)) where
  -- where that file stands
  pub data Stands : Type 0 where
    stands : (s : ℕ) → find img k ≡ Some (s, length b) → with_body img k b ≡ splice img s b → Stands

  place : Stands
  place = go (has-at img k h)
    where
      go : There img k → Stands
      go (there s n e) = stands s (e ∙ ap (λ (m : ℕ). Some (s, m)) (sym (len ∙ body-length img k s n e))) (with_body-found img k s n e b)

  pub with_body-find : (j : ℕ) → find (with_body img k b) j ≡ find img j
  with_body-find j = go place
    where
      go : Stands → find (with_body img k b) j ≡ find img j
      go (stands s e p) = ap (λ (l : List ℕ). find l j) p ∙ spliced_find img k s b e j

  pub with_body-has : (j : ℕ) → has (with_body img k b) j ≡ has img j
  unfolding has
  with_body-has j = ap is_at (with_body-find j)

  pub with_body-length : length (with_body img k b) ≡ length img
  with_body-length = go place
    where
      go : Stands → length (with_body img k b) ≡ length img
      go (stands s e p) = ap length p ∙ splice-length img s b (found_inside img k s (length b) e)

  pub with_body-body : body (with_body img k b) k ≡ b
  with_body-body = go place
    where
      go : Stands → body (with_body img k b) k ≡ b
      go (stands s e p) =
          body-found (with_body img k b) k s (length b) (with_body-find k ∙ e)
          ∙ ap (λ (l : List ℕ). part l s (length b)) p
          ∙ splice-part img s b (found_inside img k s (length b) e)

  pub with_body-body_other : (j : ℕ) → (j ≡ k → ⊥) → body (with_body img k b) j ≡ body img j
  with_body-body_other j ne = go place (find img j) refl
    where
      go : Stands → (f : Option (ℕ × ℕ)) → find img j ≡ f → body (with_body img k b) j ≡ body img j
      go (stands s e p) (Some (t, m)) d =
          body-found (with_body img k b) j t m (with_body-find j ∙ d)
          ∙ ap (λ (l : List ℕ). part l t m) p
          ∙ spliced_other img k s b e j t m ne d
          ∙ sym (body-found img j t m d)
      go (stands s e p) None d = body_missing (with_body img k b) j (with_body-find j ∙ d) ∙ sym (body_missing img j d)

  pub with_body-well_formed : well_formed img ≡ true → kind_ok k b ≡ true → well_formed (with_body img k b) ≡ true
  with_body-well_formed o r = go place
    where
      go : Stands → well_formed (with_body img k b) ≡ true
      go (stands s e p) = ap well_formed p ∙ spliced_well_formed img k s b e o r

-- every body stays where it is, whether the file is there or not
pub with_body-find-same : (img : List ℕ) (k : ℕ) (b : List ℕ) → length b ≡ length (body img k) → (j : ℕ) → find (with_body img k b) j ≡ find img j
with_body-find-same img k b l j = go (find img k) refl
  where
    go : (f : Option (ℕ × ℕ)) → find img k ≡ f → find (with_body img k b) j ≡ find img j
    go (Some (s, n)) e = with_body-find img k b (has-found img k s n e) l j
    go None e = ap (λ (x : List ℕ). find x j) (sym (with_body_missing img k e b))
