-- What the bytes of a chain say. Read specs/Layout.antt before. Exports `amid_is`, `so_far_is`, `goes_on_links` (what the code
-- answers is the definition's), `extend-is`, `none-chain`, `some_chain`.
use Prim.Native.Nat.{ℕ, ◌+◌, ◌-◌, ◌/◌, ◌%◌, ◌≤◌}
use mathlib.Core.Path.{◌≡◌, refl, sym, ap, ap₂, ◌∙◌}
use mathlib.Core.Bool.{Bool, true, false, not, ◌&&◌}
use mathlib.Core.List.{List, [], ◌∷◌}
use lib.ListN.{length, get_or}
use lib.Dec.{eqb}
use borrow.Author.Tests.{eqb-true, eq-eqb, ne_eqb, le-leb}
use Rattle.base.specs.Choice.{all_of}
use Rattle.base.specs.Bytes.{part, put}
use Rattle.base.proofs.Cases.{by_cases}
use Rattle.store_records.specs.Little.{le16, bytes16}
use Rattle.machine_apdu.specs.declared.Header.{Header}
use Rattle.machine_chain.specs.Chain.{is_amid, so_far, goes_on}
use Rattle.machine_chain.specs.Layout.{chain_head, zero_run, unused_zeros, is_chain, chain_in, join_into}

and-true : (t : Bool) → (t && true) ≡ t
and-true true = refl
and-true false = refl

module _ (xs : List ℕ) where
  pub amid_is : is_amid (chain_in xs) ≡ not (eqb (le16 xs 0) 0)
  unfolding chain_in
  amid_is = by_cases (eqb (le16 xs 0) 0) (λ e. rw e refl) (λ e. rw e refl)

  pub so_far_is : so_far (chain_in xs) ≡ part xs 5 (le16 xs 0)
  unfolding chain_in
  so_far_is = by_cases (eqb (le16 xs 0) 0) (λ e. rw e (rw (eqb-true (le16 xs 0) 0 e) refl)) (λ e. rw e refl)

  pub goes_on_links : (h : Header) → (le16 xs 0 ≡ 0 → ⊥)
      → goes_on (chain_in xs) h ≡ all_of (eqb (get_or xs 2 0) h.ins ∷ eqb (get_or xs 3 0) h.p1 ∷ eqb (get_or xs 4 0) h.p2 ∷ [])
  unfolding chain_in
  goes_on_links h e = rw (ne_eqb (le16 xs 0) 0 e) refl

-- what `extend` stores
pub extend-is : (xs : List ℕ) (h : Header) (d : List ℕ) {n m : ℕ} {mid last : List ℕ} → n ≡ le16 xs 0 → m ≡ n + length d → mid ≡ put xs (5 + n) d
    → last ≡ put mid 0 (m % 256 ∷ m / 256 % 256 ∷ h.ins % 256 ∷ h.p1 % 256 ∷ h.p2 % 256 ∷ []) → last ≡ join_into xs h d
unfolding join_into chain_head bytes16
extend-is xs h d {n} {m} en em e f =
    f ∙ ap (λ (l : List ℕ). put l 0 (m % 256 ∷ m / 256 % 256 ∷ h.ins % 256 ∷ h.p1 % 256 ∷ h.p2 % 256 ∷ [])) e
    ∙ ap₂ (λ (k l : ℕ). put (put xs (5 + k) d) 0 (l % 256 ∷ l / 256 % 256 ∷ h.ins % 256 ∷ h.p1 % 256 ∷ h.p2 % 256 ∷ [])) en (em ∙ ap (λ (k : ℕ). k + length d) en)

-- ---- whether bytes are a chain: the tests of the code, one after the other

module _ (xs : List ℕ) where
  module _ (long : 1029 ≤ length xs) {n : ℕ} (en : n ≡ le16 xs 0) where
    module _ (few : n ≤ 1024) where
      chain_by : is_chain xs ≡ unused_zeros xs n
      unfolding is_chain all_of
      chain_by = simp (le-leb 1029 (length xs) long, sym en, le-leb n 1024 few) (and-true _)

      pub none-chain : {r : Bool} → n ≡ 0 → r ≡ zero_run xs 2 1027 → r ≡ is_chain xs
      unfolding unused_zeros
      none-chain z e = e ∙ sym (chain_by ∙ simp (eq-eqb n 0 z))

      pub some_chain : {r : Bool} → (n ≡ 0 → ⊥) → r ≡ zero_run xs (5 + n) (1024 - n) → r ≡ is_chain xs
      unfolding unused_zeros
      some_chain z e = e ∙ sym (chain_by ∙ simp (ne_eqb n 0 z))
