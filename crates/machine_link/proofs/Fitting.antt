-- Which bytes are a chain that links can have left. Read specs/Link.antt before. Exports `none-fits` and `some_fits`: what the code answers is the
-- definition's.
use Prim.Native.Nat.{ℕ, ◌≤◌}
use mathlib.Core.Path.{◌≡◌, refl, sym, ap, ◌∙◌}
use mathlib.Core.Bool.{true, false, and-true}
use mathlib.Core.List.{List}
use native.Mathlib.Omega.{arith}
use lib.ListN.{length, get_or}
use lib.Dec.{eqb}
use borrow.Author.Tests.{not-true, eqb-false, le-leb}
use Rattle.base.specs.Choice.{all_of}
use Rattle.base.specs.Bytes.{part}
use Rattle.base.proofs.Cases.{false-true}
use Rattle.store_records.specs.Little.{le16}
use Rattle.machine_chain.specs.Chain.{Chain, NoChain, Links, is_amid}
use Rattle.machine_chain.specs.Layout.{is_chain, chain_in}
use Rattle.machine_chain.proofs.Reading.{amid_is, so_far_is}
use Rattle.machine_chain.proofs.Laws.{chain_few, so_far_length}
use Rattle.machine_link.specs.Parameters.{parameters_fit}
use Rattle.machine_link.specs.Link.{chain_fits, lent_fits}

none : (ch : Chain) → is_amid ch ≡ false → chain_fits ch ≡ true
none NoChain e = refl
none (Links i p q bs) e = false-true (sym e)

module _ (xs : List ℕ) (c : is_chain xs ≡ true) where
  pub none-fits : is_amid (chain_in xs) ≡ false → true ≡ lent_fits xs
  unfolding lent_fits all_of
  none-fits a = simp (c, none (chain_in xs) a)

  some : is_amid (chain_in xs) ≡ true → chain_fits (chain_in xs) ≡ parameters_fit (get_or xs 2 0) (get_or xs 3 0) (get_or xs 4 0)
  unfolding chain_in all_of
  some a =
      let z : eqb (le16 xs 0) 0 ≡ false = not-true (eqb (le16 xs 0) 0) (sym (amid_is xs) ∙ a) in
      let l : length (part xs 5 (le16 xs 0)) ≡ le16 xs 0 = ap length (sym (so_far_is xs)) ∙ so_far_length xs c in
      let s : 1 ≤ le16 xs 0 = omega (arith, eqb-false (le16 xs 0) 0 z) in
      simp (z, l, le-leb 1 (le16 xs 0) s, le-leb (le16 xs 0) 1024 (chain_few xs c), and-true)

  pub some_fits : is_amid (chain_in xs) ≡ true → {i p q : ℕ} → i ≡ get_or xs 2 0 → p ≡ get_or xs 3 0 → q ≡ get_or xs 4 0 → parameters_fit i p q ≡ lent_fits xs
  unfolding lent_fits all_of
  some_fits a ei ep eq = simp (c, some a, and-true, ei, ep, eq)
