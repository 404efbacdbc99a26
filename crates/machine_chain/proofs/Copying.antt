-- A copy of a chain's 1,029 bytes is the same chain. Exports `copy-chain`, `copy-same`.
use Prim.Native.Nat.{ℕ, ◌+◌, ◌-◌, ◌*◌, ◌≤◌, ◌<◌}
use mathlib.Core.Path.{◌≡◌, ap, ap₂, ◌∙◌}
use mathlib.Core.Bool.{true}
use mathlib.Core.List.{List, ◌++◌, append-nil}
use native.Mathlib.Omega.{arith}
use lib.ListN.{length, get_or, take, drop_of_length-le}
use lib.Seq.{get_or-take, length-take-le}
use lib.Dec.{eqb}
use borrow.Author.Tests.{le-leb}
use Rattle.base.specs.Choice.{if_else, all_of}
use Rattle.base.specs.Bytes.{part, put}
use Rattle.base.proofs.Cases.{by_cases}
use Rattle.base.proofs.Parts.{Agree, part-within}
use Rattle.store_records.specs.Little.{le16}
use Rattle.machine_chain.specs.Chain.{NoChain, Links}
use Rattle.machine_chain.specs.Layout.{zero_run, unused_zeros, is_chain, chain_in}
use Rattle.machine_chain.proofs.Unused.{zeros-at, zeros_are}
use Rattle.machine_chain.proofs.Laws.{put-start, chain-long, chain_few, zeros-none, zeros-some}

module _ (xs : List ℕ) (c : is_chain xs ≡ true) where
  abbrev ys : List ℕ
  ys = take 1029 xs

  size : length ys ≡ 1029
  size = length-take-le 1029 xs (chain-long xs c)

  at : (i : ℕ) → i < 1029 → get_or ys i 0 ≡ get_or xs i 0
  at i h = get_or-take 1029 xs i 0 h

  same_length : le16 ys 0 ≡ le16 xs 0
  unfolding le16
  same_length = ap₂ (λ (a b : ℕ). a + 256 * b) (at 0 (omega arith)) (at (0 + 1) (omega arith))

  same-zeros : (a n : ℕ) → a + n ≤ 1029 → zero_run xs a n ≡ true → zero_run ys a n ≡ true
  same-zeros a n h z = zeros_are ys a n (λ i b. at (a + i) (omega arith) ∙ zeros-at xs a n z i b)

  same-unused : unused_zeros ys (le16 ys 0) ≡ true
  unfolding unused_zeros
  same-unused =
      ap (λ (n : ℕ). if_else (eqb n 0) (zero_run ys 2 1027) (zero_run ys (5 + n) (1024 - n))) same_length
      ∙ by_cases (eqb (le16 xs 0) 0)
      (λ e. rw e (same-zeros 2 1027 (omega arith) (zeros-none xs c e)))
      (λ e. rw e (same-zeros (5 + le16 xs 0) (1024 - le16 xs 0) (omega (arith, chain_few xs c)) (zeros-some xs c e)))

  copy_is : is_chain ys ≡ true
  unfolding is_chain all_of
  copy_is = simp (le-leb 1029 (length ys) (omega (arith, size)), le-leb (le16 ys 0) 1024 (omega (arith, same_length, chain_few xs c)), same-unused)

  same-part : part ys 5 (le16 ys 0) ≡ part xs 5 (le16 xs 0)
  unfolding Agree
  same-part =
      ap (part ys 5) same_length
      ∙ part-within xs ys 0 1029 5 (le16 xs 0) (chain-long xs c) (omega (arith, size)) (λ p h k. at p k) (omega arith) (omega (arith, chain_few xs c))

  copy-in : chain_in ys ≡ chain_in xs
  unfolding chain_in
  copy-in =
      ap₂ (λ (n : ℕ) (l : List ℕ). if_else (eqb n 0) NoChain (Links (get_or ys 2 0) (get_or ys 3 0) (get_or ys 4 0) l)) same_length same-part
      ∙ ap₂ (λ (i p : ℕ). if_else (eqb (le16 xs 0) 0) NoChain (Links i p (get_or ys 4 0) (part xs 5 (le16 xs 0)))) (at 2 (omega arith)) (at 3 (omega arith))
      ∙ ap (λ (q : ℕ). if_else (eqb (le16 xs 0) 0) NoChain (Links (get_or xs 2 0) (get_or xs 3 0) q (part xs 5 (le16 xs 0)))) (at 4 (omega arith))

  -- stored over as many bytes
  module _ (zs ws : List ℕ) (l : length zs ≡ 1029) (e : ws ≡ put zs 0 (part xs 0 1029)) where
    copied : ws ≡ ys
    copied =
        e ∙ put-start zs ys (omega (arith, size))
        ∙ ap (λ (r : List ℕ). ys ++ r) (drop_of_length-le zs {i = length ys} (omega (arith, size)))
        ∙ append-nil ys

    pub copy-chain : is_chain ws ≡ true
    copy-chain = ap is_chain copied ∙ copy_is

    pub copy-same : chain_in ws ≡ chain_in xs
    copy-same = ap chain_in copied ∙ copy-in
