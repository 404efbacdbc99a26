-- The last link: its data joins the chain, the join is lent as the data of the whole command, and the chain ends. Read the contracts of `join`,
-- `joined` and `end` before. Exports `joined_data`, `ended`, `not_amid`.
use Prim.Native.Nat.{ℕ, zero, suc, ◌+◌, ◌-◌, ◌≤◌}
use mathlib.Core.Path.{◌≡◌, refl, sym, ap, ◌∙◌}
use mathlib.Core.Bool.{true, false, not}
use mathlib.Core.List.{List, ◌++◌}
use native.Mathlib.Omega.{arith}
use lib.ListN.{length, drop, replicate, length-append, length-replicate}
use lib.Dec.{eqb}
use Rattle.base.specs.Choice.{if_else}
use Rattle.base.specs.Bytes.{put}
use Rattle.base.proofs.Cases.{by_cases, false-true}
use Rattle.store_records.specs.Little.{le16, bytes16}
use Rattle.machine_apdu.specs.declared.Header.{Header}
use Rattle.machine_chain.specs.Chain.{Chain, NoChain, Links, is_amid, so_far, extended}
use Rattle.machine_chain.specs.Layout.{chain_head, no_chain_bytes, chain_bytes, is_chain, chain_in, join_into}
use Rattle.machine_chain.proofs.Reading.{amid_is}
use Rattle.machine_chain.proofs.Laws.{put-start, put_over, chain-long, so_far_length, none-blank, extend-whole, written_amid, written_so_far}

-- without a chain there is nothing before the data
pub not_amid : (ch : Chain) (d : List ℕ) → is_amid ch ≡ false → d ≡ so_far ch ++ d
not_amid NoChain d e = refl
not_amid (Links i p q bs) d e = false-true (sym e)

amid_some : (n : ℕ) → not (eqb n 0) ≡ true → 1 ≤ n
amid_some n e = by_cases (eqb n 0) (λ z. false-true (sym (ap not z) ∙ e)) (λ z. pos n z)
  where
    pos : (k : ℕ) → eqb k 0 ≡ false → 1 ≤ k
    pos zero z = false-true (sym z)
    pos (suc k) z = omega arith

pub blank-length : length no_chain_bytes ≡ 1029
unfolding no_chain_bytes
blank-length = length-replicate {A = ℕ} 1029 0

pub chain_bytes-length : (i p q : ℕ) (bs : List ℕ) → length bs ≤ 1024 → length (chain_bytes (Links i p q bs)) ≡ 1029
unfolding chain_head bytes16
chain_bytes-length i p q bs h =
    let z : List ℕ = replicate (1024 - length bs) 0 in
    omega (arith, length-append bs z, length-replicate {A = ℕ} (1024 - length bs) 0)

module _ (xs : List ℕ) (c : is_chain xs ≡ true) (h : Header) (d : List ℕ) (f : length (so_far (chain_in xs)) + length d ≤ 1024) where
  abbrev joins : List ℕ
  joins = so_far (chain_in xs) ++ d

  abbrev after : List ℕ
  after = if_else (is_amid (chain_in xs)) (join_into xs h d) xs

  joins-few : length joins ≤ 1024
  joins-few = omega (arith, length-append (so_far (chain_in xs)) d)

  module _ (a : is_amid (chain_in xs) ≡ true) where
    some : 1 ≤ length joins
    some = omega (arith, length-append (so_far (chain_in xs)) d, so_far_length xs c, amid_some (le16 xs 0) (sym (amid_is xs) ∙ a))

    size : length (chain_bytes (extended (chain_in xs) h d)) ≡ 1029
    size = chain_bytes-length h.ins h.p1 h.p2 joins joins-few

    after_is : after ≡ chain_bytes (extended (chain_in xs) h d) ++ drop (length (chain_bytes (extended (chain_in xs) h d))) xs
    after_is = rw a (extend-whole xs c h d f ∙ put-start xs (chain_bytes (extended (chain_in xs) h d)) (omega (arith, size, chain-long xs c)))

    after-put : after ≡ put xs 0 (chain_bytes (extended (chain_in xs) h d))
    after-put = rw a (extend-whole xs c h d f)

    amid-after : is_amid (chain_in after) ≡ true
    amid-after = ap (λ (l : List ℕ). is_amid (chain_in l)) after_is ∙ written_amid h.ins h.p1 h.p2 joins _ joins-few some

  module _ (a : is_amid (chain_in xs) ≡ false) where
    after_same : after ≡ xs
    after_same = rw a refl

    none_after : is_amid (chain_in after) ≡ false
    none_after = ap (λ (l : List ℕ). is_amid (chain_in l)) after_same ∙ a

  pub joined_data : if_else (is_amid (chain_in after)) (so_far (chain_in after)) d ≡ joins
  joined_data =
      by_cases (is_amid (chain_in xs))
      (λ a. rw (amid-after a) (ap (λ (l : List ℕ). so_far (chain_in l)) (after_is a) ∙ written_so_far h.ins h.p1 h.p2 joins _ joins-few))
      (λ a. rw (none_after a) (not_amid (chain_in xs) d a))

  pub ended : if_else (is_amid (chain_in after)) (put after 0 no_chain_bytes) after ≡ put xs 0 no_chain_bytes
  ended =
      by_cases (is_amid (chain_in xs))
      (λ a.
      rw (amid-after a)
      (ap (λ (l : List ℕ). put l 0 no_chain_bytes) (after-put a)
      ∙ put_over xs (chain_bytes (extended (chain_in xs) h d)) no_chain_bytes (size a ∙ sym blank-length) (omega (arith, blank-length, chain-long xs c))))
      (λ a. rw (none_after a) (after_same a ∙ none-blank xs c a))
