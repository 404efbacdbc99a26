-- A chain that is stored is read back. Read specs/Layout.antt before. Exports `Held` (a chain that its bytes can hold), `held-size`; `stored-chain`,
-- `stored_same` (what is stored at the start of a buffer is a chain, and the one that was stored).
use Prim.Native.Nat.{ℕ, ◌+◌, ◌-◌, ◌/◌, ◌%◌, ◌≤◌, ◌<◌}
use mathlib.Core.Path.{◌≡◌, refl, sym, ap, ap₂, ◌∙◌}
use mathlib.Core.Bool.{true}
use mathlib.Core.List.{List, ◌∷◌, ◌++◌, append_assoc}
use native.Mathlib.Omega.{arith}
use lib.ListN.{length, get_or, drop, replicate, length-append, length-replicate, get_or-replicate, get_or-append}
use lib.Seq.{get_or-append-add}
use lib.Dec.{eqb}
use borrow.Author.Tests.{ne_eqb}
use Rattle.base.specs.Choice.{if_else}
use Rattle.base.specs.Bytes.{part, put}
use Rattle.store_records.specs.Little.{le16, bytes16}
use Rattle.machine_chain.specs.Chain.{Chain, NoChain, Links}
use Rattle.machine_chain.specs.Layout.{chain_head, no_chain_bytes, chain_bytes, is_chain, chain_in}
use Rattle.machine_chain.proofs.Unused.{zeros_are}
use Rattle.machine_chain.proofs.Reading.{so_far_is, none-chain, some_chain}
use Rattle.machine_chain.proofs.Laws.{put-start, written-length, written_so_far}
use Rattle.machine_chain.proofs.Joining.{blank-length, chain_bytes-length}

-- ---- a chain that its bytes can hold

abbrev pub Held : Chain → Type 0
Held NoChain = Unit {0}
Held (Links i p q bs) = (i < 256) × (p < 256) × (q < 256) × (1 ≤ length bs) × (length bs ≤ 1024)

pub held-size : (ch : Chain) → Held ch → length (chain_bytes ch) ≡ 1029
held-size NoChain h = blank-length
held-size (Links i p q bs) h = chain_bytes-length i p q bs h.4

-- bytes are a chain, and it is ch
abbrev Reads : List ℕ → Chain → Type 0
Reads xs ch = (is_chain xs ≡ true) × (chain_in xs ≡ ch)

-- ---- no chain

module _ (rest : List ℕ) where
  abbrev none : List ℕ
  none = no_chain_bytes ++ rest

  none-zero : (i : ℕ) → i < 1029 → get_or none i 0 ≡ 0
  unfolding no_chain_bytes
  none-zero i h =
      get_or-append (replicate 1029 0) rest 0 i (omega (arith, length-replicate {A = ℕ} 1029 0)) ∙ get_or-replicate 1029 i 0 0 h

  none-length : le16 none 0 ≡ 0
  unfolding le16
  none-length = omega (arith, none-zero 0 (omega arith), none-zero (0 + 1) (omega arith))

  none_read : Reads none NoChain
  none_read = (
    sym (none-chain none (omega (arith, blank-length, length-append no_chain_bytes rest)) (sym none-length) (omega arith) refl (sym (zeros_are none 2 1027 (λ i h. none-zero (2 + i) (omega arith))))),
    unfold chain_in in rw none-length refl,
  )

-- ---- links

low : (n : ℕ) → n < 256 → n % 256 ≡ n
low n h = omega arith

module _ (i p q : ℕ) (bs rest : List ℕ) (some : 1 ≤ length bs) (few : length bs ≤ 1024) where
  abbrev all : List ℕ
  all = chain_bytes (Links i p q bs) ++ rest

  abbrev unused : List ℕ
  unused = replicate (1024 - length bs) 0

  -- behind the links so far everything is zero
  all-zero : (j : ℕ) → j < 1024 - length bs → get_or all (5 + length bs + j) 0 ≡ 0
  unfolding chain_head bytes16
  all-zero j h =
      let n = length bs in
      let used : List ℕ = n % 256 ∷ n / 256 % 256 ∷ i % 256 ∷ p % 256 ∷ q % 256 ∷ bs in
      let e : 5 + n + j ≡ length used + j = omega arith in
      ap₂ (λ (l : List ℕ) (k : ℕ). get_or (n % 256 ∷ n / 256 % 256 ∷ i % 256 ∷ p % 256 ∷ q % 256 ∷ l) k 0) (append_assoc bs unused rest) e
      ∙ get_or-append-add used (unused ++ rest) j 0
      ∙ get_or-append unused rest 0 j (omega (arith, length-replicate {A = ℕ} (1024 - n) 0))
      ∙ get_or-replicate (1024 - n) j 0 0 h

  all-long : 1029 ≤ length all
  all-long = omega (arith, chain_bytes-length i p q bs few, length-append (chain_bytes (Links i p q bs)) rest)

  all-chain : is_chain all ≡ true
  all-chain =
      sym (some_chain all all-long (sym (written-length i p q bs rest few)) few (λ z. absurd (omega arith)) (sym (zeros_are all (5 + length bs) (1024 - length bs) all-zero)))

  all-bytes : part all 5 (le16 all 0) ≡ bs
  all-bytes = sym (so_far_is all) ∙ written_so_far i p q bs rest few

  all_in : chain_in all ≡ Links (i % 256) (p % 256) (q % 256) bs
  unfolding chain_in chain_head bytes16
  all_in =
      ap₂ (λ (n : ℕ) (l : List ℕ). if_else (eqb n 0) NoChain (Links (i % 256) (p % 256) (q % 256) l)) (written-length i p q bs rest few) all-bytes
      ∙ rw (ne_eqb (length bs) 0 (λ z. absurd (omega arith))) refl

-- what stands at the start of a buffer is read back
read-start : (ch : Chain) (rest : List ℕ) → Held ch → Reads (chain_bytes ch ++ rest) ch
read-start NoChain rest h = none_read rest
read-start (Links i p q bs) rest h = (
  all-chain i p q bs rest h.3 h.4,
  all_in i p q bs rest h.3 h.4 ∙ ap₂ (λ (x y : ℕ). Links x y (q % 256) bs) (low i h.0) (low p h.1) ∙ ap (λ (x : ℕ). Links i p x bs) (low q h.2),
)

module _ (ch : Chain) (xs : List ℕ) (h : Held ch) (l : 1029 ≤ length xs) where
  stored-start : put xs 0 (chain_bytes ch) ≡ chain_bytes ch ++ drop (length (chain_bytes ch)) xs
  stored-start = put-start xs (chain_bytes ch) (omega (arith, held-size ch h))

  pub stored-chain : is_chain (put xs 0 (chain_bytes ch)) ≡ true
  stored-chain = ap is_chain stored-start ∙ (read-start ch (drop (length (chain_bytes ch)) xs) h).0

  pub stored_same : chain_in (put xs 0 (chain_bytes ch)) ≡ ch
  stored_same = ap chain_in stored-start ∙ (read-start ch (drop (length (chain_bytes ch)) xs) h).1
