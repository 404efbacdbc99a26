-- A chain and its bytes. Read specs/Layout.antt before. Exports `put-start`, `put_over`; `chain-long`, `chain_few`, `so_far_length`; `none-blank`
-- (no chain is 1,029 zeros), `end_blank`, `extend-whole` (a link behind a chain is the longer chain), `written-length`, `written_amid`, `written_so_far` (what is
-- written is read back).
use Prim.Native.Nat.{ℕ, zero, suc, ◌+◌, ◌-◌, ◌/◌, ◌%◌, ◌≤◌, ◌<◌}
use mathlib.Core.Path.{◌≡◌, refl, sym, ap, ap₂, ◌∙◌}
use mathlib.Core.Bool.{Bool, true, false, not}
use mathlib.Core.List.{List, [], ◌∷◌, ◌++◌, append_assoc}
use native.Mathlib.Omega.{arith}
use native.Mathlib.Nat.{zero-add}
use lib.ListN.{length, get_or, take, drop, replicate, length-append, length-drop, length-replicate}
use lib.Seq.{length-take-le, sets-eq, drop-cons, drop-append-le, drop_at, take-append-le, take_all}
use lib.Dec.{eqb}
use borrow.Author.Tests.{leb-true, eqb-true, eq-eqb, ne_eqb}
use Rattle.base.specs.Choice.{if_else}
use Rattle.base.specs.Bytes.{part, put}
use Rattle.base.proofs.Cases.{by_cases, false-true, all_of_facts}
use Rattle.base.proofs.Parts.{length_part, drop-take}
use Rattle.base.proofs.Runs.{put_accepted, length-put}
use Rattle.store_records.specs.Little.{le16, bytes16}
use Rattle.machine_apdu.specs.declared.Header.{Header}
use Rattle.machine_chain.specs.Chain.{Links, is_amid, so_far, extended}
use Rattle.machine_chain.specs.Layout.{chain_head, no_chain_bytes, chain_bytes, zero_run, unused_zeros, is_chain, chain_in, join_into}
use Rattle.machine_chain.proofs.Unused.{zeros-at}
use Rattle.machine_chain.proofs.Reading.{amid_is, so_far_is}

not-false : (b : Bool) → not b ≡ false → b ≡ true
not-false true e = refl
not-false false e = false-true (sym e)

-- ---- stored at the start

pub put-start : (xs b : List ℕ) → length b ≤ length xs → put xs 0 b ≡ b ++ drop (length b) xs
put-start xs b h = put_accepted xs 0 b (omega arith) ∙ sets-eq b xs 0 (omega arith) ∙ ap (λ (k : ℕ). b ++ drop k xs) (zero-add (length b))

-- over as many bytes
pub put_over : (xs a b : List ℕ) → length a ≡ length b → length b ≤ length xs → put (put xs 0 a) 0 b ≡ put xs 0 b
put_over xs a b e h =
    let p = put-start xs a (omega arith) in
    ap (λ (l : List ℕ). put l 0 b) p
    ∙ put-start (a ++ drop (length a) xs) b (omega (arith, length-append a (drop (length a) xs), length-drop (length a) xs))
    ∙ ap (λ (l : List ℕ). b ++ l) (drop_at a (drop (length a) xs) (length b) e ∙ ap (λ (k : ℕ). drop k xs) e)
    ∙ sym (put-start xs b h)

-- ---- zero_run

zeros-drop : (m : ℕ) (xs : List ℕ) (k : ℕ) → ((i : ℕ) → k ≤ i → i < k + m → get_or xs i 0 ≡ 0) → k + m ≤ length xs → drop k xs ≡ replicate m 0 ++ drop (k + m) xs
zeros-drop zero xs k h l = let e : k ≡ k + 0 = omega arith in ap (λ (j : ℕ). drop j xs) e
zeros-drop (suc m) xs k h l =
    let e : suc k + m ≡ k + suc m = omega arith in
    drop-cons xs k 0 (omega arith)
    ∙ ap₂ (λ (x : ℕ) (ys : List ℕ). x ∷ ys)
    (h k (omega arith) (omega arith))
    (zeros-drop m xs (suc k) (λ i a b. h i (omega arith) (omega arith)) (omega arith) ∙ ap (λ (j : ℕ). replicate m 0 ++ drop j xs) e)

zeros-start : (m : ℕ) (xs : List ℕ) → ((i : ℕ) → i < m → get_or xs i 0 ≡ 0) → m ≤ length xs → xs ≡ put xs 0 (replicate m 0)
zeros-start m xs h l =
    let n : length {A = ℕ} (replicate m 0) ≡ m = length-replicate m 0 in
    let z : 0 + m ≡ length {A = ℕ} (replicate m 0) = omega arith in
    zeros-drop m xs 0 (λ i a b. h i (omega arith)) (omega arith)
    ∙ ap (λ (j : ℕ). replicate m 0 ++ drop j xs) z
    ∙ sym (put-start xs (replicate m 0) (omega arith))

module _ (xs : List ℕ) (c : is_chain xs ≡ true) where
  pub chain-long : 1029 ≤ length xs
  unfolding is_chain
  chain-long = leb-true 1029 (length xs) (all_of_facts _ c).0

  pub chain_few : le16 xs 0 ≤ 1024
  unfolding is_chain
  chain_few = leb-true (le16 xs 0) 1024 (all_of_facts _ c).1.0

  pub so_far_length : length (so_far (chain_in xs)) ≡ le16 xs 0
  so_far_length = ap length (so_far_is xs) ∙ length_part xs 5 (le16 xs 0) (omega (arith, chain-long, chain_few))

  unused : unused_zeros xs (le16 xs 0) ≡ true
  unfolding is_chain
  unused = (all_of_facts _ c).1.1.0

  pub zeros-none : eqb (le16 xs 0) 0 ≡ true → zero_run xs 2 1027 ≡ true
  unfolding unused_zeros
  zeros-none e = rw e at unused

  pub zeros-some : eqb (le16 xs 0) 0 ≡ false → zero_run xs (5 + le16 xs 0) (1024 - le16 xs 0) ≡ true
  unfolding unused_zeros
  zeros-some e = rw e at unused

  -- behind the links so far everything is zero
  behind-zero : (i : ℕ) → 5 + le16 xs 0 ≤ i → i < 1029 → get_or xs i 0 ≡ 0
  behind-zero i l h =
      by_cases (eqb (le16 xs 0) 0)
      (λ e. ap (λ (j : ℕ). get_or xs j 0) (omega arith) ∙ zeros-at xs 2 1027 (zeros-none e) (i - 2) (omega arith))
      (λ e. ap (λ (j : ℕ). get_or xs j 0) (omega arith) ∙ zeros-at xs (5 + le16 xs 0) (1024 - le16 xs 0) (zeros-some e) (i - (5 + le16 xs 0)) (omega arith))

  pub none-blank : is_amid (chain_in xs) ≡ false → xs ≡ put xs 0 no_chain_bytes
  unfolding no_chain_bytes
  none-blank e = zeros-start 1029 xs all chain-long
    where
      none : le16 xs 0 ≡ 0
      none = eqb-true (le16 xs 0) 0 (not-false (eqb (le16 xs 0) 0) (sym (amid_is xs) ∙ e))

      all : (i : ℕ) → i < 1029 → get_or xs i 0 ≡ 0
      all zero h = unfold le16 in omega (arith, none)
      all (suc zero) h = unfold le16 in omega (arith, none)
      all (suc (suc i)) h =
          let q : 2 + i ≡ suc (suc i) = omega arith in
          ap (λ (j : ℕ). get_or xs j 0) (sym q) ∙ zeros-at xs 2 1027 (zeros-none (eq-eqb (le16 xs 0) 0 none)) i (omega arith)

  -- what `end` leaves
  pub end_blank : if_else (is_amid (chain_in xs)) (put xs 0 no_chain_bytes) xs ≡ put xs 0 no_chain_bytes
  end_blank = by_cases (is_amid (chain_in xs)) (λ a. rw a refl) (λ a. rw a (none-blank a))

  module _ (h : Header) (d : List ℕ) (f : length (so_far (chain_in xs)) + length d ≤ 1024) where
    abbrev bs : List ℕ
    bs = so_far (chain_in xs)

    join-length : length (bs ++ d) ≡ le16 xs 0 + length d
    join-length = length-append bs d ∙ ap (λ (k : ℕ). k + length d) so_far_length

    -- what stands behind the length, INS, P1 and P2
    content : drop 5 (put xs (5 + le16 xs 0) d) ≡ (bs ++ d) ++ (replicate (1024 - length (bs ++ d)) 0 ++ drop 1029 xs)
    content =
        let n = le16 xs 0 in
        let k : 5 + n + length d ≤ length xs = omega (arith, chain-long, so_far_length) in
        let m : length (take (5 + n) xs) ≡ 5 + n = length-take-le (5 + n) xs (omega arith) in
        let e : 5 + n - 5 ≡ n = omega arith in
        let z : 5 + n + length d + (1024 - length (bs ++ d)) ≡ 1029 = omega (arith, join-length, so_far_length) in
        ap (drop 5) (put_accepted xs (5 + n) d k ∙ sets-eq d xs (5 + n) k ∙ append_assoc (take (5 + n) xs) d (drop (5 + n + length d) xs))
        ∙ drop-append-le 5 (take (5 + n) xs) (d ++ drop (5 + n + length d) xs) (omega arith)
        ∙ ap₂ (λ (x y : List ℕ). x ++ (d ++ y))
        (drop-take xs 5 (5 + n) ∙ ap (part xs 5) e ∙ sym (so_far_is xs))
        (zeros-drop (1024 - length (bs ++ d)) xs (5 + n + length d) (λ i a b. behind-zero i (omega arith) (omega arith)) (omega (arith, chain-long))
        ∙ ap (λ (j : ℕ). replicate (1024 - length (bs ++ d)) 0 ++ drop j xs) z)
        ∙ sym (append_assoc bs d (replicate (1024 - length (bs ++ d)) 0 ++ drop 1029 xs))

    pub extend-whole : join_into xs h d ≡ put xs 0 (chain_bytes (extended (chain_in xs) h d))
    unfolding join_into chain_head bytes16
    extend-whole =
        let n = le16 xs 0 in
        let l = length (bs ++ d) in
        let head : List ℕ = l % 256 ∷ l / 256 % 256 ∷ h.ins % 256 ∷ h.p1 % 256 ∷ h.p2 % 256 ∷ [] in
        let z : List ℕ = replicate (1024 - l) 0 in
        let all : length (head ++ ((bs ++ d) ++ z)) ≡ 1029 = omega (arith, join-length, so_far_length, length-append (bs ++ d) z, length-replicate {A = ℕ} (1024 - l) 0) in
        ap (λ (j : ℕ). put (put xs (5 + n) d) 0 (j % 256 ∷ j / 256 % 256 ∷ h.ins % 256 ∷ h.p1 % 256 ∷ h.p2 % 256 ∷ [])) (sym join-length)
        ∙ put-start (put xs (5 + n) d) head (omega (arith, length-put xs (5 + n) d, chain-long))
        ∙ ap (λ (r : List ℕ). head ++ r) (content ∙ sym (append_assoc (bs ++ d) z (drop 1029 xs)))
        ∙ ap (λ (k : ℕ). (head ++ ((bs ++ d) ++ z)) ++ drop k xs) (sym all)
        ∙ sym (put-start xs (head ++ ((bs ++ d) ++ z)) (omega (arith, chain-long)))

-- ---- what is written is read back

module _ (i p q : ℕ) (bs rest : List ℕ) (few : length bs ≤ 1024) where
  abbrev all : List ℕ
  all = chain_bytes (Links i p q bs) ++ rest

  pub written-length : le16 all 0 ≡ length bs
  unfolding le16 chain_head bytes16
  written-length = omega arith

  pub written_amid : 1 ≤ length bs → is_amid (chain_in all) ≡ true
  written_amid h = amid_is all ∙ ap (λ (k : ℕ). not (eqb k 0)) written-length ∙ simp (ne_eqb (length bs) 0 (λ e. absurd (omega arith)))

  pub written_so_far : so_far (chain_in all) ≡ bs
  unfolding chain_head bytes16
  written_so_far =
      so_far_is all
      ∙ ap (part all 5) written-length
      ∙ ap (take (length bs)) (append_assoc bs (replicate (1024 - length bs) 0) rest)
      ∙ take-append-le (length bs) bs (replicate (1024 - length bs) 0 ++ rest) (omega arith)
      ∙ take_all (length bs) bs (omega arith)
