-- The fewest bytes of a number: they hold it, fewer do not, and they read back as it. Read before: specs/Number.antt. Exports the laws of
-- `bytes_of` (`bytes_of_enough`, `bytes_of_fewest`, `bytes_of_leading`, …), `length_digits` and `shortest-big`.
use Prim.Native.Nat.{ℕ, zero, suc, ◌+◌, ◌-◌, ◌*◌, ◌/◌, ◌%◌, ◌^◌, ◌≤◌, ◌<◌}
use mathlib.Core.Path.{◌≡◌, refl, ap, ◌∙◌}
use mathlib.Core.List.{List, [], ◌∷◌, ◌++◌}
use native.Mathlib.Omega.{arith}
use native.Mathlib.Numerals.{add-one}
use native.Mathlib.Nat.{pow-suc}
use lib.ListN.{length, length-append}
use lib.Dec.{ltb}
use lib.Pow.{pow-add, pow_mono}
use lib.Count.{count_leading_zeros, leading_top}
use borrow.Author.Tests.{ltb-true, ltb-false}
use Rattle.base.proofs.Cases.{by_cases, if_else_ind}
use Rattle.objects_writer.specs.Number.{big_from, big, digits, bytes_in, bytes_of, shortest}

-- ---- how many bytes, by how often a number can be divided

-- one byte, or one more than a 256th of the number takes
bytes_ind : (P : ℕ → Type 0) (k n : ℕ) → (n < 256 → P 1) → (256 ≤ n → P (1 + bytes_in k (n / 256))) → P (bytes_in (suc k) n)
unfolding bytes_in
bytes_ind P k n f g = if_else_ind P (ltb n 256) (λ e. f (ltb-true n 256 e)) (λ e. g (ltb-false n 256 e))

-- by the highest set bit
bytes_top : (fuel k n : ℕ) → 2 ^ k ≤ n → n < 2 ^ suc k → k < 8 * suc fuel → bytes_in fuel n ≡ k / 8 + 1
unfolding bytes_in
bytes_top zero k n p q h = omega arith
bytes_top (suc fuel) k n p q h =
    let j = k - 8 in
    bytes_ind (λ (b : ℕ). b ≡ k / 8 + 1) fuel n
    (λ a. by_cases (ltb k 8) (λ e. omega (arith, ltb-true k 8 e)) (λ e. absurd (omega (arith, pow_mono {i = 8} {j = k} (ltb-false k 8 e)))))
    (λ a. by_cases (ltb k 8)
    (λ e. absurd (omega (arith, pow_mono {i = suc k} {j = 8} (ltb-true k 8 e))))
    (λ e. let l = ltb-false k 8 e in
    let s : k ≡ j + 8 = omega arith in
    let t : 2 ^ k ≡ 2 ^ j * 256 = ap (λ (x : ℕ). 2 ^ x) s ∙ pow-add 2 j 8 in
    let u = pow-suc 2 k in
    let v = pow-suc 2 j in
    omega (arith, bytes_top fuel j (n / 256) (omega arith) (omega arith) (omega arith))))

bytes_hold : (fuel n : ℕ) → n < 256 ^ suc fuel → n < 256 ^ bytes_in fuel n
unfolding bytes_in
bytes_hold zero n h = h
bytes_hold (suc fuel) n h =
    bytes_ind (λ (b : ℕ). n < 256 ^ b) fuel n (λ a. a)
    (λ a. rw (pow-add 256 1) (omega (arith, pow-suc 256 (suc fuel), bytes_hold fuel (n / 256) (omega (arith, pow-suc 256 (suc fuel))))))

bytes_need : (fuel n k : ℕ) → 1 ≤ k → k < bytes_in fuel n → 256 ^ k ≤ n
unfolding bytes_in
bytes_need fuel n zero p q = absurd (omega arith)
bytes_need zero n (suc k) p q = absurd (omega arith)
bytes_need (suc fuel) n (suc zero) p q = bytes_ind (λ (b : ℕ). 1 < b → 256 ≤ n) fuel n (λ a r. absurd (omega arith)) (λ a r. a) q
bytes_need (suc fuel) n (suc (suc k)) p q =
    bytes_ind (λ (b : ℕ). suc (suc k) < b → 256 ^ suc (suc k) ≤ n) fuel n (λ a r. absurd (omega arith))
    (λ a r. omega (arith, pow-suc 256 (suc k), bytes_need fuel (n / 256) (suc k) (omega arith) (omega arith))) q

bytes_range : (fuel n : ℕ) → (1 ≤ bytes_in fuel n) × (bytes_in fuel n ≤ suc fuel)
unfolding bytes_in
bytes_range zero n = omega arith
bytes_range (suc fuel) n =
    bytes_ind (λ (b : ℕ). (1 ≤ b) × (b ≤ suc (suc fuel))) fuel n (λ a. omega arith) (λ a. omega (arith, bytes_range fuel (n / 256)))

-- ---- the fewest bytes that hold a number

pub bytes_of_enough : (n : ℕ) → n < 2 ^ 64 → n < 256 ^ bytes_of n
unfolding bytes_of
bytes_of_enough n h = bytes_hold 7 n h

pub bytes_of_fewest : (n k : ℕ) → 1 ≤ k → k < bytes_of n → 256 ^ k ≤ n
unfolding bytes_of
bytes_of_fewest n k = bytes_need 7 n k

pub bytes_of_least : (n : ℕ) → 1 ≤ bytes_of n
unfolding bytes_of
bytes_of_least n = (bytes_range 7 n).0

pub bytes_of_most : (n : ℕ) → bytes_of n ≤ 8
unfolding bytes_of
bytes_of_most n = (bytes_range 7 n).1

-- the byte count from leading zeros, zero left aside
pub bytes_of_leading : (n : ℕ) → 0 < n → n < 2 ^ 64 → (71 - count_leading_zeros 64 n) / 8 ≡ bytes_of n
unfolding bytes_of
bytes_of_leading n p h =
    let top = leading_top 64 n p h in
    omega (arith, top.1, bytes_top 7 top.0 n top.2 top.3 (omega (arith, top.1)))

-- ---- the bytes read back

pub length_digits : (k n : ℕ) → length (digits k n) ≡ k
length_digits zero n = refl
length_digits (suc k) n = rw (length-append, length_digits k (n / 256)) (add-one k)

big_snoc : (acc : ℕ) (l : List ℕ) (b : ℕ) → big_from acc (l ++ (b ∷ [])) ≡ big_from acc l * 256 + b
big_snoc acc [] b = refl
big_snoc acc (a ∷ l) b = big_snoc (acc * 256 + a) l b

pub big-digits : (k n : ℕ) → n < 256 ^ k → big (digits k n) ≡ n
unfolding big
big-digits zero n h = omega arith
big-digits (suc k) n h =
    big_snoc 0 (digits k (n / 256)) (n % 256)
    ∙ omega (arith, big-digits k (n / 256) (omega (arith, pow-suc 256 k)))

pub shortest-big : (n : ℕ) → n < 2 ^ 64 → big (shortest n) ≡ n
unfolding shortest
shortest-big n h = big-digits (bytes_of n) n (bytes_of_enough n h)
