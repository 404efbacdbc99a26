-- The longest value that fits into an object of a given length. Read before: specs/Fitting.antt. Exports `object_length-is`,
-- `object_length-tlv`, `length-tlv-part`; `longest_within-is` (what fits, and cannot grow, is the longest); of the longest `longest_within-most`,
-- `longest_within-fits`, `longest_within_longest`, `longest_within-some`; and `borders`.
use Prim.Native.Nat.{ℕ, zero, suc, ◌+◌, ◌/◌, ◌≤◌, ◌<◌, min}
use mathlib.Core.Path.{◌≡◌, refl, ap, ◌∙◌}
use mathlib.Core.List.{List}
use native.Mathlib.Omega.{arith}
use lib.ListN.{length}
use lib.Dec.{leb, ltb}
use borrow.Author.Tests.{lt-ltb, ltb-true, ltb-false, leb-true, leb-false}
use Rattle.base.specs.Bytes.{part}
use Rattle.base.proofs.Cases.{by_cases, if_else_ind}
use Rattle.base.proofs.Parts.{length_part}
use Rattle.objects_writer.specs.Writing.{length_bytes, tag_bytes, tlv}
use Rattle.objects_writer.specs.Fitting.{object_length, longest_within}
use Rattle.objects_writer.proofs.Sizes.{length-length_bytes-short, length-length_bytes-one, length-length_bytes_two, length-tlv_parts}

-- ---- how long an object is

-- by the form of the length: one byte, one more from 80 on, and one more from 0100 on
pub object_length-is : (n : ℕ) → object_length n ≡ 2 + n + min 1 (n / 0x80) + min 1 (n / 0x100)
unfolding object_length
object_length-is n =
    by_cases (ltb n 0x80)
    (λ e. let h = ltb-true n 0x80 e in omega (arith, length-length_bytes-short n h))
    (λ e. let h = ltb-false n 0x80 e in
    by_cases (ltb n 0x100)
    (λ d. let k = ltb-true n 0x100 d in omega (arith, length-length_bytes-one n h k))
    (λ d. let k = ltb-false n 0x100 d in omega (arith, length-length_bytes_two n k)))

-- an object is as long as the bytes that are written of it
pub object_length-tlv : (t : ℕ) (v : List ℕ) → t < 256 → length (tlv t v) ≡ object_length (length v)
unfolding object_length tag_bytes
object_length-tlv t v h = let q : length (tag_bytes t) ≡ 1 = simp (lt-ltb t 256 h) in omega (arith, length-tlv_parts t v)

-- of a part of some bytes, where all of it is there
pub length-tlv-part : (t : ℕ) (xs : List ℕ) (a n : ℕ) → t < 256 → a + n ≤ length xs → length (tlv t (part xs a n)) ≡ object_length n
length-tlv-part t xs a n p h = object_length-tlv t (part xs a n) p ∙ ap object_length (length_part xs a n h)

-- a longer value makes a longer object
grows : (m n : ℕ) → m ≤ n → object_length m ≤ object_length n
grows m n h = rw (object_length-is m, object_length-is n) (sum (m / 0x80) (n / 0x80) (m / 0x100) (n / 0x100) (omega arith) (omega arith))
  where
    sum : (a b c d : ℕ) → a ≤ b → c ≤ d → 2 + m + min 1 a + min 1 c ≤ 2 + n + min 1 b + min 1 d
    sum a b c d p q = omega arith

-- ---- the longest

-- k bytes fit and k + 1 do not: then k is the longest, or all that there is
pub longest_within-is : (limit k most : ℕ) → (1 ≤ k → object_length k ≤ limit) → limit < object_length (suc k) → min most k ≡ longest_within limit most
unfolding longest_within
longest_within-is limit k zero f g = omega arith
longest_within-is limit k (suc n) f g =
    if_else_ind (λ (x : ℕ). min (suc n) k ≡ x) (leb (object_length (suc n)) limit)
    (λ e. let a = leb-true (object_length (suc n)) limit e in
    by_cases (leb (suc n) k) (λ d. omega (arith, leb-true (suc n) k d)) (λ d. absurd (omega (arith, grows (suc k) (suc n) (leb-false (suc n) k d)))))
    (λ e. let a = leb-false (object_length (suc n)) limit e in
    by_cases (leb k n) (λ d. omega (arith, leb-true k n d, longest_within-is limit k n f g))
    (λ d. let l = leb-false k n d in absurd (omega (arith, f (omega arith), grows (suc n) k l))))

module _ (limit : ℕ) where
  pub longest_within-most : (most : ℕ) → longest_within limit most ≤ most
  unfolding longest_within
  longest_within-most zero = omega arith
  longest_within-most (suc n) = if_else_ind (λ (x : ℕ). x ≤ suc n) (leb (object_length (suc n)) limit) (λ _. omega arith) (λ _. omega (arith, longest_within-most n))

  -- it fits
  pub longest_within-fits : (most : ℕ) → 1 ≤ longest_within limit most → object_length (longest_within limit most) ≤ limit
  unfolding longest_within
  longest_within-fits zero h = absurd (omega arith)
  longest_within-fits (suc n) h =
      if_else_ind (λ (x : ℕ). 1 ≤ x → object_length x ≤ limit) (leb (object_length (suc n)) limit) (λ e _. leb-true _ _ e) (λ _. longest_within-fits n) h

  -- no longer one does
  pub longest_within_longest : (most n : ℕ) → longest_within limit most < n → n ≤ most → limit < object_length n
  unfolding longest_within
  longest_within_longest zero n h k = absurd (omega arith)
  longest_within_longest (suc m) n p q =
      if_else_ind (λ (x : ℕ). x < n → n ≤ suc m → limit < object_length n) (leb (object_length (suc m)) limit)
      (λ e h k. absurd (omega arith))
      (λ e h k. by_cases (leb n m) (λ d. longest_within_longest m n h (leb-true n m d))
      (λ d. let s : suc m ≡ n = omega (arith, leb-false n m d) in let l = leb-false (object_length (suc m)) limit e in omega (arith, ap object_length s)))
      p q

  -- three bytes are enough for one
  pub longest_within-some : (most : ℕ) → 3 ≤ limit → 1 ≤ most → 1 ≤ longest_within limit most
  longest_within-some most h k =
      by_cases (leb 1 (longest_within limit most)) (λ e. leb-true 1 (longest_within limit most) e)
      (λ e. let z = leb-false 1 (longest_within limit most) e in
      absurd (omega (arith, longest_within_longest most 1 z k, object_length-is 1)))

-- at the borders of the three forms of a length, computed: what fits of 300 bytes
pub borders : (longest_within 2 300 ≡ 0) × (longest_within 3 300 ≡ 1) × (longest_within 129 300 ≡ 127) × (longest_within 130 300 ≡ 127) × (longest_within 131 300 ≡ 128)
    × (longest_within 132 300 ≡ 129) × (longest_within 256 300 ≡ 253) × (longest_within 258 300 ≡ 255) × (longest_within 259 300 ≡ 255) × (longest_within 260 300 ≡ 256)
    × (longest_within 261 300 ≡ 257)
unfolding longest_within object_length length_bytes
borders = (refl, refl, refl, refl, refl, refl, refl, refl, refl, refl, refl)
