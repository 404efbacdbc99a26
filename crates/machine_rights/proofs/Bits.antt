-- Bits of a byte under the bitwise and, and under a mask. Read before: specs/Rights.antt, specs/Joining.antt. Exports `and_assoc`, `and_low`,
-- `bit-and-left`, `bit-and_both`, `within-and`, `within_low`, `bit-low`, `low_bit`, `each-bit`, `bit-ones`, `bit_power`, `bit_but`, for
-- the laws of rights.
use Prim.Native.Nat.{ℕ, zero, suc, ◌+◌, ◌-◌, ◌*◌, ◌/◌, ◌%◌, ◌^◌, ◌≤◌, min}
use mathlib.Core.Path.{◌≡◌, refl, sym, ap, ap₂, ◌∙◌}
use mathlib.Core.Bool.{true, not}
use native.Mathlib.Omega.{arith}
use native.Mathlib.Nat.{mod-mod, mod-lt, div-eq_of_lt, lt_of_lt_of_le}
use lib.Dec.{leb, eqb}
use lib.Arith.{bin_ind}
use lib.Pow.{pow_pos, pow_mono}
use lib.Bits.{bit_and, and_step, and_zero_l, and_comm, and_shr, and_mod, and_mask}
use borrow.Author.Tests.{leb-true, leb-false, eqb-true, eq-eqb}
use Rattle.base.proofs.Cases.{by_cases}
use Rattle.machine_rights.specs.Rights.{bit}
use Rattle.machine_rights.specs.Joining.{BitsWithin}

-- ---- the bitwise and

and_half : (a b : ℕ) → bit_and a b / 2 ≡ bit_and (a / 2) (b / 2)
and_half a b = omega (arith, and_step a b)

and_odd : (a b : ℕ) → bit_and a b % 2 ≡ min (a % 2) (b % 2)
and_odd a b = omega (arith, and_step a b)

pub and_assoc : (a b c : ℕ) → bit_and (bit_and a b) c ≡ bit_and a (bit_and b c)
and_assoc =
    bin_ind (λ (n : ℕ). (b c : ℕ) → bit_and (bit_and n b) c ≡ bit_and n (bit_and b c))
    (λ b c. ap (λ (m : ℕ). bit_and m c) (and_zero_l b) ∙ and_zero_l c ∙ sym (and_zero_l (bit_and b c)))
    (λ n ih b c.
    let l : bit_and (bit_and n b) c ≡ bit_and (bit_and (n / 2) (b / 2)) (c / 2) * 2 + min (min (n % 2) (b % 2)) (c % 2)
    = and_step (bit_and n b) c ∙ ap₂ (λ (u v : ℕ). bit_and u (c / 2) * 2 + min v (c % 2)) (and_half n b) (and_odd n b) in
    let r : bit_and n (bit_and b c) ≡ bit_and (n / 2) (bit_and (b / 2) (c / 2)) * 2 + min (n % 2) (min (b % 2) (c % 2))
    = and_step n (bit_and b c) ∙ ap₂ (λ (u v : ℕ). bit_and (n / 2) u * 2 + min (n % 2) v) (and_half b c) (and_odd b c) in
    omega (arith, l, r, ih (b / 2) (c / 2)))

-- the low k bits of a & b need only the low k bits of a
pub and_low : (k a b : ℕ) → bit_and (a % 2 ^ k) b % 2 ^ k ≡ bit_and a b % 2 ^ k
and_low k a b = and_mod (a % 2 ^ k) b k ∙ ap (λ (z : ℕ). bit_and z (b % 2 ^ k)) (mod-mod a (2 ^ k)) ∙ sym (and_mod a b k)

-- ---- a bit of it

module _ (x y b : ℕ) where
  lowest : bit_and x y / 2 ^ (b - 1) % 2 ≡ min (x / 2 ^ (b - 1) % 2) (y / 2 ^ (b - 1) % 2)
  lowest = ap (λ (z : ℕ). z % 2) (and_shr x y (b - 1)) ∙ and_odd (x / 2 ^ (b - 1)) (y / 2 ^ (b - 1))

  pub bit-and-left : bit (bit_and x y) b ≡ true → bit x b ≡ true
  unfolding bit
  bit-and-left h =
      let e = eqb-true (bit_and x y / 2 ^ (b - 1) % 2) 1 h in
      let m : ℕ = x / 2 ^ (b - 1) in
      eq-eqb (m % 2) 1 (omega (arith, lowest))

  pub bit-and_both : bit x b ≡ true → bit y b ≡ true → bit (bit_and x y) b ≡ true
  unfolding bit
  bit-and_both h k =
      eq-eqb (bit_and x y / 2 ^ (b - 1) % 2) 1
      (omega (arith, lowest, eqb-true (x / 2 ^ (b - 1) % 2) 1 h, eqb-true (y / 2 ^ (b - 1) % 2) 1 k))

-- ---- bits within bits

pub within-and : (x y : ℕ) → BitsWithin (bit_and x y) x
within-and x y b h k = bit-and-left x y b

-- the low k bits are bits
pub bit-low : (k x b : ℕ) → bit (x % 2 ^ k) b ≡ true → bit x b ≡ true
bit-low k x b h = bit-and-left x (2 ^ k - 1) b (rw (and_mask x k) h)

-- and of the mask
low_mask : (k x b : ℕ) → bit (x % 2 ^ k) b ≡ true → bit (2 ^ k - 1) b ≡ true
low_mask k x b h = bit-and-left (2 ^ k - 1) x b (rw (and_comm (2 ^ k - 1) x, and_mask x k) h)

-- and none of them is above bk
pub low_bit : (k x b : ℕ) → 1 ≤ b → bit (x % 2 ^ k) b ≡ true → b ≤ k
unfolding bit
low_bit k x b h t =
    by_cases (leb b k) (leb-true b k)
    (λ e.
    let l = leb-false b k e in
    let z : x % 2 ^ k / 2 ^ (b - 1) ≡ 0 = div-eq_of_lt (lt_of_lt_of_le (mod-lt x (pow_pos k)) (pow_mono {i = k} {j = b - 1} (omega arith))) in
    let o = eqb-true (x % 2 ^ k / 2 ^ (b - 1) % 2) 1 t in
    absurd (omega arith))

pub within_low : (k x y : ℕ) → BitsWithin x y → BitsWithin (x % 2 ^ k) (y % 2 ^ k)
within_low k x y w b h i t =
    rw (← and_mask y k) (bit-and_both y (2 ^ k - 1) b (w b h i (bit-low k x b t)) (low_mask k x b t))

-- ---- each bit of a byte

pub each-bit : (P : ℕ → Type 0) → P 1 → P 2 → P 3 → P 4 → P 5 → P 6 → P 7 → P 8 → (b : ℕ) → 1 ≤ b → b ≤ 8 → P b
each-bit P p1 p2 p3 p4 p5 p6 p7 p8 zero h k = absurd (omega arith)
each-bit P p1 p2 p3 p4 p5 p6 p7 p8 (suc zero) h k = p1
each-bit P p1 p2 p3 p4 p5 p6 p7 p8 (suc (suc zero)) h k = p2
each-bit P p1 p2 p3 p4 p5 p6 p7 p8 (suc (suc (suc zero))) h k = p3
each-bit P p1 p2 p3 p4 p5 p6 p7 p8 (suc (suc (suc (suc zero)))) h k = p4
each-bit P p1 p2 p3 p4 p5 p6 p7 p8 (suc (suc (suc (suc (suc zero))))) h k = p5
each-bit P p1 p2 p3 p4 p5 p6 p7 p8 (suc (suc (suc (suc (suc (suc zero)))))) h k = p6
each-bit P p1 p2 p3 p4 p5 p6 p7 p8 (suc (suc (suc (suc (suc (suc (suc zero))))))) h k = p7
each-bit P p1 p2 p3 p4 p5 p6 p7 p8 (suc (suc (suc (suc (suc (suc (suc (suc zero)))))))) h k = p8
each-bit P p1 p2 p3 p4 p5 p6 p7 p8 (suc (suc (suc (suc (suc (suc (suc (suc (suc b))))))))) h k = absurd (omega arith)

-- 255 has every bit, 2 ^ (b - 1) bit b alone, and 255 - 2 ^ (b - 1) all but bit b
pub bit-ones : (b : ℕ) → 1 ≤ b → b ≤ 8 → bit 255 b ≡ true
unfolding bit
bit-ones = each-bit (λ (b : ℕ). bit 255 b ≡ true) refl refl refl refl refl refl refl refl

module _ (c : ℕ) (h : 1 ≤ c) (k : c ≤ 8) where
  pub bit_power : (b : ℕ) → 1 ≤ b → b ≤ 8 → bit (2 ^ (b - 1)) c ≡ eqb c b
  unfolding bit
  bit_power = each-bit (λ (b : ℕ). bit (2 ^ (b - 1)) c ≡ eqb c b)
      (each-bit (λ (c : ℕ). bit 1 c ≡ eqb c 1) refl refl refl refl refl refl refl refl c h k)
      (each-bit (λ (c : ℕ). bit 2 c ≡ eqb c 2) refl refl refl refl refl refl refl refl c h k)
      (each-bit (λ (c : ℕ). bit 4 c ≡ eqb c 3) refl refl refl refl refl refl refl refl c h k)
      (each-bit (λ (c : ℕ). bit 8 c ≡ eqb c 4) refl refl refl refl refl refl refl refl c h k)
      (each-bit (λ (c : ℕ). bit 16 c ≡ eqb c 5) refl refl refl refl refl refl refl refl c h k)
      (each-bit (λ (c : ℕ). bit 32 c ≡ eqb c 6) refl refl refl refl refl refl refl refl c h k)
      (each-bit (λ (c : ℕ). bit 64 c ≡ eqb c 7) refl refl refl refl refl refl refl refl c h k)
      (each-bit (λ (c : ℕ). bit 128 c ≡ eqb c 8) refl refl refl refl refl refl refl refl c h k)

  pub bit_but : (b : ℕ) → 1 ≤ b → b ≤ 8 → bit (255 - 2 ^ (b - 1)) c ≡ not (eqb c b)
  unfolding bit
  bit_but = each-bit (λ (b : ℕ). bit (255 - 2 ^ (b - 1)) c ≡ not (eqb c b))
      (each-bit (λ (c : ℕ). bit 254 c ≡ not (eqb c 1)) refl refl refl refl refl refl refl refl c h k)
      (each-bit (λ (c : ℕ). bit 253 c ≡ not (eqb c 2)) refl refl refl refl refl refl refl refl c h k)
      (each-bit (λ (c : ℕ). bit 251 c ≡ not (eqb c 3)) refl refl refl refl refl refl refl refl c h k)
      (each-bit (λ (c : ℕ). bit 247 c ≡ not (eqb c 4)) refl refl refl refl refl refl refl refl c h k)
      (each-bit (λ (c : ℕ). bit 239 c ≡ not (eqb c 5)) refl refl refl refl refl refl refl refl c h k)
      (each-bit (λ (c : ℕ). bit 223 c ≡ not (eqb c 6)) refl refl refl refl refl refl refl refl c h k)
      (each-bit (λ (c : ℕ). bit 191 c ≡ not (eqb c 7)) refl refl refl refl refl refl refl refl c h k)
      (each-bit (λ (c : ℕ). bit 127 c ≡ not (eqb c 8)) refl refl refl refl refl refl refl refl c h k)
