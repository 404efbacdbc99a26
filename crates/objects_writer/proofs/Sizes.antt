-- How long a written object is. Read before: specs/Writing.antt. Exports `length-length_bytes-…` (the length field) and `length-tlv-…` (the
-- whole object).
use Prim.Native.Nat.{ℕ, ◌+◌, ◌≤◌, ◌<◌}
use mathlib.Core.Path.{◌≡◌, ap, ◌∙◌}
use mathlib.Core.List.{List, ◌++◌}
use native.Mathlib.Omega.{arith}
use lib.ListN.{length, length-append}
use lib.Dec.{ltb}
use borrow.Author.Tests.{lt-ltb, le-ltb}
use Rattle.base.proofs.Cases.{if_else_ind}
use Rattle.objects_writer.specs.Number.{bytes_of, shortest}
use Rattle.objects_writer.specs.Writing.{tag_bytes, length_bytes, tlv}
use Rattle.objects_writer.proofs.Numbers.{length_digits, bytes_of_most}

-- the length field: one byte below 80, two below 0100, three from there on
module _ (n : ℕ) where
  pub length-length_bytes-short : n < 0x80 → length (length_bytes n) ≡ 1
  unfolding length_bytes
  length-length_bytes-short h = simp (lt-ltb n 0x80 h)

  pub length-length_bytes-one : 0x80 ≤ n → n < 0x100 → length (length_bytes n) ≡ 2
  unfolding length_bytes
  length-length_bytes-one p h = simp (le-ltb n 0x80 p, lt-ltb n 0x100 h)

  pub length-length_bytes_two : 0x100 ≤ n → length (length_bytes n) ≡ 3
  unfolding length_bytes
  length-length_bytes_two p = simp (le-ltb n 0x80 (omega arith), le-ltb n 0x100 p)

  pub length-length_bytes-most : length (length_bytes n) ≤ 3
  unfolding length_bytes
  length-length_bytes-most =
      if_else_ind (λ (l : List ℕ). length l ≤ 3) (ltb n 0x80) (λ e. omega arith)
      (λ e. if_else_ind (λ (l : List ℕ). length l ≤ 3) (ltb n 0x100) (λ f. omega arith) (λ f. omega arith))

-- the tag, the length and the value
pub length-tlv_parts : (t : ℕ) (v : List ℕ) → length (tlv t v) ≡ length (tag_bytes t) + length (length_bytes (length v)) + length v
unfolding tlv
length-tlv_parts t v =
    length-append (tag_bytes t ++ length_bytes (length v)) v ∙ ap (λ (k : ℕ). k + length v) (length-append (tag_bytes t) (length_bytes (length v)))

pub length-tlv_small : (t : ℕ) (v : List ℕ) → t < 0x100 → length v < 0x80 → length (tlv t v) ≡ 2 + length v
unfolding tag_bytes
length-tlv_small t v p h =
    let q : length (tag_bytes t) ≡ 1 = simp (lt-ltb t 0x100 p) in
    omega (arith, length-tlv_parts t v, length-length_bytes-short (length v) h)

-- a number in the fewest bytes
pub length-tlv-number : (t n : ℕ) → t < 0x100 → length (tlv t (shortest n)) ≡ 2 + bytes_of n
unfolding shortest
length-tlv-number t n p =
    let l = length_digits (bytes_of n) n in
    omega (arith, bytes_of_most n, length-tlv_small t (shortest n) p (omega (arith, bytes_of_most n)))
