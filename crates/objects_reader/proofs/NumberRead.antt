-- A number is read from its bytes one at a time. Read before: specs/Places.antt. Exports `big_more` and `more_bits` (one byte more) and
-- `eight`, `number_in_end`, `number_in_whole` (what is read at the end).
use Prim.Native.Nat.{ℕ, ◌+◌, ◌*◌, ◌^◌, ◌≤◌, ◌<◌}
use mathlib.Core.Path.{◌≡◌, refl, sym, ap, ◌∙◌}
use mathlib.Core.List.{List, [], ◌∷◌, ◌++◌}
use native.Mathlib.Omega.{arith}
use native.Mathlib.Numerals.{add-one}
use lib.ListN.{length, take, get_or, length-take}
use lib.Seq.{take-suc, take_all}
use native.Mathlib.Nat.{lt_of_lt_of_le}
use lib.Pow.{pow-add, pow_mono}
use Rattle.base.specs.Bytes.{part}
use Rattle.objects_writer.specs.Number.{big_from, big}
use Rattle.objects_reader.specs.Places.{number_in}

big_snoc : (a : ℕ) (l : List ℕ) (b : ℕ) → big_from a (l ++ (b ∷ [])) ≡ big_from a l * 256 + b
big_snoc a [] b = refl
big_snoc a (x ∷ l) b = big_snoc (a * 256 + x) l b

-- one byte more
pub big_more : (v : List ℕ) (n i : ℕ) → i < length v → n ≡ big (take i v) → n * 256 + get_or v i 0 ≡ big (take (i + 1) v)
unfolding big
big_more v n i h e = ap (λ (k : ℕ). k * 256 + get_or v i 0) e ∙ sym (rw (add-one, take-suc v i 0) (big_snoc 0 (take i v) (get_or v i 0)))

-- before the eighth byte one more fits
pub small : (i n : ℕ) → i < 8 → n < 2 ^ (8 * i) → n < 2 ^ 56
small i n h p = lt_of_lt_of_le p (pow_mono {i = 8 * i} {j = 56} (omega arith))

pub more_bits : (i n b : ℕ) → n < 2 ^ (8 * i) → b < 256 → n * 256 + b < 2 ^ (8 * (i + 1))
more_bits i n b p q =
    let e : 8 * (i + 1) ≡ 8 * i + 8 = omega arith in
    rw (e, pow-add 2 (8 * i) 8) (omega arith)

-- the first eight bytes w of v: no more than eight, and when all of them are read, that is the number in v
module _ (v w : List ℕ) (p : w ≡ part v 0 8) where
  pub eight : length w ≤ 8
  eight = rw p (simp length-take (omega arith))

  pub number_in_end : (n i : ℕ) → n ≡ big (take i w) → length w ≤ i → n ≡ number_in v
  unfolding number_in
  number_in_end n i e h = e ∙ ap big (take_all i w h ∙ p)

-- a value of up to eight bytes is read whole
pub number_in_whole : (v : List ℕ) → length v ≤ 8 → number_in v ≡ big v
unfolding number_in
number_in_whole v h = ap big (take_all 8 v h)
