-- How long the writings of a form are at most. Exports `most`, `encode-most`.
use Prim.Native.Nat.{ℕ, ◌+◌, ◌≤◌, ◌<◌}
use mathlib.Core.Path.{◌≡◌}
use native.Mathlib.Omega.{arith}
use lib.ListN.{length, length-append}
use lib.Dec.{ltb}
use borrow.Author.Tests.{lt-ltb, le-ltb, ltb-true, ltb-false}
use Rattle.base.proofs.Cases.{by_cases}
use Rattle.objects_writer.specs.Writing.{length_bytes}
use Rattle.objects_reader.specs.Form.{Form, done, plain, maybe, nested}
use Rattle.objects_reader.specs.Encoding.{Perhaps, absent, present, perhaps, Values, encode, SizedP, Sized}
use Rattle.objects_reader.proofs.Heads.{head_size}
use Rattle.objects_reader.proofs.Unique.{length-tlv, object_size}

one : (n : ℕ) → n < 128 → length (length_bytes n) ≡ 1
unfolding length_bytes
one n p = simp (lt-ltb n 128 p)

two : (n : ℕ) → 128 ≤ n → n < 256 → length (length_bytes n) ≡ 2
unfolding length_bytes
two n p q = simp (le-ltb n 128 p, lt-ltb n 256 q)

three : (n : ℕ) → 256 ≤ n → length (length_bytes n) ≡ 3
unfolding length_bytes
three n p = simp (le-ltb n 128 (omega arith), le-ltb n 256 p)

grows : (n m : ℕ) → n ≤ m → length (length_bytes n) + n ≤ length (length_bytes m) + m
grows n m p =
    by_cases (ltb m 128) (λ a. let a' = ltb-true m 128 a in omega (arith, one n (omega arith), one m (omega arith)))
    (λ a. let a' = ltb-false m 128 a in by_cases (ltb n 128)
    (λ b. let b' = ltb-true n 128 b in by_cases (ltb m 256)
    (λ c. let c' = ltb-true m 256 c in omega (arith, one n b', two m a' c')) (λ c. let c' = ltb-false m 256 c in omega (arith, one n b', three m c')))
    (λ b. let b' = ltb-false n 128 b in by_cases (ltb m 256)
    (λ c. let c' = ltb-true m 256 c in omega (arith, two n b' (omega arith), two m a' c'))
    (λ c. let c' = ltb-false m 256 c in by_cases (ltb n 256)
    (λ d. let d' = ltb-true n 256 d in omega (arith, two n b' d', three m c')) (λ d. let d' = ltb-false n 256 d in omega (arith, three n d', three m c')))))

-- the longest writing
unfoldable pub most : Form → ℕ
most done = 0
most (plain t lo hi f) = head_size t hi + hi + most f
most (maybe t lo hi f) = head_size t hi + hi + most f
most (nested t g f) = head_size t (most g) + most g + most f

perhaps-most : (t lo hi : ℕ) (o : Perhaps) → SizedP lo hi o → length (perhaps t o) ≤ head_size t hi + hi
unfolding perhaps
perhaps-most t lo hi absent z = omega arith
perhaps-most t lo hi (present a) z = let y = z.1 in omega (arith, length-tlv t a, grows (length a) hi y)

pub encode-most : (f : Form) (v : Values f) → Sized f v → length (encode f v) ≤ most f
unfolding encode Sized most
encode-most done v z = omega arith
encode-most (plain t lo hi f) v z =
    omega (arith, object_size t v.0 (encode f v.1), grows (length v.0) hi z.1, encode-most f v.1 z.2)
encode-most (maybe t lo hi f) v z =
    omega (arith, length-append (perhaps t v.0) (encode f v.1), perhaps-most t lo hi v.0 z.0, encode-most f v.1 z.1)
encode-most (nested t g f) v z =
    let a = encode g v.0 in
    omega (arith, object_size t a (encode f v.1), grows (length a) (most g) (encode-most g v.0 z.0), encode-most f v.1 z.1)
