-- What the writers of this crate store: heads, objects, numbers. Read before: specs/Writer.antt, specs/Writing.antt. Exports the laws of
-- `put_end`, `head_bytes` and `length_bytes` as the code has them, `put-tlv`, and `digits-turn` (one turn of the loop that stores a number).
use Prim.Native.Nat.{ℕ, suc, ◌+◌, ◌-◌, ◌/◌, ◌%◌, ◌≤◌, ◌<◌}
use mathlib.Core.Path.{◌≡◌, refl, sym, ap, ap₂, ◌∙◌}
use mathlib.Core.Bool.{true, false}
use mathlib.Core.List.{List, [], ◌∷◌, ◌++◌}
use native.Mathlib.Omega.{arith}
use native.Mathlib.Numerals.{add-one}
use native.Mathlib.Nat.{add-zero}
use lib.ListN.{length, drop, set, length-append}
use lib.Seq.{sets, set_comm}
use lib.Dec.{ltb}
use borrow.Author.Tests.{lt-ltb, le-ltb, ltb-true, leb-true}
use Rattle.base.specs.Choice.{if_else}
use Rattle.base.specs.Bytes.{part, put_fits, put}
use Rattle.base.proofs.Parts.{rest}
use Rattle.base.proofs.Cases.{by_cases, if_else_ind}
use Rattle.base.proofs.Runs.{sets_snoc, put_fits_accepted, put_fits-refused, put_accepted, put_refused, put-behind}
use Rattle.objects_writer.specs.Number.{digits, bytes_of, shortest}
use Rattle.objects_writer.specs.Writing.{length_bytes, tag_bytes, tlv}
use Rattle.objects_writer.specs.Writer.{head_bytes, put_end}
use Rattle.objects_writer.proofs.Numbers.{length_digits, bytes_of_most}

-- ---- the place behind what is stored

module _ (out : List ℕ) (at : ℕ) (b : List ℕ) where
  pub put_fits_facts : put_fits out at b ≡ true → at + length b ≤ length out
  unfolding put_fits
  put_fits_facts e = leb-true _ _ e

  pub put_end_accepted : put_fits out at b ≡ true → at + length b ≡ put_end out at b
  unfolding put_end
  put_end_accepted e = simp e

  pub put_end-refused : put_fits out at b ≡ false → at ≡ put_end out at b
  unfolding put_end
  put_end-refused e = simp e

-- the same bytes, written in another way
pub put_same : (out : List ℕ) (at : ℕ) {now : List ℕ} {r : ℕ} {b b' : List ℕ} → b ≡ b' → (r ≡ put_end out at b) × (now ≡ put out at b)
    → (r ≡ put_end out at b') × (now ≡ put out at b')
put_same out at e w = (w.0 ∙ ap (put_end out at) e, w.1 ∙ ap (put out at) e)

-- nothing is stored of no bytes
pub put-none : (out : List ℕ) (at : ℕ) → (at ≡ put_end out at []) × (out ≡ put out at [])
unfolding put_end put
put-none out at = (
  if_else_ind (λ (k : ℕ). at ≡ k) (put_fits out at []) (λ e. sym (add-zero at)) (λ e. refl),
  if_else_ind (λ (l : List ℕ). out ≡ l) (put_fits out at []) (λ e. refl) (λ e. refl),
)

-- ---- a head

-- a tag's two bytes, or the lower one
tag-bytes : (tag : ℕ) (l : List ℕ) → drop (if_else (ltb tag 256) 1 0) (tag / 256 ∷ tag % 256 ∷ l) ≡ tag_bytes tag ++ l
unfolding tag_bytes
tag-bytes tag l =
    by_cases (ltb tag 256)
    (λ e. simp e (ap (λ (x : ℕ). x ∷ l) (let h = ltb-true tag 256 e in omega arith)))
    (λ e. simp e)

module _ (tag len : ℕ) (p : tag < 0x10000) (q : len < 0x10000) where
  head-is : head_bytes tag len ≡ tag_bytes tag ++ length_bytes len
  unfolding head_bytes
  head-is = simp (lt-ltb tag 0x10000 p, lt-ltb len 0x10000 q)

  -- as the code has them: the length's bytes l behind the tag's two, from the kth byte on
  pub head_bytes-part : (k : ℕ) (l : List ℕ) → k ≡ if_else (ltb tag 256) 1 0 → l ≡ length_bytes len
      → part (tag / 256 ∷ tag % 256 ∷ l) k (suc (suc (length l)) - k) ≡ head_bytes tag len
  head_bytes-part k l e f =
      rest k (tag / 256 ∷ tag % 256 ∷ l)
      ∙ ap (λ (x : ℕ). drop x (tag / 256 ∷ tag % 256 ∷ l)) e ∙ tag-bytes tag l ∙ ap (λ (x : List ℕ). tag_bytes tag ++ x) f ∙ sym head-is

-- the three forms of a length, each as the code writes it
module _ (len : ℕ) where
  one_byte : len < 0x100 → len % 256 ≡ len
  one_byte h = omega arith

  pub length_bytes-short : len < 0x80 → len % 256 ∷ [] ≡ length_bytes len
  unfolding length_bytes
  length_bytes-short h = simp (lt-ltb len 0x80 h, one_byte (omega arith))

  pub length_bytes-one : 0x80 ≤ len → len < 0x100 → 0x81 ∷ len % 256 ∷ [] ≡ length_bytes len
  unfolding length_bytes
  length_bytes-one p h = simp (le-ltb len 0x80 p, lt-ltb len 0x100 h, one_byte h)

  pub length_bytes_two : 0x100 ≤ len → 0x82 ∷ len / 256 ∷ len % 256 ∷ [] ≡ length_bytes len
  unfolding length_bytes
  length_bytes_two p = simp (le-ltb len 0x80 (omega arith), le-ltb len 0x100 p)

-- above 65,535 there is no writing
pub head_bytes-tag-refused : (tag len : ℕ) → 0x10000 ≤ tag → head_bytes tag len ≡ []
unfolding head_bytes
head_bytes-tag-refused tag len p = simp (le-ltb tag 0x10000 p)

pub head_bytes-length-refused : (tag len : ℕ) → 0x10000 ≤ len → head_bytes tag len ≡ []
unfolding head_bytes
head_bytes-length-refused tag len p = by_cases (ltb tag 0x10000) (λ e. simp (e, le-ltb len 0x10000 p)) (λ e. simp e)

-- ---- an object, written by its head and its value

-- a head and the value's bytes behind it are the object
pub head_bytes-value : (tag : ℕ) (v : List ℕ) → tag < 0x10000 → length v < 0x10000 → head_bytes tag (length v) ++ v ≡ tlv tag v
unfolding tlv
head_bytes-value tag v p q = ap (λ (x : List ℕ). x ++ v) (head-is tag (length v) p q)

-- the head, and the value from the place behind it on, where there is room for both
pub put-tlv : (out : List ℕ) (at tag : ℕ) (v : List ℕ) → tag < 0x10000 → length v < 0x10000 → at + length (tlv tag v) ≤ length out
    → put (put out at (head_bytes tag (length v))) (put_end out at (head_bytes tag (length v))) v ≡ put out at (tlv tag v)
put-tlv out at tag v p q h =
    let a = head_bytes tag (length v) in
    let e = head_bytes-value tag v p q in
    let r : at + length (a ++ v) ≤ length out = rw e h in
    let f : put_fits out at a ≡ true = put_fits_accepted out at a (omega (arith, length-append a v)) in
    ap (λ (x : ℕ). put (put out at a) x v) (sym (put_end_accepted out at a f)) ∙ put-behind out at a v r ∙ ap (put out at) e

-- ---- a number

-- a store behind a run, before it
set-sets : (l : List ℕ) (i p : ℕ) (vs : List ℕ) (x : ℕ) → i + length vs ≤ p → sets (set l p x) i vs ≡ set (sets l i vs) p x
set-sets l i p [] x h = refl
set-sets l i p (v ∷ vs) x h =
    ap (λ (m : List ℕ). sets m (suc i) vs) (set_comm l p i x v (λ e. omega arith))
    ∙ set-sets (set l i v) (suc i) p vs x (omega arith)

-- one digit stored, from the right: it is the last of those that were left
pub digits-turn : (l : List ℕ) (at i rest : ℕ) → 0 < i
    → sets (set l (at + (i - 1)) (rest % 256)) at (digits (i - 1) (rest / 256)) ≡ sets l at (digits i rest)
digits-turn l at i rest h =
    let j = i - 1 in
    let d = digits j (rest / 256) in
    let e = length_digits j (rest / 256) in
    let t : suc j ≡ i = omega arith in
    set-sets l at (at + j) d (rest % 256) (omega arith)
    ∙ sym (sets_snoc l at d (rest % 256) ∙ ap (λ (x : ℕ). set (sets l at d) (at + x) (rest % 256)) e)
    ∙ ap (λ (x : ℕ). sets l at (digits x rest)) t

-- the object of a number: its length is one byte
module _ (out : List ℕ) (at tag n k : ℕ) (p : tag < 256) (q : k ≡ bytes_of n) where
  number-object : tag ∷ k ∷ digits k n ≡ tlv tag (shortest n)
  unfolding tlv tag_bytes length_bytes shortest
  number-object =
      let m = bytes_of_most n in
      ap (λ (x : ℕ). tag ∷ x ∷ digits x n) q
      ∙ sym (simp (lt-ltb tag 256 p, length_digits (bytes_of n) n, lt-ltb (bytes_of n) 128 (omega arith)))

  number-length : length (tlv tag (shortest n)) ≡ 2 + k
  number-length = ap length (sym number-object) ∙ omega (arith, length_digits k n)

  pub put-number-refused : length out < at + (2 + k) → (at ≡ put_end out at (tlv tag (shortest n))) × (out ≡ put out at (tlv tag (shortest n)))
  put-number-refused h =
      let b = tlv tag (shortest n) in
      let r : length out < at + length b = omega (arith, number-length) in
      (put_end-refused out at b (put_fits-refused out at b r), sym (put_refused out at b r))

  pub put-number_accepted : (now : List ℕ) → at + (2 + k) ≤ length out → now ≡ sets (set (set out at tag) (at + 1) k) (at + 2) (digits k n)
      → (at + 2 + k ≡ put_end out at (tlv tag (shortest n))) × (now ≡ put out at (tlv tag (shortest n)))
  put-number_accepted now h e =
      let b = tlv tag (shortest n) in
      let r : at + length b ≤ length out = omega (arith, number-length) in
      let t : at + 2 ≡ suc (suc at) = omega arith in (
        omega (arith, number-length, put_end_accepted out at b (put_fits_accepted out at b r)),
        e
            ∙ ap₂ (λ (x y : ℕ). sets (set (set out at tag) x k) y (digits k n)) (add-one at) t
            ∙ ap (sets out at) number-object
            ∙ sym (put_accepted out at b r),
      )
