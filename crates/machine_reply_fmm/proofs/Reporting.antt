-- The reply of FMM, as it is written: its head, and each number that is asked for. Read specs/Report.antt before. Exports the laws of one
-- number (`asked-…`), those of the whole (`report-…`), and `report_bound`: every report is short enough for a response.
use Prim.Native.Nat.{ℕ, ◌+◌, ◌/◌, ◌%◌, ◌≤◌, ◌<◌}
use mathlib.Core.Path.{◌≡◌, refl, sym, ap, ◌∙◌}
use mathlib.Core.List.{List, [], ◌∷◌, ◌++◌, append_assoc}
use native.Mathlib.Omega.{arith}
use lib.ListN.{length, length-append}
use lib.Dec.{lit≤, eqb}
use borrow.Author.Tests.{eq-eqb, ne_eqb, eqb-true, eqb-false}
use Rattle.base.specs.Bytes.{put}
use Rattle.base.proofs.Cases.{by_cases}
use Rattle.objects_writer.specs.Number.{bytes_in, bytes_of, shortest}
use Rattle.objects_writer.specs.Writing.{tag_bytes, length_bytes, tlv}
use Rattle.objects_writer.specs.Writer.{head_bytes, put_end}
use Rattle.objects_writer.proofs.Numbers.{bytes_of_most}
use Rattle.objects_writer.proofs.Writings.{put-none as nothing, head_bytes-value}
use Rattle.machine_reply_fmm.specs.Report.{asked, report_data}
use Rattle.objects_writer.proofs.Storing.{wrote_none, wrote_after, wrote_all, wrote_refused}
use Rattle.objects_writer.proofs.Sizes.{length-tlv_parts, length-length_bytes-short, length-tlv-number}

-- ---- one number

module _ (bit tag n : ℕ) where
  pub asked_accepted : bit ≡ 1 → asked bit tag n ≡ tlv tag (shortest n)
  unfolding asked
  asked_accepted e = simp (eq-eqb bit 1 e)

  pub asked-refused : (bit ≡ 1 → ⊥) → asked bit tag n ≡ []
  unfolding asked
  asked-refused e = simp (ne_eqb bit 1 e)

  pub asked-length : (k : ℕ) → bit ≡ 1 → tag < 0x100 → k ≡ bytes_of n → (2 + k ≡ length (asked bit tag n)) × (2 + k ≤ 10)
  asked-length k e p q = (
    sym (ap length (asked_accepted e) ∙ length-tlv-number tag n p ∙ ap (λ (x : ℕ). 2 + x) (sym q)),
    omega (arith, bytes_of_most n),
  )

  pub asked-none : (bit ≡ 1 → ⊥) → (0 ≡ length (asked bit tag n)) × (0 ≤ 10)
  asked-none e = (sym (ap length (asked-refused e)), omega arith)

  pub asked-short : tag < 0x100 → length (asked bit tag n) ≤ 10
  unfolding asked
  asked-short p = by_cases (eqb bit 1) (λ e. simp e (omega (arith, length-tlv-number tag n p, bytes_of_most n))) (λ e. simp e (omega arith))

-- ---- all of them

pub report_none : (out : List ℕ) (p2 t r e : ℕ) → p2 ≡ 0 → (0 ≡ put_end out 0 (report_data p2 t r e)) × (out ≡ put out 0 (report_data p2 t r e))
unfolding report_data
report_none out p2 t r e z = simp (eq-eqb p2 0 z) (nothing out 0)

module _ (p2 t r e : ℕ) where
  pub report_empty : p2 ≡ 0 → length (report_data p2 t r e) ≡ 0
  unfolding report_data
  report_empty z = simp (eq-eqb p2 0 z)

  abbrev pub first : List ℕ
  first = asked (p2 % 2) 0x81 t

  abbrev pub second : List ℕ
  second = asked (p2 / 2 % 2) 0x82 r

  abbrev pub third : List ℕ
  third = asked (p2 / 4 % 2) 0x83 e

  value-length : length (first ++ second ++ third) ≡ length first + length second + length third
  value-length = length-append (first ++ second) third ∙ ap (λ (k : ℕ). k + length third) (length-append first second)

  value-short : length first + length second + length third ≤ 30
  value-short =
      omega (arith, asked-short (p2 % 2) 0x81 t (lit≤ tt), asked-short (p2 / 2 % 2) 0x82 r (lit≤ tt), asked-short (p2 / 4 % 2) 0x83 e (lit≤ tt))

  module _ (some : p2 ≡ 0 → ⊥) (len : ℕ) (l : len ≡ length first + length second + length third) where
    report-is : report_data p2 t r e ≡ tlv 0x7F78 (first ++ second ++ third)
    unfolding report_data
    report-is = simp (ne_eqb p2 0 some)

    pub report_size : length (report_data p2 t r e) ≡ 3 + len
    unfolding tag_bytes
    report_size =
        let v = first ++ second ++ third in
        ap length report-is ∙ omega (arith, value-length, value-short, length-tlv_parts 0x7F78 v, length-length_bytes-short (length v) (omega (arith, value-length, value-short)))

    pub report_small : length (report_data p2 t r e) ≤ 33
    report_small = omega (arith, report_size, value-short)

    report-parts : head_bytes 0x7F78 len ++ first ++ second ++ third ≡ report_data p2 t r e
    report-parts =
        let v = first ++ second ++ third in
        append_assoc (head_bytes 0x7F78 len ++ first) second third
        ∙ append_assoc (head_bytes 0x7F78 len) first (second ++ third)
        ∙ ap (λ (x : List ℕ). head_bytes 0x7F78 len ++ x) (sym (append_assoc first second third))
        ∙ ap (λ (k : ℕ). head_bytes 0x7F78 k ++ v) (l ∙ sym value-length)
        ∙ head_bytes-value 0x7F78 v (lit≤ tt) (omega (arith, value-length, value-short))
        ∙ sym report-is

    pub report_refused : (out : List ℕ) → length out < 3 + len → (0 ≡ put_end out 0 (report_data p2 t r e)) × (out ≡ put out 0 (report_data p2 t r e))
    report_refused out h = wrote_refused out (report_data p2 t r e) (omega (arith, report_size))

    -- the head and the numbers, one behind the other
    pub report_accepted : (out : List ℕ) {k₁ k₂ k₃ k₄ : ℕ} {o₁ o₂ o₃ o₄ : List ℕ} → 3 + len ≤ length out
        → (k₁ ≡ put_end out 0 (head_bytes 0x7F78 len)) × (o₁ ≡ put out 0 (head_bytes 0x7F78 len))
        → (k₂ ≡ put_end o₁ k₁ first) × (o₂ ≡ put o₁ k₁ first)
        → (k₃ ≡ put_end o₂ k₂ second) × (o₃ ≡ put o₂ k₂ second)
        → (k₄ ≡ put_end o₃ k₃ third) × (o₄ ≡ put o₃ k₃ third)
        → (k₄ ≡ put_end out 0 (report_data p2 t r e)) × (o₄ ≡ put out 0 (report_data p2 t r e))
    report_accepted out h a b c d =
        let H : List ℕ = head_bytes 0x7F78 len in
        let all : length (H ++ first ++ second ++ third) ≡ 3 + len = ap length report-parts ∙ report_size in
        let l₃ = length-append (H ++ first ++ second) third in
        let l₂ = length-append (H ++ first) second in
        let l₁ = length-append H first in
        let w₁ = wrote_after out [] H (omega arith) (wrote_none out) a in
        let w₂ = wrote_after out H first (omega arith) w₁ b in
        let w₃ = wrote_after out (H ++ first) second (omega arith) w₂ c in
        let w₄ = wrote_after out (H ++ first ++ second) third (omega arith) w₃ d in
        wrote_all out _ (report_data p2 t r e) report-parts (omega (arith, report_size)) w₄

-- the total of the largest biometrics room has three bytes, computed
pub largest_total : report_data 1 131072 0 0 ≡ 0x7F ∷ 0x78 ∷ 0x05 ∷ 0x81 ∷ 0x03 ∷ 0x02 ∷ 0x00 ∷ 0x00 ∷ []
unfolding report_data asked tlv tag_bytes length_bytes shortest bytes_of bytes_in
largest_total = refl

pub report_short : (p2 t r e : ℕ) → (p2 ≡ 0 → ⊥) → length (report_data p2 t r e) ≤ 33
report_short p2 t r e some = report_small p2 t r e some _ refl

-- every report is short enough for a response
pub report_bound : (p2 t r e : ℕ) → length (report_data p2 t r e) ≤ 2048
report_bound p2 t r e =
    by_cases (eqb p2 0)
    (λ z. omega (arith, report_empty p2 t r e (eqb-true p2 0 z)))
    (λ z. omega (arith, report_short p2 t r e (eqb-false p2 0 z)))
