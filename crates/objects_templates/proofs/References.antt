-- The data of FMM: what is accepted is the writing of a file reference, every such writing is accepted, and it settles the reference. Read
-- before: specs/Reference.antt. Exports `reference_sound`, `reference_complete`, `reference_unique`.
use Prim.Native.Nat.{ℕ, ◌+◌, ◌≤◌}
use mathlib.Core.Path.{◌≡◌, refl, sym, ap, subst, ◌∙◌}
use mathlib.Core.List.{List, [], ◌∷◌, append-nil}
use native.Mathlib.Omega.{arith}
use lib.ListN.{length}
use Rattle.base.specs.Bytes.{AllBytes}
use Rattle.objects_reader.specs.Head.{head_of, length_of}
use Rattle.objects_reader.specs.Form.{read_form, read_by}
use Rattle.objects_reader.specs.Encoding.{Values, encode, Sized, leaves, leaf_count, deep, Proper}
use Rattle.objects_reader.specs.Places.{Noted}
use Rattle.objects_reader.specs.Places.{span_at}
use Rattle.objects_templates.specs.Reference.{reference_data, reference_form, named_of, read_reference, References}
use Rattle.objects_reader.specs.declared.reader.Reading.{Reading}
use Rattle.objects_reader.specs.declared.reader.Span.{Span}
use Rattle.objects_reader.proofs.Within.{read-within}
use Rattle.objects_reader.proofs.Heads.{head_size_most}
use Rattle.objects_reader.proofs.Unique.{length-tlv}
use Rattle.objects_reader.proofs.Taking.{Readable, read_as_facts, read_as_sound, read_by_noted, read_as_complete, read_as_unique}
use Rattle.std.specs.Prelude.{Some, None}

readable : Readable reference_form
unfolding Proper leaf_count deep
readable = record { proper = omega arith; few = omega arith; flat = omega arith }

refused-not : {p : Span} → None ≡ Some p → ⊥
refused-not {p} e = let z : ◌≡◌ {A = ℕ} 0 1 = cc in omega arith

encoded : (file : List ℕ) → encode reference_form (file, tt) ≡ reference_data file
unfolding encode reference_data
encoded file = simp append-nil

describe : (s file : List ℕ) (r : Reading) → s ≡ reference_data file → (1 ≤ length file) × (length file ≤ 2) → Noted s r (file ∷ []) → References s (span_at r 0) file
describe s file r e z n = record { written = e; file_size = z; file_placed = n.each 0 (omega arith) }

module _ (s : List ℕ) (p : Span) (e : read_reference s ≡ Some p) where
  place_is : span_at (read_by reference_form s) 0 ≡ p
  unfolding read_reference
  place_is = let x = (read_as_facts reference_form s named_of None (Some p) e refused-not).1 in cc

  -- every place answered lies inside the data
  pub reference-inside : p.at + p.len ≤ length s
  reference-inside = subst (λ (q : Span). q.at + q.len ≤ length s) place_is ((read-within reference_form s).each 0)

  -- what is taken is a writing of the fields answered
  pub reference_sound : AllBytes s → (file : List ℕ) × References s p file
  unfolding read_reference Sized leaves
  reference_sound b =
      let w = read_as_sound reference_form s named_of None (Some p) e refused-not readable b in
      let file = w.values.0 in
      (file, subst (λ (q : Span). References s q file) place_is (describe s file _ (w.bytes ∙ encoded file) (w.sized.0, w.sized.1) w.noted))

-- a file reference of one or two bytes
module _ (file : List ℕ) (z : (1 ≤ length file) × (length file ≤ 2)) where
  short : length (reference_data file) ≤ 65535
  unfolding reference_data
  short = omega (arith, length-tlv 0x51 file, head_size_most 0x51 (length file))

  -- every writing of fields of these sizes is taken
  pub reference_complete : (p : Span) × (read_reference (reference_data file) ≡ Some p) × References (reference_data file) p file
  unfolding read_reference Sized leaves
  reference_complete =
      let s = reference_data file in
      let k : Sized reference_form (file, tt) = (z.0, z.1, tt) in (
        span_at (read_by reference_form s) 0,
        read_as_complete reference_form readable (file, tt) s (encoded file) short named_of None k,
        describe s file _ refl z (read_by_noted reference_form readable (file, tt) s (encoded file) short k),
      )

  -- and other fields have another writing
  pub reference_unique : (file' : List ℕ) → reference_data file ≡ reference_data file' → file ≡ file'
  reference_unique file' e =
      ap (λ (v : Values reference_form). v.0) (read_as_unique reference_form readable (file, tt) (reference_data file) (encoded file) short (file', tt) (encoded file' ∙ sym e))

-- m8 of the card to try, computed
pub m8 : read_reference (0x51 ∷ 0x02 ∷ 0x01 ∷ 0x01 ∷ []) ≡ Some (record { at = 2; len = 2 })
unfolding read_reference read_by read_form head_of length_of
m8 = refl
