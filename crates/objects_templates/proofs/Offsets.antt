-- The data of READ BINARY with INS B1: what is accepted is the writing of an offset, every such writing is accepted, and it settles the offset. Read
-- before: specs/OffsetObject.antt. Exports `big_below` (three bytes say less than 2^24), `offset_sound`,
-- `offset_complete`, `offset_unique`, `offset_below`, and two computed examples.
use Prim.Native.Nat.{ℕ, ◌≤◌, ◌<◌}
use mathlib.Core.Path.{◌≡◌, refl, sym, ap, subst, ◌∙◌}
use mathlib.Core.List.{List, [], ◌∷◌, ◌++◌, append-nil}
use native.Mathlib.Omega.{arith}
use lib.ListN.{length}
use Rattle.base.specs.Bytes.{AllBytes}
use Rattle.objects_writer.specs.Number.{big}
use Rattle.objects_writer.specs.Writing.{length_bytes, tag_bytes, tlv}
use Rattle.objects_reader.specs.Head.{head_of, length_of}
use Rattle.objects_reader.specs.Form.{read_form, read_by}
use Rattle.objects_reader.specs.Encoding.{Values, encode, Sized, leaves, leaf_count, deep, Proper}
use Rattle.objects_reader.specs.Places.{number_in, number_at, Noted}
use Rattle.objects_templates.specs.OffsetObject.{OffsetSize, offset_data, offset_form, offset_of, read_offset_object, Offsets}
use Rattle.objects_reader.specs.declared.reader.Reading.{Reading}
use Rattle.objects_reader.proofs.Heads.{head_size_most}
use Rattle.objects_reader.proofs.Unique.{length-tlv}
use Rattle.objects_reader.proofs.Taking.{Readable, read_as_facts, read_as_sound, read_by_noted, read_as_complete, read_as_unique, number_at-noted}
use Rattle.std.specs.Prelude.{Some, None}

-- three bytes say less than 2^24. (Behind the offset other objects may stand.)
pub big_below : (s offset rest : List ℕ) → s ≡ tlv 0x54 offset ++ rest → AllBytes s → length offset ≤ 3 → big offset < 16777216
unfolding AllBytes tlv tag_bytes length_bytes big
big_below s [] rest e b h = omega arith
big_below s (x ∷ []) rest e b h = let p = rw e at (b 2) in omega arith
big_below s (x ∷ y ∷ []) rest e b h = let p = rw e at (b 2) in let q = rw e at (b 3) in omega arith
big_below s (x ∷ y ∷ z ∷ []) rest e b h = let p = rw e at (b 2) in let q = rw e at (b 3) in let r = rw e at (b 4) in omega arith
big_below s (x ∷ y ∷ z ∷ a ∷ l) rest e b h = absurd (omega arith)

readable : Readable offset_form
unfolding Proper leaf_count deep
readable = record { proper = omega arith; few = omega arith; flat = omega arith }

refused-not : {n : ℕ} → None ≡ Some n → ⊥
refused-not {n} e = let z : ◌≡◌ {A = ℕ} 0 1 = cc in omega arith

encoded : (offset : List ℕ) → encode offset_form (offset, tt) ≡ offset_data offset
unfolding encode offset_data
encoded offset = simp append-nil

describe : (s offset : List ℕ) (r : Reading) → s ≡ offset_data offset → OffsetSize offset → Noted s r (offset ∷ []) → Offsets s (number_at s r 0) offset
describe s offset r e z n = record { written = e; size = z; offset_is = number_at-noted s r 0 offset (n.each 0 (omega arith)) (omega arith) }

module _ (s : List ℕ) (n : ℕ) (e : read_offset_object s ≡ Some n) where
  number_is : number_at s (read_by offset_form s) 0 ≡ n
  unfolding read_offset_object
  number_is = let x = (read_as_facts offset_form s (offset_of s) None (Some n) e refused-not).1 in cc

  -- what is taken is a writing of the offset answered
  pub offset_sound : AllBytes s → (offset : List ℕ) × Offsets s n offset
  unfolding read_offset_object Sized leaves
  offset_sound b =
      let w = read_as_sound offset_form s (offset_of s) None (Some n) e refused-not readable b in
      let offset = w.values.0 in
      (offset, subst (λ (k : ℕ). Offsets s k offset) number_is (describe s offset _ (w.bytes ∙ encoded offset) (w.sized.0, w.sized.1) w.noted))

  -- the offset answered has up to three bytes
  pub offset_below : AllBytes s → n < 16777216
  unfolding offset_data
  offset_below b =
      let x = offset_sound b in
      let o = x.1 in
      rw o.offset_is (big_below s x.0 [] (o.written ∙ sym (append-nil (tlv 0x54 x.0))) b o.size.1)

-- an offset of one to three bytes
module _ (offset : List ℕ) (z : OffsetSize offset) where
  short : length (offset_data offset) ≤ 65535
  unfolding offset_data
  short = omega (arith, length-tlv 0x54 offset, head_size_most 0x54 (length offset))

  -- every writing of such an offset is taken
  pub offset_complete : (n : ℕ) × (read_offset_object (offset_data offset) ≡ Some n) × Offsets (offset_data offset) n offset
  unfolding read_offset_object Sized leaves
  offset_complete =
      let s = offset_data offset in
      let k : Sized offset_form (offset, tt) = (z.0, z.1, tt) in (
        number_at s (read_by offset_form s) 0,
        read_as_complete offset_form readable (offset, tt) s (encoded offset) short (offset_of s) None k,
        describe s offset _ refl z (read_by_noted offset_form readable (offset, tt) s (encoded offset) short k),
      )

  -- and another offset has another writing
  pub offset_unique : (offset' : List ℕ) → offset_data offset ≡ offset_data offset' → offset ≡ offset'
  offset_unique offset' e =
      ap (λ (v : Values offset_form). v.0) (read_as_unique offset_form readable (offset, tt) (offset_data offset) (encoded offset) short (offset', tt) (encoded offset' ∙ sym e))

-- an offset of three bytes with a leading zero, computed
pub leading_zero : read_offset_object (0x54 ∷ 0x03 ∷ 0x00 ∷ 0x80 ∷ 0x01 ∷ []) ≡ Some 32769
unfolding read_offset_object read_by read_form head_of length_of number_in big
leading_zero = refl

-- the last byte of the largest file, computed
pub last_byte : read_offset_object (0x54 ∷ 0x03 ∷ 0x01 ∷ 0xFF ∷ 0xFF ∷ []) ≡ Some 131071
unfolding read_offset_object read_by read_form head_of length_of number_in big
last_byte = refl
