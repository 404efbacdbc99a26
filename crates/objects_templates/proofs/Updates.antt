-- The data of UPDATE BINARY: what is accepted is the writing of an offset and bytes, every such writing is accepted, and it settles the two.
-- Read before: specs/Update.antt. Exports `update_sound`, `update_complete`, `update_unique`, `update_below`.
use Prim.Native.Nat.{ℕ, ◌+◌, ◌≤◌, ◌<◌}
use mathlib.Core.Path.{◌≡◌, refl, sym, ap, subst, ◌∙◌}
use mathlib.Core.List.{List, [], ◌∷◌, append-nil}
use native.Mathlib.Omega.{arith}
use lib.ListN.{length, length-append}
use Rattle.base.specs.Bytes.{AllBytes}
use Rattle.objects_writer.specs.Number.{big}
use Rattle.objects_writer.specs.Writing.{tlv}
use Rattle.objects_reader.specs.Head.{head_of, length_of}
use Rattle.objects_reader.specs.Form.{read_form, read_by}
use Rattle.objects_reader.specs.Encoding.{Values, encode, Sized, leaves, leaf_count, deep, Proper}
use Rattle.objects_reader.specs.Places.{number_in, number_at, Noted}
use Rattle.objects_reader.specs.Places.{span_at}
use Rattle.objects_templates.specs.Update.{update_data, update_form, write_of, read_update, UpdateSized, Updates}
use Rattle.objects_reader.specs.declared.reader.Reading.{Reading}
use Rattle.objects_templates.specs.declared.Writes.{Writes}
use Rattle.objects_templates.proofs.Offsets.{big_below}
use Rattle.objects_reader.proofs.Within.{read-within}
use Rattle.objects_reader.proofs.Unique.{length-tlv}
use Rattle.objects_reader.proofs.Taking.{Readable, read_as_facts, read_as_sound, read_by_noted, read_as_complete, read_as_unique, number_at-noted}
use Rattle.std.specs.Prelude.{Some, None}

readable : Readable update_form
unfolding Proper leaf_count deep
readable = record { proper = omega arith; few = omega arith; flat = omega arith }

refused-not : {w : Writes} → None ≡ Some w → ⊥
refused-not {w} e = let z : ◌≡◌ {A = ℕ} 0 1 = cc in omega arith

encoded : (offset bytes : List ℕ) → encode update_form (offset, (bytes, tt)) ≡ update_data offset bytes
unfolding encode update_data
encoded offset bytes = simp append-nil

abbrev writes : List ℕ → Reading → Writes
writes s r = record { offset = number_at s r 0; bytes = span_at r 1 }

describe : (s offset bytes : List ℕ) (r : Reading) → s ≡ update_data offset bytes → UpdateSized offset bytes → Noted s r (offset ∷ bytes ∷ []) → Updates s (writes s r) offset bytes
describe s offset bytes r e z n = record {
  written = e;
  sized = z;
  offset_is = number_at-noted s r 0 offset (n.each 0 (omega arith)) (let k = z.offset_size in omega arith);
  bytes_placed = n.each 1 (omega arith);
}

module _ (s : List ℕ) (w : Writes) (e : read_update s ≡ Some w) where
  writes-is : writes s (read_by update_form s) ≡ w
  unfolding read_update
  writes-is = let x = (read_as_facts update_form s (write_of s) None (Some w) e refused-not).1 in cc

  -- every place answered lies inside the data
  pub update-inside : w.bytes.at + w.bytes.len ≤ length s
  update-inside = subst (λ (q : Writes). q.bytes.at + q.bytes.len ≤ length s) writes-is ((read-within update_form s).each 1)

  -- what is taken is a writing of the fields answered
  pub update_sound : AllBytes s → (offset : List ℕ) × (bytes : List ℕ) × Updates s w offset bytes
  unfolding read_update Sized leaves
  update_sound b =
      let t = read_as_sound update_form s (write_of s) None (Some w) e refused-not readable b in
      let z = t.sized in
      let offset = t.values.0 in
      let bytes = t.values.1.0 in
      let l = t.short in
      let k = t.bytes ∙ encoded offset bytes in
      let n = ap length k in (
        offset,
        bytes,
        subst (λ (q : Writes). Updates s q offset bytes) writes-is
            (describe s offset bytes _ k (record { offset_size = (z.0, z.1); whole = omega arith }) t.noted),
      )

  -- the offset answered has up to three bytes
  pub update_below : AllBytes s → w.offset < 16777216
  unfolding update_data
  update_below b =
      let x = update_sound b in
      let u = x.2 in
      rw u.offset_is (big_below s x.0 (tlv 0x53 x.1) u.written b u.sized.offset_size.1)

-- an offset of one to three bytes, and bytes that fit
module _ (offset bytes : List ℕ) (z : UpdateSized offset bytes) where
  fits : length bytes ≤ 65535
  unfolding update_data
  fits = let k = z.whole in omega (arith, length-append (tlv 0x54 offset) (tlv 0x53 bytes), length-tlv 0x53 bytes)

  -- every writing of fields of these sizes is taken
  pub update_complete : (w : Writes) × (read_update (update_data offset bytes) ≡ Some w) × Updates (update_data offset bytes) w offset bytes
  unfolding read_update Sized leaves
  update_complete =
      let s = update_data offset bytes in
      let v : Values update_form = (offset, (bytes, tt)) in
      let k : Sized update_form v = (z.offset_size.0, z.offset_size.1, (omega arith, fits, tt)) in (
        writes s (read_by update_form s),
        read_as_complete update_form readable v s (encoded offset bytes) z.whole (write_of s) None k,
        describe s offset bytes _ refl z (read_by_noted update_form readable v s (encoded offset bytes) z.whole k),
      )

  -- and other fields have another writing
  pub update_unique : (offset' bytes' : List ℕ) → update_data offset bytes ≡ update_data offset' bytes' → (offset ≡ offset') × (bytes ≡ bytes')
  update_unique offset' bytes' e =
      let q = read_as_unique update_form readable (offset, (bytes, tt)) (update_data offset bytes) (encoded offset bytes) z.whole (offset', (bytes', tt)) (encoded offset' bytes' ∙ sym e) in
      (ap (λ (v : Values update_form). v.0) q, ap (λ (v : Values update_form). v.1.0) q)

-- the update of the biometrics card to try: AABB from 0 on, computed
pub aabb : read_update (0x54 ∷ 0x01 ∷ 0x00 ∷ 0x53 ∷ 0x02 ∷ 0xAA ∷ 0xBB ∷ []) ≡ Some (record { offset = 0; bytes = record { at = 5; len = 2 } })
unfolding read_update read_by read_form head_of length_of number_in big
aabb = refl
