-- The data of SEARCH RECORD: what is accepted is the writing of its five fields, every such writing is accepted, and it settles the fields.
-- Read before: specs/Search.antt. Exports `search_sound`, `search_complete`, `search_unique`.
use Prim.Native.Nat.{ℕ, ◌+◌, ◌≤◌}
use mathlib.Core.Path.{◌≡◌, refl, sym, ap, subst, ◌∙◌}
use mathlib.Core.List.{List, [], ◌∷◌, ◌++◌, append-nil, append_assoc}
use mathlib.Core.Bool.{false}
use mathlib.Core.Logic.{◌⊎◌, inl, inr, ⊎_elim}
use native.Mathlib.Omega.{arith}
use native.Mathlib.Nat.{zero-add}
use lib.ListN.{length, get_or, length-append}
use lib.Dec.{eqb}
use borrow.Author.Tests.{eq-eqb, ne_eqb, eqb-true}
use Rattle.base.specs.Bytes.{AllBytes}
use Rattle.base.proofs.Cases.{by_cases}
use Rattle.objects_writer.specs.Number.{big}
use Rattle.objects_writer.specs.Writing.{tlv}
use Rattle.objects_reader.specs.Form.{read_by, read_form}
use Rattle.objects_reader.specs.Head.{head_of, length_of}
use Rattle.objects_reader.specs.Encoding.{Values, encode, Sized, leaves, leaf_count, deep, Proper}
use Rattle.objects_reader.specs.Places.{number_in, number_at, Noted}
use Rattle.objects_templates.specs.Search.{SearchFields, search_data, search_form, search_of, ask_of, read_search, SearchSized, Searches}
use Rattle.objects_reader.specs.declared.reader.Reading.{Reading}
use Rattle.objects_templates.specs.declared.Search.{Search}
use Rattle.objects_reader.proofs.Within.{read-within}
use Rattle.objects_reader.proofs.Unique.{length-tlv}
use Rattle.objects_reader.proofs.Taking.{Readable, read_as_facts, read_as_sound, read_by_noted, read_as_complete, read_as_unique, number_at-noted}
use Rattle.std.specs.Prelude.{Some, None}

readable : Readable search_form
unfolding Proper leaf_count deep
readable = record { proper = omega arith; few = omega arith; flat = omega arith }

refused-not : {q : Search} → None ≡ Some q → ⊥
refused-not {q} e = let z : ◌≡◌ {A = ℕ} 0 1 = cc in omega arith

abbrev values : SearchFields → Values search_form
values x = ((x.file, ((x.mode ∷ [], ((x.offset, (x.number, tt)), tt)), (((x.text, tt), tt), tt))), tt)

abbrev fields : Values search_form → SearchFields
fields v = record { file = v.0.0; mode = get_or v.0.1.0.0 0 0; offset = v.0.1.0.1.0.0; number = v.0.1.0.1.0.1.0; text = v.0.1.1.0.0.0 }

encoded : (x : SearchFields) → encode search_form (values x) ≡ search_data x
unfolding encode search_data
encoded x = simp (append-nil, append_assoc)

-- the mode, as it is read
mode-noted : (s : List ℕ) (r : Reading) (x : SearchFields) → Noted s r (leaves search_form (values x)) → number_at s r 1 ≡ x.mode
unfolding leaves big
mode-noted s r x n = number_at-noted s r 1 (x.mode ∷ []) (n.each 1 (omega arith)) (omega arith) ∙ zero-add x.mode

describe : (s : List ℕ) (x : SearchFields) (r : Reading) → s ≡ search_data x → SearchSized x → Noted s r (leaves search_form (values x)) → Searches s (search_of s r) x
unfolding leaves
describe s x r e z n = record {
  written = e;
  sized = z;
  file_placed = n.each 0 (omega arith);
  one_is = ap (λ (m : ℕ). eqb m 0x30) (mode-noted s r x n);
  offset_is = number_at-noted s r 2 x.offset (n.each 2 (omega arith)) (let k = z.offset_size in omega arith);
  number_is = number_at-noted s r 3 x.number (n.each 3 (omega arith)) (let k = z.number_size in omega arith);
  text_placed = n.each 4 (omega arith);
}

single : (l : List ℕ) → 1 ≤ length l → length l ≤ 1 → l ≡ get_or l 0 0 ∷ []
single [] p q = absurd (omega arith)
single (a ∷ []) p q = refl
single (a ∷ b ∷ l) p q = absurd (omega arith)

-- what is asked by a mode that is one of the two
asks : (s : List ℕ) (r : Reading) → (number_at s r 1 ≡ 0) ⊎ (number_at s r 1 ≡ 0x30) → ask_of s r ≡ Some (search_of s r)
asks s r m = ⊎_elim
    (λ e. simp (eq-eqb (number_at s r 1) 0 e))
    (λ e. let k : ask_of s r ≡ Some (search_of s r) = simp (ne_eqb (number_at s r 1) 0 (omega arith), eq-eqb (number_at s r 1) 0x30 e) in k)
    m

module _ (s : List ℕ) (r : Reading) (q : Search) (e : ask_of s r ≡ Some q) where
  mode_of : (number_at s r 1 ≡ 0) ⊎ (number_at s r 1 ≡ 0x30)
  mode_of =
      by_cases (eqb (number_at s r 1) 0) (λ a. inl (eqb-true _ 0 a))
      (λ a. by_cases (eqb (number_at s r 1) 0x30) (λ b. inr (eqb-true _ 0x30 b)) (λ b. absurd (refused-not (simp (a, b) at e))))

  search_is : search_of s r ≡ q
  search_is = let k = sym (asks s r mode_of) ∙ e in cc

module _ (s : List ℕ) (q : Search) (e : read_search s ≡ Some q) where
  asked_is : ask_of s (read_by search_form s) ≡ Some q
  unfolding read_search
  asked_is = (read_as_facts search_form s (ask_of s) None (Some q) e refused-not).1

  -- every place answered lies inside the data
  pub search_inside : (q.file.at + q.file.len ≤ length s) × (q.text.at + q.text.len ≤ length s)
  search_inside =
      let w = read-within search_form s in
      subst (λ (p : Search). (p.file.at + p.file.len ≤ length s) × (p.text.at + p.text.len ≤ length s)) (search_is s (read_by search_form s) q asked_is) (w.each 0, w.each 4)

  -- what is taken is a writing of the fields answered
  pub search_sound : AllBytes s → (x : SearchFields) × Searches s q x
  unfolding read_search Sized leaves
  search_sound b =
      let t = read_as_sound search_form s (ask_of s) None (Some q) e refused-not readable b in
      let v = t.values in
      let z = t.sized in
      let modes = v.0.1.0.0 in
      let x = fields v in
      let m : v ≡ values x =
      ap (λ (l : List ℕ). ((x.file, ((l, ((x.offset, (x.number, tt)), tt)), (((x.text, tt), tt), tt))), tt)) (single modes z.0.2.0.0 z.0.2.0.1) in
      let k = t.bytes ∙ ap (encode search_form) m ∙ encoded x in
      let l = ap length k in
      let h = t.short in
      let n = subst (λ (u : Values search_form). Noted s (read_by search_form s) (leaves search_form u)) m t.noted in
      let w : SearchSized x = record {
        file_size = (z.0.0, z.0.1);
        mode_is = subst (λ (j : ℕ). (j ≡ 0) ⊎ (j ≡ 0x30)) (mode-noted s _ x n) (mode_of s (read_by search_form s) q asked_is);
        offset_size = (z.0.2.0.2.0.0, z.0.2.0.2.0.1);
        number_size = (z.0.2.0.2.0.2.0, z.0.2.0.2.0.2.1);
        text_size = z.0.2.1.0.0.0;
        whole = omega arith;
      } in
      (x, subst (λ (p : Search). Searches s p x) (search_is s (read_by search_form s) q asked_is) (describe s x _ k w n))

-- fields of the sizes that are allowed
module _ (x : SearchFields) (z : SearchSized x) where
  text-fits : length x.text ≤ 65535
  unfolding search_data
  text-fits =
      let a = tlv 0x81 x.text in
      let b = tlv 0xB1 a in
      let c = tlv 0xA1 (tlv 0x80 (x.mode ∷ []) ++ tlv 0xB0 (tlv 0x02 x.offset ++ tlv 0x02 x.number)) in
      let d = tlv 0x51 x.file ++ c in
      let k = z.whole in
      omega (arith, length-tlv 0x81 x.text, length-tlv 0xB1 a, length-tlv 0xA3 b, length-append d (tlv 0xA3 b), length-tlv 0x7F76 (d ++ tlv 0xA3 b))

  sized : Sized search_form (values x)
  unfolding Sized
  sized =
      let f = z.file_size in
      let o = z.offset_size in
      let n = z.number_size in
      ((f.0, f.1, ((omega arith, omega arith, ((o.0, o.1, (n.0, n.1, tt)), tt)), (((z.text_size, text-fits, tt), tt), tt))), tt)

  -- every writing of fields of these sizes is taken
  pub search_complete : (q : Search) × (read_search (search_data x) ≡ Some q) × Searches (search_data x) q x
  unfolding read_search
  search_complete =
      let s = search_data x in
      let r = read_by search_form s in
      let n = read_by_noted search_form readable (values x) s (encoded x) z.whole sized in
      let m = mode-noted s r x n in (
        search_of s r,
        read_as_complete search_form readable (values x) s (encoded x) z.whole (ask_of s) None sized ∙ asks s r (⊎_elim (λ e. inl (m ∙ e)) (λ e. inr (m ∙ e)) z.mode_is),
        describe s x r refl z n,
      )

  -- and other fields have another writing
  pub search_unique : (y : SearchFields) → search_data x ≡ search_data y → x ≡ y
  search_unique y e = ap fields (read_as_unique search_form readable (values x) (search_data x) (encoded x) z.whole (values y) (encoded y ∙ sym e))

-- m6 of the card to try, computed
pub m6 : read_search (0x7F ∷ 0x76 ∷ 0x19 ∷ 0x51 ∷ 0x01 ∷ 0x01 ∷ 0xA1 ∷ 0x0B ∷ 0x80 ∷ 0x01 ∷ 0x00 ∷ 0xB0 ∷ 0x06 ∷ 0x02 ∷ 0x01 ∷ 0x03 ∷ 0x02 ∷ 0x01 ∷ 0x03 ∷ 0xA3 ∷ 0x07 ∷ 0xB1 ∷ 0x05 ∷ 0x81 ∷ 0x03 ∷ 0x46 ∷ 0x52 ∷ 0x41 ∷ [])
    ≡ Some (record { file = record { at = 5; len = 1 }; one = false; offset = 3; number = 3; text = record { at = 25; len = 3 } })
unfolding read_search read_by read_form head_of length_of number_in big
m6 = refl
