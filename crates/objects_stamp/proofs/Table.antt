-- Table 11 as the reader's form: its values are the fields of a stamp, its writings those of Stamp.antt, its places too, and it is a form
-- that the reader can go by. Exports `values`, `fields`, `encoded`, `leaves_are`, `places_are`, `fields_of`, `proper`, `few`, `thirteen`,
-- `flat`, `small`, `longest`.
use Prim.Native.Nat.{ℕ, ◌≤◌, ◌+◌}
use mathlib.Core.Path.{◌≡◌, refl, ap, sym, ◌∙◌}
use mathlib.Core.List.{List, [], ◌∷◌, ◌++◌, append-nil}
use native.Mathlib.Omega.{arith}
use native.Mathlib.Nat.{zero-add}
use lib.Dec.{lit<}
use lib.ListN.{length}
use Rattle.objects_writer.specs.Writing.{tag_bytes, length_bytes, tlv}
use Rattle.objects_reader.specs.Encoding.{Values, place_of, present, perhaps, value_of, encode, leaves, places_at, leaf_count, deep, Proper, Follows}
use Rattle.objects_stamp.specs.Rules.{stamp_form}
use Rattle.objects_stamp.specs.Stamp.{Stamp, stamp_data, stamp_places, copy_piece, signed_pieces, last_pieces, piece_data, piece_places}
use Rattle.objects_reader.specs.Form.{Form, done, plain, maybe, nested}
use Rattle.objects_stamp.proofs.Telling.{Small}
use Rattle.objects_reader.proofs.Sizes.{most}

abbrev pub values : Stamp → Values stamp_form
values x = (x.copy, ((x.state, (x.visas, (x.date, (x.authority, (x.location, (x.inspector, (x.result, (x.mode, (x.duration, (x.conditions, tt)))))))))), (x.signature, (x.reference, tt))))

abbrev pub fields : Values stamp_form → Stamp
fields v = record {
  copy = v.0;
  state = v.1.0.0;
  visas = v.1.0.1.0;
  date = v.1.0.1.1.0;
  authority = v.1.0.1.1.1.0;
  location = v.1.0.1.1.1.1.0;
  inspector = v.1.0.1.1.1.1.1.0;
  result = v.1.0.1.1.1.1.1.1.0;
  mode = v.1.0.1.1.1.1.1.1.1.0;
  duration = v.1.0.1.1.1.1.1.1.1.1.0;
  conditions = v.1.0.1.1.1.1.1.1.1.1.1.0;
  signature = v.1.1.0;
  reference = v.1.1.1.0;
}

-- the values in order; one that is absent counts as empty
abbrev pub fields_of : Stamp → List (List ℕ)
fields_of x =
    x.copy ∷ x.state ∷ value_of x.visas ∷ x.date ∷ x.authority ∷ x.location ∷ x.inspector ∷ value_of x.result ∷ value_of x.mode ∷ value_of x.duration
    ∷ value_of x.conditions ∷ x.signature ∷ x.reference ∷ []

pub encoded : (x : Stamp) → encode stamp_form (values x) ≡ stamp_data x
unfolding encode stamp_data perhaps
encoded x = simp append-nil

pub leaves_are : (x : Stamp) → leaves stamp_form (values x) ≡ fields_of x
unfolding leaves
leaves_are x = refl

-- the places of a stamp whose copy's object has a bytes
abbrev places_from : Stamp → ℕ → List ℕ
places_from x a =
    piece_places 0 (copy_piece x)
    ++ (piece_places (a + (length (tag_bytes 0x73) + length (length_bytes (length (piece_data (signed_pieces x)))))) (signed_pieces x)
    ++ piece_places (a + length (tlv 0x73 (piece_data (signed_pieces x)))) (last_pieces x))

-- what follows the first row of a form
abbrev rest : Form → Form
rest done = done
rest (plain t lo hi f) = f
rest (maybe t lo hi f) = f
rest (nested t g f) = f

at_zero : (t lo hi : ℕ) (f : Form) (v : Values (plain t lo hi f))
    → places_at (plain t lo hi f) v 0 ≡ place_of 0 t (present v.0) ++ places_at f v.1 (length (tlv t v.0))
unfolding places_at
at_zero t lo hi f v = simp zero-add

pub places_are : (x : Stamp) → places_at stamp_form (values x) 0 ≡ stamp_places x
unfolding places_at stamp_places encode perhaps
places_are x =
    let copy : length (piece_data (copy_piece x)) ≡ length (tlv 0x5F44 x.copy) = simp append-nil in
    let behind : place_of 0 0x5F44 (present (values x).0) ++ places_at (rest stamp_form) (values x).1 (length (tlv 0x5F44 (values x).0)) ≡ places_from x (length (tlv 0x5F44 x.copy)) = simp append-nil in
    at_zero 0x5F44 3 3 (rest stamp_form) (values x) ∙ (behind ∙ ap (places_from x) (sym copy))

-- ---- a form that the reader can go by

pub proper : Proper stamp_form
unfolding Proper Follows
proper = (
  lit< tt,
  (
    lit< tt,
    (
      lit< tt,
      (
        lit< tt,
        refl,
        (
          lit< tt,
          (
            lit< tt,
            (
              lit< tt,
              (
                lit< tt,
                (lit< tt, (refl, (refl, (refl, tt))), (lit< tt, (refl, (refl, tt)), (lit< tt, (refl, tt), (lit< tt, tt, tt)))),
              ),
            ),
          ),
        ),
      ),
    ),
    (lit< tt, (lit< tt, tt)),
  ),
)

pub few : leaf_count stamp_form ≤ 13
unfolding leaf_count
few = omega arith

pub thirteen : leaf_count stamp_form ≡ 13
unfolding leaf_count
thirteen = refl

pub flat : deep stamp_form ≤ 4
unfolding deep
flat = omega arith

pub small : Small stamp_form
unfolding Small
small = omega arith

pub longest : most stamp_form ≡ 391
unfolding most tag_bytes length_bytes
longest = refl
