-- How the objects of a form are written, and which writings the form allows. The readable side of the reader: `Parsed` (Places.antt) says
-- by these what a reading without a fault has read.
--
-- `maybe`, `Perhaps`, `perhaps`, `SizedP`, `value_of`, `apart` and `Follows` are for objects that may be absent. A stamp has some; no command
-- does.
use Rattle.std.specs.Prelude.{ℕ, suc, ◌+◌, ◌/◌, ◌≤◌, ◌<◌, max, ◌≡◌, List, [], ◌∷◌, ◌++◌, Bool, true, not, length, ltb, eqb}
use Rattle.base.specs.Choice.{if_else}
use Rattle.objects_writer.specs.Writing.{tag_bytes, length_bytes, tlv}
use Rattle.objects_reader.specs.Form.{Form, done, plain, maybe, nested}

-- a value that may be absent [D10]
pub data Perhaps : Type 0 where
  absent : Perhaps
  present : List ℕ → Perhaps

-- the values of a form's plain objects [D11]
abbrev pub Values : Form → Type 0
Values done = Unit {0}
Values (plain t lo hi f) = List ℕ × Values f
Values (maybe t lo hi f) = Perhaps × Values f
Values (nested t g f) = Values g × Values f

-- the object of a value that may be absent [D10]
unfoldable pub perhaps : ℕ → Perhaps → List ℕ
perhaps t absent = []
perhaps t (present a) = tlv t a

-- the bytes of a form's objects [D1] [D3]
unfoldable pub encode : (f : Form) → Values f → List ℕ
encode done v = []
encode (plain t lo hi f) v = tlv t v.0 ++ encode f v.1
encode (maybe t lo hi f) v = perhaps t v.0 ++ encode f v.1
encode (nested t g f) v = tlv t (encode g v.0) ++ encode f v.1

-- lo to hi bytes, or absent [D10]
abbrev pub SizedP : ℕ → ℕ → Perhaps → Type 0
SizedP lo hi absent = Unit {0}
SizedP lo hi (present a) = (lo ≤ length a) × (length a ≤ hi)

-- each plain value as long as the form says [D5]
unfoldable pub Sized : (f : Form) → Values f → Type 0
Sized done v = Unit {0}
Sized (plain t lo hi f) v = (lo ≤ length v.0) × (length v.0 ≤ hi) × Sized f v.1
Sized (maybe t lo hi f) v = SizedP lo hi v.0 × Sized f v.1
Sized (nested t g f) v = Sized g v.0 × Sized f v.1

-- a value that is absent counts as empty [D10]
abbrev pub value_of : Perhaps → List ℕ
value_of absent = []
value_of (present a) = a

-- the plain values in order [D11]
unfoldable pub leaves : (f : Form) → Values f → List (List ℕ)
leaves done v = []
leaves (plain t lo hi f) v = v.0 ∷ leaves f v.1
leaves (maybe t lo hi f) v = value_of v.0 ∷ leaves f v.1
leaves (nested t g f) v = leaves g v.0 ++ leaves f v.1

-- where a value stands whose object begins at `at`: its first byte, and how many it has; both 0 where it is absent [D9] [D10]
abbrev pub place_of : (at t : ℕ) → Perhaps → List ℕ
place_of at t absent = 0 ∷ 0 ∷ []
place_of at t (present a) = (at + (length (tag_bytes t) + length (length_bytes (length a)))) ∷ length a ∷ []

-- where the plain values stand when the form's objects begin at `at`: two numbers for each [D9] [D11]
unfoldable pub places_at : (f : Form) → Values f → (at : ℕ) → List ℕ
places_at done v at = []
places_at (plain t lo hi f) v at = place_of at t (present v.0) ++ places_at f v.1 (at + length (tlv t v.0))
places_at (maybe t lo hi f) v at = place_of at t v.0 ++ places_at f v.1 (at + length (perhaps t v.0))
places_at (nested t g f) v at =
    let a = encode g v.0 in
    places_at g v.0 (at + (length (tag_bytes t) + length (length_bytes (length a)))) ++ places_at f v.1 (at + length (tlv t a))

-- how many they are [D9]
unfoldable pub leaf_count : Form → ℕ
leaf_count done = 0
leaf_count (plain t lo hi f) = suc (leaf_count f)
leaf_count (maybe t lo hi f) = suc (leaf_count f)
leaf_count (nested t g f) = leaf_count g + leaf_count f

-- how deep the objects nest [D4]
unfoldable pub deep : Form → ℕ
deep done = 0
deep (plain t lo hi f) = max 1 (deep f)
deep (maybe t lo hi f) = max 1 (deep f)
deep (nested t g f) = max (1 + deep g) (deep f)

-- ---- forms whose writings can be told apart

-- no object of tag t' can be taken for one of tag t [D10]
abbrev pub apart : ℕ → ℕ → Bool
apart t t' =
    if_else (ltb t 256)
    (if_else (ltb t' 256) (not (eqb t' t)) (not (eqb (t' / 256) t)))
    (if_else (ltb t' 256) (not (eqb t' (t / 256))) (not (eqb t' t)))

-- nothing that can stand first by the form can be taken for an object of tag t [D10]
unfoldable pub Follows : ℕ → Form → Type 0
Follows t done = Unit {0}
Follows t (plain t' lo hi f) = apart t t' ≡ true
Follows t (maybe t' lo hi f) = (apart t t' ≡ true) × Follows t f
Follows t (nested t' g f) = apart t t' ≡ true

-- tags of at most two bytes, and behind a value that may be absent nothing that can be taken for it [D1] [D10]
unfoldable pub Proper : Form → Type 0
Proper done = Unit {0}
Proper (plain t lo hi f) = (t < 65536) × Proper f
Proper (maybe t lo hi f) = (t < 65536) × Follows t f × Proper f
Proper (nested t g f) = (t < 65536) × Proper g × Proper f
