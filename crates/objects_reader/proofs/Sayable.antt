-- Values that a length can say: none of more than 65,535 bytes. A writing may then be longer than that. Exports `AllSayable`, `short_sayable`.
use Prim.Native.Nat.{ℕ, ◌<◌}
use mathlib.Core.List.{List, ◌++◌}
use native.Mathlib.Omega.{arith}
use lib.ListN.{length}
use lib.Dec.{lit<}
use Rattle.objects_reader.specs.Form.{Form, done, plain, maybe, nested}
use Rattle.objects_reader.specs.Encoding.{Perhaps, absent, present, perhaps, Values, encode, value_of}
use Rattle.objects_reader.proofs.Unique.{object_size}

-- the value of each object is no longer than a length can say
unfoldable pub AllSayable : (f : Form) → Values f → Type 0
AllSayable done v = Unit {0}
AllSayable (plain t lo hi f) v = (length v.0 < 65536) × AllSayable f v.1
AllSayable (maybe t lo hi f) v = (length (value_of v.0) < 65536) × AllSayable f v.1
AllSayable (nested t g f) v = (length (encode g v.0) < 65536) × AllSayable g v.0 × AllSayable f v.1

perhaps_sayable : (t : ℕ) (o : Perhaps) (e : List ℕ) → length (perhaps t o ++ e) < 65536 → (length (value_of o) < 65536) × (length e < 65536)
unfolding perhaps
perhaps_sayable t absent e h = (lit< tt, h)
perhaps_sayable t (present a) e h = let n = object_size t a e in (omega arith, omega arith)

-- those of a writing of less than 65,536 bytes are such values
pub short_sayable : (f : Form) (v : Values f) → length (encode f v) < 65536 → AllSayable f v
unfolding encode AllSayable
short_sayable done v h = tt
short_sayable (plain t lo hi f) v h = let n = object_size t v.0 (encode f v.1) in (omega arith, short_sayable f v.1 (omega arith))
short_sayable (maybe t lo hi f) v h = let p = perhaps_sayable t v.0 (encode f v.1) h in (p.0, short_sayable f v.1 p.1)
short_sayable (nested t g f) v h =
    let n = object_size t (encode g v.0) (encode f v.1) in
    (omega arith, short_sayable g v.0 (omega arith), short_sayable f v.1 (omega arith))
