-- What holds of every data field that is answered by a form: what is accepted is a writing of the form, and every writing is accepted. Read
-- before: specs/Places.antt. Exports `Readable` (what a form needs for this), `read_as_sound`, `read_as_complete`, `read_as_unique`.
use Prim.Native.Nat.{ℕ, ◌≤◌, ◌<◌}
use mathlib.Core.Path.{◌≡◌, sym, ap, ◌∙◌}
use mathlib.Core.List.{List}
use mathlib.Core.Bool.{true}
use native.Mathlib.Omega.{arith}
use lib.ListN.{length}
use Rattle.base.specs.Bytes.{AllBytes}
use Rattle.base.proofs.Cases.{by_cases}
use Rattle.objects_writer.specs.Number.{big}
use Rattle.objects_reader.specs.Form.{Form, is_clean, read_by}
use Rattle.objects_reader.specs.Encoding.{Values, encode, Sized, leaves, leaf_count, deep, Proper}
use Rattle.objects_reader.specs.Places.{span_at, number_in, number_at, read_as, Placed, Noted, Parsed}
use Rattle.objects_reader.specs.declared.reader.Reading.{Reading}
use Rattle.objects_reader.proofs.NumberRead.{number_in_whole}
use Rattle.objects_reader.proofs.Unique.{encode_unique}
use Rattle.objects_reader.proofs.Exact.{read_complete, read_sound}

-- a form that the reader can go by
pub record Readable (f : Form) : Type 0 where
  pub proper : Proper f
  pub few : leaf_count f ≤ 13
  pub flat : deep f ≤ 4

module _ {A : Type 0} (f : Form) (s : List ℕ) (answer : Reading → A) (refused a : A) (e : read_as f s answer refused ≡ a) (n : refused ≡ a → ⊥) where
  -- an answer that is no refusal is what a clean reading answers
  pub read_as_facts : (is_clean (read_by f s).fault ≡ true) × (answer (read_by f s) ≡ a)
  read_as_facts =
      by_cases (is_clean (read_by f s).fault)
      (λ c. (c, simp c at e))
      (λ c. absurd (n (simp c at e)))

  pub read_as_sound : Readable f → AllBytes s → Parsed f s (read_by f s)
  read_as_sound p b = read_sound f p.proper p.few s b read_as_facts.0

-- every writing is answered, and settles its values
module _ (f : Form) (p : Readable f) (v : Values f) (s : List ℕ) (e : encode f v ≡ s) (l : length s ≤ 65535) where
  short : length (encode f v) < 65536
  short = let k = ap length e in omega arith

  pub read_by_noted : Sized f v → Noted s (read_by f s) (leaves f v)
  read_by_noted z = rw e at (read_complete f p.proper p.few p.flat v z short)

  pub read_as_complete : {A : Type 0} (answer : Reading → A) (refused : A) → Sized f v → read_as f s answer refused ≡ answer (read_by f s)
  read_as_complete answer refused z = let c = (read_by_noted z).clean in simp c

  pub read_as_unique : (w : Values f) → encode f w ≡ s → v ≡ w
  read_as_unique w k = encode_unique f p.proper v w short (e ∙ sym k)

-- a number that stands at a place
pub number_at-noted : (s : List ℕ) (r : Reading) (k : ℕ) (v : List ℕ) → Placed s (span_at r k).at (span_at r k).len v → length v ≤ 8 → number_at s r k ≡ big v
number_at-noted s r k v p h = ap number_in p.is ∙ number_in_whole v h
