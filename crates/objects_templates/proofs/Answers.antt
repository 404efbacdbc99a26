-- What code over a reading answers. Read before: `read_as` in objects_reader/specs/Places.antt. Exports `read_by-in`,
-- `read_as-accepted` and `read_as-refused`.
use Prim.Native.Nat.{ℕ}
use mathlib.Core.Path.{◌≡◌, ap, sym, subst, ◌∙◌}
use mathlib.Core.List.{List}
use mathlib.Core.Bool.{Bool, true, false, not}
use Rattle.std.specs.Option.{is_some}
use lib.ListN.{length}
use Rattle.objects_reader.specs.Form.{Form, is_clean, read_by}
use Rattle.objects_reader.specs.Places.{read_as, Within}
use Rattle.objects_reader.specs.declared.reader.Reading.{Reading}
use Rattle.objects_reader.proofs.Within.{read-within}

-- what follows a reading by the form f
module _ (f : Form) (s : List ℕ) {r : Reading} (e : r ≡ read_by f s) where
  pub read_by-in : Within (length s) r
  read_by-in = subst (Within (length s)) (sym e) (read-within f s)

  module _ {A : Type 0} (answer : Reading → A) (refused : A) {b : Bool} (c : is_some r.fault ≡ not b) where
    clean_is : {t : Bool} → b ≡ t → is_clean (read_by f s).fault ≡ not (not t)
    clean_is h = ap (λ (x : Reading). is_clean x.fault) (sym e) ∙ ap not (c ∙ ap not h)

    pub read_as-accepted : {a : A} → b ≡ true → a ≡ answer r → a ≡ read_as f s answer refused
    read_as-accepted t h = let d = clean_is t in h ∙ ap answer e ∙ simp d

    pub read_as-refused : b ≡ false → refused ≡ read_as f s answer refused
    read_as-refused t = let d = clean_is t in simp d
