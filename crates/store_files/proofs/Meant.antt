-- What a look-up answers: a record file stands in the image with its rule, a biometrics file stands in it, and a file is the one that its
-- own id means. Read specs/Files.antt before. Exports `LookupOk`, `by_id_well_formed`, `by_short-well_formed`, `by_id_own`, `by_short_own`.
use Prim.Native.Nat.{ℕ, ◌-◌, ◌≤◌}
use mathlib.Core.Path.{◌≡◌, refl, sym, ap, ◌∙◌}
use mathlib.Core.Bool.{Bool, true, false}
use mathlib.Core.List.{List, [], ◌∷◌}
use native.Mathlib.Omega.{arith}
use lib.Dec.{leb, eqb}
use borrow.Author.Tests.{leb-true, le-leb, eqb-true}
use Rattle.base.specs.Choice.{if_else, all_of}
use Rattle.base.proofs.Cases.{if_else_ind, and_left, and_right, all_of_facts, all_of_accepted}
use Rattle.store_kinds.specs.Rules.{biometrics, rule_of, is_biometrics, biometrics_kind}
use Rattle.store_image.specs.Image.{has}
use Rattle.store_kinds.specs.declared.rules.Key.{Key}
use Rattle.store_kinds.specs.declared.rules.Key.TheVariants.{Id, Short}
use Rattle.store_image.proofs.Laws.{rule_regular, rule_key}
use Rattle.store_files.specs.Files.{ruled, biometrics_by_id, master_by, by_id, by_short, transparent_id, id_of}
use Rattle.store_files.specs.Loops.{Stored}
use Rattle.store_files.specs.declared.Transparent.{Transparent}
use Rattle.store_files.specs.declared.Transparent.TheVariants.{Info, Dir, Biometrics}
use Rattle.store_files.specs.declared.File.{File}
use Rattle.store_files.specs.declared.File.TheVariants.{RecordFile, TransparentFile}
use Rattle.std.specs.Prelude.{Option, Some, None}
use Rattle.store_kinds.specs.declared.rules.Rule.{Rule}

pub record StoredBiometrics (img : List ℕ) (n : ℕ) : Type 0 where
  pub kind : is_biometrics (biometrics_kind n) ≡ true
  pub stands : has img (biometrics_kind n) ≡ true

abbrev pub TransparentOk : List ℕ → Transparent → Type 0
TransparentOk img Info = Unit {0}
TransparentOk img Dir = Unit {0}
TransparentOk img (Biometrics n) = StoredBiometrics img n

abbrev pub FileOk : List ℕ → File → Type 0
FileOk img (RecordFile r) = Stored img r
FileOk img (TransparentFile t) = TransparentOk img t

-- a property of the file, where a look-up found one
abbrev pub Found : (File → Type 0) → Option File → Type 0
Found P (Some f) = P f
Found P None = Unit {0}

abbrev pub LookupOk : List ℕ → Option File → Type 0
LookupOk img = Found (FileOk img)

-- ---- what is found stands in the image

ruled-well_formed : (img : List ℕ) (key : Key) (other : Option File) → LookupOk img other → LookupOk img (ruled img (rule_of key) other)
ruled-well_formed img key other o = go (rule_of key) refl
  where
    go : (f : Option Rule) → rule_of key ≡ f → LookupOk img (ruled img f other)
    go None e = o
    go (Some r) e =
        if_else_ind (LookupOk img) (has img r.kind) (λ h. record { by_kind = (rule_regular key r e).by_kind; stands = h }) (λ h. tt)

biometrics_kind-known : (n : ℕ) → 1 ≤ n → n ≤ 0x40 → is_biometrics (biometrics_kind n) ≡ true
unfolding is_biometrics
biometrics_kind-known n l h = all_of_accepted _ (le-leb 0x0401 (biometrics_kind n) (omega arith), (le-leb (biometrics_kind n) 0x0440 (omega arith), tt))

-- the tests of an id of a biometrics file
abbrev tests : List ℕ → ℕ → ℕ → List Bool
tests img a i = eqb a biometrics ∷ leb 0x0201 i ∷ leb i 0x0240 ∷ has img (biometrics_kind (i - 0x0200)) ∷ []

biometrics-well_formed : (img : List ℕ) (a i : ℕ) → LookupOk img (biometrics_by_id img a i)
unfolding biometrics_by_id
biometrics-well_formed img a i =
    if_else_ind (LookupOk img) (all_of (tests img a i))
    (λ h. let f = all_of_facts (tests img a i) h in go (leb-true 0x0201 i f.1.0) (leb-true i 0x0240 f.1.1.0) f.1.1.1.0) (λ h. tt)
  where
    go : 0x0201 ≤ i → i ≤ 0x0240 → has img (biometrics_kind (i - 0x0200)) ≡ true → StoredBiometrics img (i - 0x0200)
    go l m h = record { kind = biometrics_kind-known (i - 0x0200) (omega arith) (omega arith); stands = h }

master_well_formed : (img : List ℕ) (x y i : ℕ) → LookupOk img (master_by x y i)
unfolding master_by
master_well_formed img x y i = go (eqb i x) (eqb i y)
  where
    go : (s t : Bool) → LookupOk img (if_else s (Some (TransparentFile Info)) (if_else t (Some (TransparentFile Dir)) None))
    go true t = tt
    go false true = tt
    go false false = tt

pub by_id_well_formed : (img : List ℕ) (a i : ℕ) → LookupOk img (by_id img a i)
unfolding by_id
by_id_well_formed img a i =
    if_else_ind (LookupOk img) (eqb a 0) (λ e. master_well_formed img 0x2F01 0x2F00 i) (λ e. ruled-well_formed img (Id a i) (biometrics_by_id img a i) (biometrics-well_formed img a i))

pub by_short-well_formed : (img : List ℕ) (a x : ℕ) → LookupOk img (by_short img a x)
unfolding by_short
by_short-well_formed img a x =
    if_else_ind (LookupOk img) (eqb a 0) (λ e. master_well_formed img 0x01 0x1E x) (λ e. ruled-well_formed img (Short a x) None tt)

-- ---- ids

-- the file that was found has the id i
abbrev HasId : ℕ → Option File → Type 0
HasId i = Found (λ f. id_of f ≡ i)

pub by_id_id : (img : List ℕ) (a i : ℕ) → HasId i (by_id img a i)
unfolding by_id id_of transparent_id
by_id_id img a i = if_else_ind (HasId i) (eqb a 0) (λ e. master) (λ e. by (rule_of (Id a i)) refl)
  where
    master : HasId i (master_by 0x2F01 0x2F00 i)
    master =
        unfold master_by in
        if_else_ind (HasId i) (eqb i 0x2F01) (λ y. sym (eqb-true i _ y)) (λ n. if_else_ind (HasId i) (eqb i 0x2F00) (λ y. sym (eqb-true i _ y)) (λ m. tt))

    of-biometrics : HasId i (biometrics_by_id img a i)
    of-biometrics =
        unfold biometrics_by_id in
        if_else_ind (HasId i) (all_of (tests img a i)) (λ h. let low = leb-true 0x0201 i (all_of_facts (tests img a i) h).1.0 in omega arith) (λ h. tt)

    by : (x : Option Rule) → rule_of (Id a i) ≡ x → HasId i (ruled img x (biometrics_by_id img a i))
    by None e = of-biometrics
    by (Some r) e = if_else_ind (HasId i) (has img r.kind) (λ h. eqb-true r.id i (and_right (eqb r.application a) (eqb r.id i) (rule_key (Id a i) r e))) (λ h. tt)

-- a file is the one that its own id means, in the same application
abbrev pub Own : List ℕ → ℕ → Option File → Type 0
Own img a = Found (λ f. by_id img a (id_of f) ≡ Some f)

pub by_id_own : (img : List ℕ) (a i : ℕ) → Own img a (by_id img a i)
by_id_own img a i = go (by_id img a i) refl (by_id_id img a i)
  where
    go : (l : Option File) → by_id img a i ≡ l → HasId i l → Own img a l
    go (Some f) e h = ap (by_id img a) h ∙ e
    go None e h = tt

pub by_short_own : (img : List ℕ) (a x : ℕ) → Own img a (by_short img a x)
unfolding by_id by_short id_of transparent_id master_by
by_short_own img a x =
    if_else_ind (Own img a) (eqb a 0)
    (λ e. if_else_ind (Own img a) (eqb x 0x01) (λ y. simp e) (λ n. if_else_ind (Own img a) (eqb x 0x1E) (λ y. simp e) (λ m. tt)))
    (λ e. by (rule_of (Short a x)) refl e)
  where
    by : (f : Option Rule) → rule_of (Short a x) ≡ f → eqb a 0 ≡ false → Own img a (ruled img f None)
    by None e n = tt
    by (Some r) e n =
        let k : rule_of (Id a r.id) ≡ Some r = rw (sym (eqb-true r.application a (and_left (eqb r.application a) (eqb r.short x) (rule_key (Short a x) r e)))) (rule_regular (Short a x) r e).by_file_id in
        if_else_ind (Own img a) (has img r.kind) (λ h. simp (n, k, h)) (λ h. tt)
