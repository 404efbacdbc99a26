-- What steps 7 to 9 answer is the file that the command means: the machine's look-ups find what ../specs/Files.antt says (`record_meant` and
-- its like), and a file that is meant is found, a record file (`meant_resolved`) and a transparent one (`meant-by_id`, `inspected_resolved`). No
-- short id has 000 in its low bits (`spellings_apart`), so that a byte of a search means one file only (`byte_means_one`). Read before:
-- ../specs/Files.antt.
use Prim.Native.Nat.{ℕ, ◌+◌, ◌-◌, ◌%◌, ◌≤◌}
use mathlib.Core.Path.{◌≡◌, refl, sym, ap, ap₂, subst, ◌∙◌}
use mathlib.Core.Bool.{Bool, true, false, ◌||◌, or-false}
use mathlib.Core.List.{List, [], ◌∷◌, Memᴰ}
use native.Mathlib.Omega.{arith}
use lib.ListN.{length, get_or}
use lib.Dec.{leb, eqb}
use borrow.Author.Tests.{eqb-true, eq-eqb, ne_eqb, leb-true, le-leb, not-true}
use Rattle.base.specs.Choice.{all_of}
use Rattle.base.proofs.Cases.{by_cases, if_else_ind, false-true, and_left, and_right, all_of_facts, all_of_accepted}
use Rattle.store_kinds.specs.Rules.{biometrics, rules, first_rule, rule_of, present_by, is_biometrics, biometrics_kind}
use Rattle.store_kinds.specs.declared.rules.Rule.{Rule}
use Rattle.store_kinds.specs.declared.rules.Key.{Key}
use Rattle.store_kinds.specs.declared.rules.Key.TheVariants.{Kind as ByKind, Id as ById, Short as ByShort}
use Rattle.store_kinds.proofs.Table.{Regular, rule_key, rule-listed, listed_regular}
use Rattle.store_kinds.proofs.Presence.{present_by-has}
use Rattle.store_kinds.proofs.ByKind.{kind_ok-ruled}
use Rattle.store_image.specs.Image.{has, present, body, well_formed}
use Rattle.store_image.proofs.Laws.{body-well_formed}
use Rattle.store_files.specs.Files.{ruled, biometrics_by_id, master_by, by_id, by_short, transparent_id, id_of}
use Rattle.store_files.specs.declared.Transparent.{Transparent}
use Rattle.store_files.specs.declared.Transparent.TheVariants.{Info, Dir, Biometrics}
use Rattle.store_files.specs.declared.File.{File}
use Rattle.store_files.specs.declared.File.TheVariants.{RecordFile, TransparentFile}
use Rattle.store_files.proofs.Meant.{Found, FileOk, by_id_id}
use Rattle.machine_session.specs.Session.{is_current, application_fits, session_fits}
use Rattle.machine_session.specs.Resolve.{meant_by, meant_at, file_meant, may_record, may_read, may_inspect, activated, writable, record_by, transparent_by, biometrics_by, file_by, resolve_record, resolve_transparent, resolve_biometrics, resolve_file}
use Rattle.machine_session.specs.declared.Place.{Place}
use Rattle.machine_session.specs.declared.Place.TheVariants.{Nowhere, OnFile, OnRecord}
use Rattle.machine_session.specs.declared.Session.{Session}
use Rattle.machine_session.specs.declared.Named.{Named}
use Rattle.machine_session.specs.declared.Named.TheVariants.{Current, Short, Id}
use Rattle.machine_session.specs.declared.Access.{Access}
use Rattle.machine_session.proofs.Steps.{in_order-each, RecordOk, resolve_record-well_formed, FileResolved, BiometricsResolved, TransparentResolved}
use Rattle.machine_action.specs.Tests.{or_current}
use Rattle.machine_record.specs.SearchRecord.{search_short, search_named}
use Rattle.promises.specs.Files.{application_of_file, is_short_of, goes_by, is_meant, is_meant_by_p2, is_meant_by_byte, is_meant_by_search, is_meant_row, is_meant_kind, Permitted, is_there, Inspected, WritesTo}
use Rattle.std.specs.Prelude.{Option, Some, None, Result, Ok, Err}

-- ---- what a look-up finds is in the application, and has the id or the short id

-- a file of the application a
abbrev Home : ℕ → File → Type 0
Home a f = eqb (application_of_file f) a ≡ true

home_master : (a i x y : ℕ) → eqb a 0 ≡ true → Found (Home a) (master_by x y i)
unfolding master_by application_of_file
home_master a i x y e =
    let z : eqb 0 a ≡ true = eq-eqb 0 a (sym (eqb-true a 0 e)) in
    if_else_ind (Found (Home a)) (eqb i x) (λ h. z) (λ h. if_else_ind (Found (Home a)) (eqb i y) (λ g. z) (λ g. tt))

home_biometrics : (img : List ℕ) (a i : ℕ) → Found (Home a) (biometrics_by_id img a i)
unfolding biometrics_by_id application_of_file
home_biometrics img a i =
    let tests : List Bool = eqb a biometrics ∷ leb 0x0201 i ∷ leb i 0x0240 ∷ has img (biometrics_kind (i - 0x0200)) ∷ [] in
    if_else_ind (Found (Home a)) (all_of tests) (λ h. eq-eqb biometrics a (sym (eqb-true a biometrics (all_of_facts tests h).0))) (λ h. tt)

-- what is found by a rule
found-ruled : (P : File → Type 0) (img : List ℕ) (key : Key) (other : Option File) → ((r : Rule) → rule_of key ≡ Some r → P (RecordFile r)) → Found P other → Found P (ruled img (rule_of key) other)
found-ruled P img key other h o = go (rule_of key) refl
  where
    go : (q : Option Rule) → rule_of key ≡ q → Found P (ruled img q other)
    go None e = o
    go (Some r) e = if_else_ind (Found P) (has img r.kind) (λ _. h r e) (λ _. tt)

by_id_home : (img : List ℕ) (a i : ℕ) → Found (Home a) (by_id img a i)
unfolding by_id application_of_file
by_id_home img a i =
    if_else_ind (Found (Home a)) (eqb a 0) (home_master a i 0x2F01 0x2F00)
    (λ _. found-ruled (Home a) img (ById a i) (biometrics_by_id img a i) (λ r e. and_left (eqb r.application a) (eqb r.id i) (rule_key (ById a i) r e)) (home_biometrics img a i))

by_short_home : (img : List ℕ) (a x : ℕ) → Found (Home a) (by_short img a x)
unfolding by_short application_of_file
by_short_home img a x =
    if_else_ind (Found (Home a)) (eqb a 0) (home_master a x 0x01 0x1E)
    (λ _. found-ruled (Home a) img (ByShort a x) None (λ r e. and_left (eqb r.application a) (eqb r.short x) (rule_key (ByShort a x) r e)) tt)

abbrev Shorted : ℕ → File → Type 0
Shorted x f = is_short_of f x ≡ true

by_short-short : (img : List ℕ) (a x : ℕ) → Found (Shorted x) (by_short img a x)
unfolding by_short master_by is_short_of
by_short-short img a x =
    if_else_ind (Found (Shorted x)) (eqb a 0)
    (λ _. if_else_ind (Found (Shorted x)) (eqb x 0x01) (λ h. h) (λ _. if_else_ind (Found (Shorted x)) (eqb x 0x1E) (λ h. h) (λ _. tt)))
    (λ _. found-ruled (Shorted x) img (ByShort a x) None (λ r e. and_right (eqb r.application a) (eqb r.short x) (rule_key (ByShort a x) r e)) tt)

-- ---- step 7

abbrev Means : Session → Named → Result File ℕ → Type 0
Means s n (Err w) = Unit {0}
Means s n (Ok f) = is_meant s n f ≡ true

looked : (s : Session) (n : Named) (l : Option File) → Found (Home s.application) l → Found (λ f. goes_by s f n ≡ true) l → Means s n (meant_by l)
unfolding is_meant
looked s n (Some f) h g = all_of_accepted _ (h, (g, tt))
looked s n None h g = tt

found_map : {P Q : File → Type 0} (l : Option File) → ((f : File) → P f → Q f) → Found P l → Found Q l
found_map (Some f) h p = h f p
found_map None h p = tt

module _ (img : List ℕ) (s : Session) where
  file_meant-means : (n : Named) → Means s n (file_meant img s n)
  unfolding file_meant is_current
  file_meant-means Current = at s.place refl
    where
      current : (p : Place) (i : ℕ) → s.place ≡ p → ((j : ℕ) → is_current p j ≡ eqb i j) → Means s Current (meant_by (by_id img s.application i))
      current p i e h =
          looked s Current (by_id img s.application i) (by_id_home img s.application i)
          (found_map (by_id img s.application i) (λ f z. ap (λ (q : Place). is_current q (id_of f)) e ∙ h (id_of f) ∙ eq-eqb i (id_of f) (sym z)) (by_id_id img s.application i))

      at : (p : Place) → s.place ≡ p → Means s Current (meant_at img s.application p)
      at Nowhere e = tt
      at (OnFile i) e = current (OnFile i) i e (λ j. refl)
      at (OnRecord i n) e = current (OnRecord i n) i e (λ j. refl)
  file_meant-means (Short x) = looked s (Short x) (by_short img s.application x) (by_short_home img s.application x) (by_short-short img s.application x)
  file_meant-means (Id i) =
      looked s (Id i) (by_id img s.application i) (by_id_home img s.application i)
      (found_map (by_id img s.application i) (λ f z. eq-eqb (id_of f) i z) (by_id_id img s.application i))

  -- ---- steps 8 and 9

  abbrev RecordMeans : Named → Result Rule ℕ → Type 0
  RecordMeans n (Err w) = Unit {0}
  RecordMeans n (Ok r) = is_meant s n (RecordFile r) ≡ true

  abbrev TransparentMeans : Named → Result Transparent ℕ → Type 0
  TransparentMeans n (Err w) = Unit {0}
  TransparentMeans n (Ok t) = is_meant s n (TransparentFile t) ≡ true

  abbrev BiometricsMeans : Named → Result ℕ ℕ → Type 0
  BiometricsMeans n (Err w) = Unit {0}
  BiometricsMeans n (Ok k) = is_meant s n (TransparentFile (Biometrics k)) ≡ true

  abbrev FileMeans : Named → Result File ℕ → Type 0
  FileMeans n (Err w) = Unit {0}
  FileMeans n (Ok f) = is_meant s n f ≡ true

  pub record_meant : (x : Access) (n : Named) (r : Rule) → resolve_record img s x n ≡ Ok r → is_meant s n (RecordFile r) ≡ true
  unfolding resolve_record
  record_meant x n r e = subst (RecordMeans n) e (go (file_meant img s n) (file_meant-means n))
    where
      go : (m : Result File ℕ) → Means s n m → RecordMeans n (record_by s x m)
      go (Err w) h = tt
      go (Ok (TransparentFile t)) h = tt
      go (Ok (RecordFile q)) h = if_else_ind (RecordMeans n) (may_record s x q) (λ _. h) (λ _. tt)

  -- and one of the table
  pub record_listed : (x : Access) (n : Named) (r : Rule) → resolve_record img s x n ≡ Ok r → Memᴰ r rules
  record_listed x n r e = rule-listed (ByKind r.kind) r (subst (RecordOk img s x) e (resolve_record-well_formed img s x n)).file.ok.by_kind

  pub record_permitted : (x : Access) (n : Named) (r : Rule) → resolve_record img s x n ≡ Ok r → Permitted s x r
  record_permitted x n r e = record { listed = record_listed x n r e; right = (subst (RecordOk img s x) e (resolve_record-well_formed img s x n)).allowed }

  pub transparent_meant : (n : Named) (t : Transparent) → resolve_transparent img s n ≡ Ok t → is_meant s n (TransparentFile t) ≡ true
  unfolding resolve_transparent
  transparent_meant n t e = subst (TransparentMeans n) e (go (file_meant img s n) (file_meant-means n))
    where
      go : (m : Result File ℕ) → Means s n m → TransparentMeans n (transparent_by img s m)
      go (Err w) h = tt
      go (Ok (RecordFile q)) h = tt
      go (Ok (TransparentFile u)) h = if_else_ind (TransparentMeans n) (may_read img s u) (λ _. h) (λ _. tt)

  pub biometrics-meant : (n : Named) (k : ℕ) → resolve_biometrics img s n ≡ Ok k → is_meant s n (TransparentFile (Biometrics k)) ≡ true
  unfolding resolve_biometrics writable
  biometrics-meant n k e = subst (BiometricsMeans n) e (go (file_meant img s n) (file_meant-means n))
    where
      write : (t : Transparent) → is_meant s n (TransparentFile t) ≡ true → BiometricsMeans n (writable img s t)
      write Info h = tt
      write Dir h = tt
      write (Biometrics j) h = in_order-each (BiometricsMeans n) _ _ (tt, (tt, tt)) (λ _. h)

      go : (m : Result File ℕ) → Means s n m → BiometricsMeans n (biometrics_by img s m)
      go (Err w) h = tt
      go (Ok (RecordFile q)) h = tt
      go (Ok (TransparentFile u)) h = write u h

  pub file-meant : (n : Named) (f : File) → resolve_file img s n ≡ Ok f → is_meant s n f ≡ true
  unfolding resolve_file
  file-meant n f e = subst (FileMeans n) e (go (file_meant img s n) (file_meant-means n))
    where
      go : (m : Result File ℕ) → Means s n m → FileMeans n (file_by img s m)
      go (Err w) h = tt
      go (Ok g) h = if_else_ind (FileMeans n) (may_inspect img s g) (λ _. h) (λ _. tt)

  -- what steps 7 to 9 answer of a file that is read, and of one that is written

  is-there : (f : File) → FileOk img f → is_there img f ≡ true
  unfolding is_there
  is-there (RecordFile r) h = h.stands
  is-there (TransparentFile Info) h = refl
  is-there (TransparentFile Dir) h = refl
  is-there (TransparentFile (Biometrics n)) h = h.stands

  pub file_inspected : (n : Named) (f : File) → resolve_file img s n ≡ Ok f → FileResolved img s f → Inspected img s n f
  file_inspected n f e h = record { meant = file-meant n f e; there = is-there f h.file.ok; right = h.allowed }

  pub transparent_inspected : (n : Named) (t : Transparent) → resolve_transparent img s n ≡ Ok t → TransparentResolved img s t → Inspected img s n (TransparentFile t)
  unfolding may_inspect
  transparent_inspected n t e h = record { meant = transparent_meant n t e; there = is-there (TransparentFile t) h.file.ok; right = h.allowed }

  pub biometrics-writes : (n : Named) (m : ℕ) → resolve_biometrics img s n ≡ Ok m → BiometricsResolved img s m → WritesTo img s n m
  biometrics-writes n m e h =
      record { meant = biometrics-meant n m e; there = h.file.ok.stands; deactivated = not-true (activated img m) h.not-activated; right = h.allowed }

-- ---- by the bytes

-- P2's short id
pub p2-meant : (s : Session) (x : ℕ) (f : File) → is_meant_by_p2 s x f ≡ is_meant s (or_current x) f
unfolding or_current is_meant_by_p2
p2-meant s x f = by_cases (eqb x 0) (λ e. simp e) (λ e. simp e)

-- a record file is one of the table
abbrev pub Listed : File → Type 0
Listed (RecordFile r) = Memᴰ r rules
Listed (TransparentFile t) = Unit {0}

-- no short id of a file has 000 in its low bits
pub spellings_apart : (f : File) → Listed f → (x : ℕ) → is_short_of f x ≡ true → x % 8 ≡ 0 → ⊥
unfolding is_short_of
spellings_apart (RecordFile r) m x h z = let e = eqb-true r.short x h in let l = (listed_regular r m).low_bits in omega (arith, ap (λ (k : ℕ). k % 8) e)
spellings_apart (TransparentFile Info) m x h z = let e = eqb-true x 0x01 h in omega (arith, e, z)
spellings_apart (TransparentFile Dir) m x h z = let e = eqb-true x 0x1E h in omega (arith, e, z)
spellings_apart (TransparentFile (Biometrics n)) m x h z = false-true h

-- so a byte that means a file in either spelling means the file of `search_short`
byte-meant : (s : Session) (b : ℕ) (f : File) → Listed f → is_meant_by_byte s b f ≡ is_meant s (Short (search_short b)) f
unfolding is_meant_by_byte search_short is_meant
byte-meant s b f m = by_cases (eqb (b % 8) 0) (λ z. simp (z, plain z)) (λ z. simp z (or-false (is_meant s (Short b) f)))
  where
    plain : eqb (b % 8) 0 ≡ true → is_meant s (Short b) f ≡ false
    plain z = by_cases (is_meant s (Short b) f) (λ h. absurd (spellings_apart f m b (all_of_facts _ h).1.0 (eqb-true _ _ z))) (λ h. h)

-- the reference of a search
pub search_meant : (s : Session) (v : List ℕ) (f : File) → Listed f → is_meant_by_search s v f ≡ is_meant s (search_named v) f
unfolding search_named is_meant_by_search
search_meant s v f m = by_cases (eqb (length v) 1) (λ e. simp e (byte-meant s (get_or v 0 0) f m)) (λ e. simp e)

-- ---- a record file that is meant is found

module _ (s : Session) (r : Rule) (m : Memᴰ r rules) where
  abbrev table : Regular r
  table = listed_regular r m

  home : (n : Named) → is_meant s n (RecordFile r) ≡ true → r.application ≡ s.application
  unfolding is_meant application_of_file
  home n h = eqb-true _ _ (all_of_facts _ h).0

  goes : (n : Named) → is_meant s n (RecordFile r) ≡ true → goes_by s (RecordFile r) n ≡ true
  unfolding is_meant
  goes n h = (all_of_facts _ h).1.0

  by_short_id : (x : ℕ) → is_meant s (Short x) (RecordFile r) ≡ true → rule_of (ByShort s.application x) ≡ Some r
  unfolding is_short_of
  by_short_id x h = ap₂ (λ (a y : ℕ). rule_of (ByShort a y)) (sym (home (Short x) h)) (sym (eqb-true _ _ (goes (Short x) h))) ∙ table.by_short_id

  by_file_id : (i : ℕ) → r.application ≡ s.application → r.id ≡ i → rule_of (ById s.application i) ≡ Some r
  by_file_id i e z = ap₂ (λ (a y : ℕ). rule_of (ById a y)) (sym e) (sym z) ∙ table.by_file_id

  in-application : r.application ≡ s.application → eqb s.application 0 ≡ false
  in-application e = by_cases (eqb s.application 0) (λ z. let y : s.application ≡ 0 = eqb-true s.application 0 z in let l = table.first in absurd (omega (arith, e, y, l))) (λ z. z)

  -- a session that fits has the application, and so the file
  pub stands : (img : List ℕ) → session_fits img s ≡ true → r.application ≡ s.application → has img r.kind ≡ true
  unfolding session_fits application_fits present
  stands img h e =
      let a = (all_of_facts _ h).0 in
      let p : present_by (has img) s.application ≡ true = subst (λ (b : Bool). (b || present_by (has img) s.application) ≡ true) (in-application e) a in
      present_by-has (has img) (ByKind r.kind) r table.by_kind (subst (λ (b : ℕ). present_by (has img) b ≡ true) (sym e) p)

  module _ (img : List ℕ) (fits : session_fits img s ≡ true) (x : Access) (right : may_record s x r ≡ true) where
    pub meant_resolved : (n : Named) → is_meant s n (RecordFile r) ≡ true → resolve_record img s x n ≡ Ok r
    unfolding resolve_record file_meant by_short by_id id_of is_current
    meant_resolved (Short y) h = simp (in-application (home (Short y) h), by_short_id y h, stands img fits (home (Short y) h), right)
    meant_resolved (Id i) h = simp (in-application (home (Id i) h), by_file_id i (home (Id i) h) (eqb-true _ _ (goes (Id i) h)), stands img fits (home (Id i) h), right)
    meant_resolved Current h = at s.place (home Current h) (goes Current h)
      where
        on : (i : ℕ) → r.application ≡ s.application → eqb i r.id ≡ true → record_by s x (meant_by (by_id img s.application i)) ≡ Ok r
        on i e c = simp (in-application e, by_file_id i e (sym (eqb-true i r.id c)), stands img fits e, right)

        at : (p : Place) → r.application ≡ s.application → is_current p r.id ≡ true → record_by s x (meant_at img s.application p) ≡ Ok r
        at Nowhere e c = false-true c
        at (OnFile i) e c = on i e c
        at (OnRecord i n) e c = on i e c

-- ---- a byte of a search means one file only

module _ (s : Session) (x : ℕ) where
  abbrev IsMeant : File → Type 0
  IsMeant f = is_meant s (Short x) f ≡ true

  same-rule : (q r : Rule) → Memᴰ q rules → Memᴰ r rules → IsMeant (RecordFile q) → IsMeant (RecordFile r) → Some q ≡ Some r
  same-rule q r a b h k = sym (by_short_id s q a x h) ∙ by_short_id s r b x k

  -- a transparent file has a short id in the master file only, and no record file is there
  master : (t : Transparent) → IsMeant (TransparentFile t) → s.application ≡ 0
  unfolding is_meant application_of_file is_short_of
  master Info h = sym (eqb-true 0 s.application (all_of_facts _ h).0)
  master Dir h = sym (eqb-true 0 s.application (all_of_facts _ h).0)
  master (Biometrics n) h = false-true (all_of_facts _ h).1.0

  not-master : {A : Type 0} (r : Rule) → Memᴰ r rules → IsMeant (RecordFile r) → s.application ≡ 0 → A
  not-master r m h z = let l = (listed_regular r m).first in absurd (omega (arith, home s r m (Short x) h))

  found-master : (t : Transparent) → IsMeant (TransparentFile t) → master_by 0x01 0x1E x ≡ Some (TransparentFile t)
  unfolding master_by is_meant is_short_of
  found-master Info h = ap (master_by 0x01 0x1E) (eqb-true x 0x01 (all_of_facts _ h).1.0)
  found-master Dir h = ap (master_by 0x01 0x1E) (eqb-true x 0x1E (all_of_facts _ h).1.0)
  found-master (Biometrics n) h = false-true (all_of_facts _ h).1.0

  one-short : (f g : File) → Listed f → Listed g → IsMeant f → IsMeant g → f ≡ g
  one-short (RecordFile q) (RecordFile r) a b h k = let e = same-rule q r a b h k in cc
  one-short (RecordFile q) (TransparentFile t) a b h k = not-master q a h (master t k)
  one-short (TransparentFile t) (RecordFile r) a b h k = not-master r b k (master t h)
  one-short (TransparentFile t) (TransparentFile u) a b h k = let e = sym (found-master t h) ∙ found-master u k in cc

pub byte_means_one : (s : Session) (b : ℕ) (f g : File) → Listed f → Listed g → is_meant_by_byte s b f ≡ true → is_meant_by_byte s b g ≡ true → f ≡ g
byte_means_one s b f g m n h k = one-short s (search_short b) f g m n (sym (byte-meant s b f m) ∙ h) (sym (byte-meant s b g n) ∙ k)

-- ---- whatever name means a transparent file, step 7 looks for it as for its id

module _ (img : List ℕ) (s : Session) where
  abbrev pub by_its_id : Transparent → Result File ℕ
  by_its_id t = meant_by (by_id img s.application (transparent_id t))

  master-own : (x : ℕ) (t : Transparent) → is_meant s (Short x) (TransparentFile t) ≡ true → master_by 0x2F01 0x2F00 (transparent_id t) ≡ Some (TransparentFile t)
  unfolding master_by transparent_id is_meant is_short_of
  master-own x Info h = refl
  master-own x Dir h = refl
  master-own x (Biometrics n) h = false-true (all_of_facts _ h).1.0

  pub meant-by_id : (t : Transparent) (n : Named) → is_meant s n (TransparentFile t) ≡ true → file_meant img s n ≡ by_its_id t
  unfolding file_meant by_short by_id is_meant id_of is_current
  meant-by_id t (Short x) h = simp (eq-eqb s.application 0 (master s x t h)) (ap meant_by (found-master s x t h ∙ sym (master-own x t h)))
  meant-by_id t (Id i) h = ap (λ (j : ℕ). meant_by (by_id img s.application j)) (sym (eqb-true (transparent_id t) i (all_of_facts _ h).1.0))
  meant-by_id t Current h = at s.place (all_of_facts _ h).1.0
    where
      on : (i : ℕ) → eqb i (transparent_id t) ≡ true → meant_by (by_id img s.application i) ≡ by_its_id t
      on i c = ap (λ (j : ℕ). meant_by (by_id img s.application j)) (eqb-true i (transparent_id t) c)

      at : (p : Place) → is_current p (transparent_id t) ≡ true → meant_at img s.application p ≡ by_its_id t
      at Nowhere c = false-true c
      at (OnFile i) c = on i c
      at (OnRecord i n) c = on i c

-- a transparent file that the card has is found by its id

-- the one record file of biometrics has another id
no-rule : (i : ℕ) → 0x0200 ≤ i → rule_of (ById biometrics i) ≡ None
unfolding rule_of first_rule rules
no-rule i h = simp (ne_eqb 0x011A i (λ e. omega (arith, e)))

-- a well-formed card has no kind 0400 + n but those of biometrics files
numbered : (img : List ℕ) (n : ℕ) → well_formed img ≡ true → has img (biometrics_kind n) ≡ true → is_biometrics (biometrics_kind n) ≡ true
numbered img n o h =
    by_cases (is_biometrics (biometrics_kind n)) (λ b. b)
    (λ b. let x = kind_ok-ruled (biometrics_kind n) (body img (biometrics_kind n)) b (body-well_formed img (biometrics_kind n) o h) in
    let r = x.rule in
    let g = listed_regular r (rule-listed (ByKind (biometrics_kind n)) r x.ruled) in
    absurd (omega (arith, g.high, g.last, eqb-true r.kind (biometrics_kind n) (rule_key (ByKind (biometrics_kind n)) r x.ruled))))

module _ (img : List ℕ) (s : Session) (o : well_formed img ≡ true) where
  found-by-id : (t : Transparent) → eqb (application_of_file (TransparentFile t)) s.application ≡ true → is_there img (TransparentFile t) ≡ true
      → by_id img s.application (transparent_id t) ≡ Some (TransparentFile t)
  unfolding by_id master_by transparent_id application_of_file is_there is_biometrics biometrics_by_id
  found-by-id Info h k = simp (eq-eqb s.application 0 (sym (eqb-true 0 s.application h)))
  found-by-id Dir h k = simp (eq-eqb s.application 0 (sym (eqb-true 0 s.application h)))
  found-by-id (Biometrics n) h k =
      let a : s.application ≡ biometrics = sym (eqb-true biometrics s.application h) in
      let b = all_of_facts (leb 0x0401 (biometrics_kind n) ∷ leb (biometrics_kind n) 0x0440 ∷ []) (numbered img n o k) in
      let low = leb-true 0x0401 (biometrics_kind n) b.0 in
      let high = leb-true (biometrics_kind n) 0x0440 b.1.0 in
      let same : 0x0200 + n - 0x0200 ≡ n = omega arith in
      let i : ℕ = transparent_id (Biometrics n) in
      let tests : all_of (eqb biometrics biometrics ∷ leb 0x0201 i ∷ leb i 0x0240 ∷ has img (biometrics_kind n) ∷ []) ≡ true =
      all_of_accepted _ (refl, (le-leb 0x0201 i (omega arith), (le-leb i 0x0240 (omega arith), (k, tt)))) in
      simp (a, no-rule i (omega arith), same, tests)

  pub inspected_resolved : (t : Transparent) (n : Named) → Inspected img s n (TransparentFile t) → resolve_transparent img s n ≡ Ok t
  unfolding resolve_transparent is_meant may_inspect
  inspected_resolved t n i = rw (meant-by_id img s t n i.meant) (simp (found-by-id t (all_of_facts _ i.meant).0 i.there, i.right))

-- ---- P2 means one record file only

one-current : (p : Place) (i j : ℕ) → is_current p i ≡ true → is_current p j ≡ true → i ≡ j
unfolding is_current
one-current Nowhere i j a b = false-true a
one-current (OnFile k) i j a b = sym (eqb-true k i a) ∙ eqb-true k j b
one-current (OnRecord k n) i j a b = sym (eqb-true k i a) ∙ eqb-true k j b

one-meant : (s : Session) (x : ℕ) (q r : Rule) → Memᴰ q rules → Memᴰ r rules → is_meant_by_p2 s x (RecordFile q) ≡ true → is_meant_by_p2 s x (RecordFile r) ≡ true → Some q ≡ Some r
unfolding is_meant_by_p2 id_of
one-meant s x q r a b =
    by_cases (eqb x 0)
    (λ e. simp e (λ g h. let i = one-current s.place q.id r.id (goes s q a Current g) (goes s r b Current h) in
    sym (by_file_id s q a q.id (home s q a Current g) refl) ∙ ap (λ (y : ℕ). rule_of (ById s.application y)) i ∙ by_file_id s r b r.id (home s r b Current h) refl))
    (λ e. simp e (same-rule s x q r a b))

pub kind-meant : (s : Session) (x : ℕ) (r : Rule) → Memᴰ r rules → is_meant_by_p2 s x (RecordFile r) ≡ true → (k : ℕ) → is_meant_kind s x k ≡ eqb r.kind k
unfolding is_meant_kind
kind-meant s x r m h k =
    by_cases (eqb r.kind k)
    (λ e. ap (λ (j : ℕ). is_meant_row s x (rule_of (ByKind j))) (sym (eqb-true _ _ e)) ∙ ap (is_meant_row s x) (listed_regular r m).by_kind ∙ h ∙ sym e)
    (λ e. go (rule_of (ByKind k)) refl e ∙ sym e)
  where
    go : (y : Option Rule) → rule_of (ByKind k) ≡ y → eqb r.kind k ≡ false → is_meant_row s x y ≡ false
    go None e n = refl
    go (Some q) e n =
        by_cases (is_meant_by_p2 s x (RecordFile q))
        (λ t. let z : q ≡ r = (let y = one-meant s x q r (rule-listed (ByKind k) q e) m t h in cc) in
        false-true (sym n ∙ ap (λ (p : Rule). eqb p.kind k) (sym z) ∙ rule_key (ByKind k) q e))
        (λ t. t)
