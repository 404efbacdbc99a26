-- Laws of tests in order, and of the files that steps 7 to 9 answer: each stands in the image, is what its own id means, and is
-- permitted; where there is none, the status word is below 9000. Read specs/Resolve.antt before. Exports `in_order-each`, `Resolved`, and a
-- `…Ok` with its law for each of the four answers.
use Prim.Native.Nat.{ℕ}
use mathlib.Core.Path.{◌≡◌, refl}
use mathlib.Core.Bool.{Bool, true, false, not}
use mathlib.Core.List.{List, [], ◌∷◌}
use lib.Dec.{ltb}
use Rattle.base.proofs.Cases.{if_else_ind}
use Rattle.machine_rights.specs.Rights.{may_biometrics}
use Rattle.store_kinds.specs.declared.rules.Rule.{Rule}
use Rattle.store_files.specs.Files.{by_id, by_short, id_of}
use Rattle.store_files.specs.declared.Transparent.{Transparent}
use Rattle.store_files.specs.declared.Transparent.TheVariants.{Info, Dir, Biometrics}
use Rattle.store_files.specs.declared.File.{File}
use Rattle.store_files.specs.declared.File.TheVariants.{RecordFile, TransparentFile}
use Rattle.store_files.proofs.Meant.{FileOk, LookupOk, Own, by_id_well_formed, by_short-well_formed, by_id_own, by_short_own}
use Rattle.machine_session.specs.Order.{in_order}
use Rattle.machine_session.specs.Resolve.{meant_by, meant_at, file_meant, may_record, activated, may_read, may_inspect, record_by, resolve_record, transparent_by, resolve_transparent, writable, biometrics_by, resolve_biometrics, file_by, resolve_file}
use Rattle.machine_session.specs.declared.Place.{Place}
use Rattle.machine_session.specs.declared.Place.TheVariants.{Nowhere, OnFile, OnRecord}
use Rattle.machine_session.specs.declared.Session.{Session}
use Rattle.machine_session.specs.declared.Named.{Named}
use Rattle.machine_session.specs.declared.Named.TheVariants.{Current, Short, Id}
use Rattle.machine_session.specs.declared.Access.{Access}
use Rattle.std.specs.Prelude.{Option, Some, None, Result, Ok, Err}

-- ---- tests in order

-- each answer of a table has a property
abbrev pub Each : {A : Type 0} → (A → Type 0) → List (Bool × A) → Type 0
Each P [] = Unit {0}
Each P (c ∷ cs) = P c.1 × Each P cs

-- every test of a table holds
abbrev pub Passed : {A : Type 0} → List (Bool × A) → Type 0
Passed [] = Unit {0}
Passed (c ∷ cs) = (c.0 ≡ true) × Passed cs

-- what holds of each answer of a table, and of the last one where every test holds, holds of what the table gives
pub in_order-each : {A : Type 0} (P : A → Type 0) (cs : List (Bool × A)) (a : A) → Each P cs → (Passed cs → P a) → P (in_order cs a)
unfolding in_order
in_order-each P [] a e h = h tt
in_order-each P (c ∷ cs) a e h = if_else_ind P c.0 (λ t. in_order-each P cs a e.1 (λ p. h (t, p))) (λ t. e.0)

-- ---- the files

-- the file stands in the image and is what its own id means
pub record Resolved (img : List ℕ) (s : Session) (f : File) : Type 0 where
  pub ok : FileOk img f
  pub own : by_id img s.application (id_of f) ≡ Some f

abbrev pub MeantOk : List ℕ → Session → Result File ℕ → Type 0
MeantOk img s (Err w) = ltb w 0x9000 ≡ true
MeantOk img s (Ok f) = Resolved img s f

-- and the command may go on with it
pub record RecordResolved (img : List ℕ) (s : Session) (x : Access) (r : Rule) : Type 0 where
  pub file : Resolved img s (RecordFile r)
  pub allowed : may_record s x r ≡ true

pub record TransparentResolved (img : List ℕ) (s : Session) (t : Transparent) : Type 0 where
  pub file : Resolved img s (TransparentFile t)
  pub allowed : may_read img s t ≡ true

pub record BiometricsResolved (img : List ℕ) (s : Session) (n : ℕ) : Type 0 where
  pub file : Resolved img s (TransparentFile (Biometrics n))
  pub not-activated : not (activated img n) ≡ true
  pub allowed : may_biometrics s.rights n false ≡ true

pub record FileResolved (img : List ℕ) (s : Session) (f : File) : Type 0 where
  pub file : Resolved img s f
  pub allowed : may_inspect img s f ≡ true

abbrev pub RecordOk : List ℕ → Session → Access → Result Rule ℕ → Type 0
RecordOk img s x (Err w) = ltb w 0x9000 ≡ true
RecordOk img s x (Ok r) = RecordResolved img s x r

abbrev pub TransparentOk : List ℕ → Session → Result Transparent ℕ → Type 0
TransparentOk img s (Err w) = ltb w 0x9000 ≡ true
TransparentOk img s (Ok t) = TransparentResolved img s t

abbrev pub BiometricsOk : List ℕ → Session → Result ℕ ℕ → Type 0
BiometricsOk img s (Err w) = ltb w 0x9000 ≡ true
BiometricsOk img s (Ok n) = BiometricsResolved img s n

abbrev pub AnyOk : List ℕ → Session → Result File ℕ → Type 0
AnyOk img s (Err w) = ltb w 0x9000 ≡ true
AnyOk img s (Ok f) = FileResolved img s f

module _ (img : List ℕ) (s : Session) where
  -- step 7
  meant-well_formed : (l : Option File) → LookupOk img l → Own img s.application l → MeantOk img s (meant_by l)
  meant-well_formed (Some f) o w = record { ok = o; own = w }
  meant-well_formed None o w = refl

  id-well_formed : (i : ℕ) → MeantOk img s (meant_by (by_id img s.application i))
  id-well_formed i = meant-well_formed (by_id img s.application i) (by_id_well_formed img s.application i) (by_id_own img s.application i)

  pub file_meant-well_formed : (named : Named) → MeantOk img s (file_meant img s named)
  unfolding file_meant
  file_meant-well_formed Current = place s.place
    where
      place : (p : Place) → MeantOk img s (meant_at img s.application p)
      place Nowhere = refl
      place (OnFile i) = id-well_formed i
      place (OnRecord i n) = id-well_formed i
  file_meant-well_formed (Short x) =
      meant-well_formed (by_short img s.application x) (by_short-well_formed img s.application x) (by_short_own img s.application x)
  file_meant-well_formed (Id i) = id-well_formed i

  -- steps 8 and 9
  pub resolve_record-well_formed : (x : Access) (named : Named) → RecordOk img s x (resolve_record img s x named)
  unfolding resolve_record
  resolve_record-well_formed x named = go (file_meant img s named) (file_meant-well_formed named)
    where
      go : (m : Result File ℕ) → MeantOk img s m → RecordOk img s x (record_by s x m)
      go (Err w) o = o
      go (Ok (TransparentFile t)) o = refl
      go (Ok (RecordFile r)) o =
          if_else_ind (RecordOk img s x) (may_record s x r) (λ h. record { file = o; allowed = h }) (λ h. refl)

  pub resolve_transparent-well_formed : (named : Named) → TransparentOk img s (resolve_transparent img s named)
  unfolding resolve_transparent
  resolve_transparent-well_formed named = go (file_meant img s named) (file_meant-well_formed named)
    where
      go : (m : Result File ℕ) → MeantOk img s m → TransparentOk img s (transparent_by img s m)
      go (Err w) o = o
      go (Ok (RecordFile r)) o = refl
      go (Ok (TransparentFile t)) o =
          if_else_ind (TransparentOk img s) (may_read img s t) (λ h. record { file = o; allowed = h }) (λ h. refl)

  pub resolve_biometrics-well_formed : (named : Named) → BiometricsOk img s (resolve_biometrics img s named)
  unfolding resolve_biometrics
  resolve_biometrics-well_formed named = go (file_meant img s named) (file_meant-well_formed named)
    where
      of-transparent : (t : Transparent) → Resolved img s (TransparentFile t) → BiometricsOk img s (writable img s t)
      of-transparent Info o = unfold writable in refl
      of-transparent Dir o = unfold writable in refl
      of-transparent (Biometrics n) o =
          unfold writable in
          in_order-each (BiometricsOk img s) _ _ (refl, (refl, tt)) (λ p. record { file = o; not-activated = p.0; allowed = p.1.0 })

      go : (m : Result File ℕ) → MeantOk img s m → BiometricsOk img s (biometrics_by img s m)
      go (Err w) o = o
      go (Ok (RecordFile r)) o = refl
      go (Ok (TransparentFile t)) o = of-transparent t o

  pub resolve_file-well_formed : (named : Named) → AnyOk img s (resolve_file img s named)
  unfolding resolve_file
  resolve_file-well_formed named = go (file_meant img s named) (file_meant-well_formed named)
    where
      go : (m : Result File ℕ) → MeantOk img s m → AnyOk img s (file_by img s m)
      go (Err w) o = o
      go (Ok f) o = if_else_ind (AnyOk img s) (may_inspect img s f) (λ h. record { file = o; allowed = h }) (λ h. refl)
