-- The rights of three certificates, read from their extensions: what the result of `malquindo_rights` and its buffer tell, and what an opening
-- with that buffer then may. Each promise is a type; the theorem of the same name is in ../proofs/Promises.antt. Read before:
-- specs/Extensions.antt and Faults.antt of objects_extensions, Linked.antt.
use Rattle.std.specs.Prelude.{ℕ, ◌*◌, ◌≤◌, ◌<◌, ◌≡◌, Bool, false, ◌⊎◌, List, [], ◌∷◌, ◌++◌, length, take, drop, replicate}
use Rattle.base.specs.Bytes.{AllBytes}
use Rattle.objects_extensions.specs.declared.Known.TheVariants.{Travel, Visa, Biometrics}
use Rattle.objects_extensions.specs.declared.ExtensionFault.TheVariants.{Malformed, Twice}
use Rattle.objects_extensions.specs.Extensions.{Extension, has_for, rights_for, certificate_data, RunsOf}
use Rattle.objects_extensions.specs.Faults.{ChainFault}
use Rattle.objects_extensions.specs.Read.{read_rights, read_rights_into}
use Rattle.machine_rights.specs.Rights.{flagged, may_records, may_biometrics}
use Rattle.machine_rights.specs.Chain.{certificate}
use Rattle.machine_rights.specs.declared.Rights.{Rights}
use Rattle.machine_session_bytes.specs.Layout.{session_in}
use Rattle.malquindo.specs.Face.{rights_result, open_session}
use Rattle.promises.specs.Linked.{refusal_in}

-- what reading the runs f, s and t tells: the result r, and the buffer `new` that was buf [CE6] [CE7] [CE8] [CE9] [CE10] [X15]
pub record RightsC (f s t buf : List ℕ) (r : ℕ) (new : List ℕ) : Type 0 where
  -- 1 exactly where the buffer has fewer than 60 bytes, and it then stays
  pub short_complete : length buf < 60 → r ≡ 1 * 4294967296
  pub short_sound : refusal_in r ≡ 1 → length buf < 60
  pub short_kept : length buf < 60 → new ≡ buf
  -- 0 exactly where each run is the bytes of extensions without a fault
  pub runs_complete : 60 ≤ length buf → (a b c : List Extension) → RunsOf a b c f s t → r ≡ 0
  pub runs_sound : r ≡ 0 → (a : List Extension) × (b : List Extension) × (c : List Extension) × RunsOf a b c f s t
  -- and then the buffer has the certificates that these give
  pub given : r ≡ 0 → (a b c : List Extension) → RunsOf a b c f s t → take 60 new ≡ certificate_data a ++ (certificate_data b ++ certificate_data c)
  -- else the number is that of the first fault, and whatever is the first fault is what is told
  pub malformed_complete : 60 ≤ length buf → ChainFault f s t Malformed → r ≡ 7 * 4294967296
  pub twice_complete : 60 ≤ length buf → ChainFault f s t Twice → r ≡ 8 * 4294967296
  pub fault_sound : 60 ≤ length buf → 1 ≤ r → ((refusal_in r ≡ 7) × ChainFault f s t Malformed) ⊎ ((refusal_in r ≡ 8) × ChainFault f s t Twice)
  -- and the buffer has 60 zeros
  pub fault_zeros : 60 ≤ length buf → 1 ≤ r → take 60 new ≡ replicate 60 0
  pub rest_kept : drop 60 new ≡ drop 60 buf
  pub size_kept : length new ≡ length buf

-- [X15]
abbrev pub CRights : Type 0
CRights =
    (f s t buf : List ℕ) → AllBytes f → AllBytes s → AllBytes t → RightsC f s t buf (rights_result (read_rights f s t buf)) (read_rights_into f s t buf)

-- ---- what an opening makes of it

-- the rights r of a certificate, as an opening reads them, are those that its extensions give [CE5] [B1] [B2]
pub record CertificateFor (es : List Extension) (r : Rights) : Type 0 where
  pub travel_flag : flagged r 1 ≡ has_for Travel es
  pub visa_flag : flagged r 2 ≡ has_for Visa es
  pub biometrics_flag : flagged r 3 ≡ has_for Biometrics es
  pub travel_rights : r.travel ∷ [] ≡ rights_for Travel es
  pub visa_rights : r.visa ∷ [] ≡ rights_for Visa es
  pub biometrics_rights : r.biometrics ≡ rights_for Biometrics es

-- the three certificates that an opening reads are those of the three runs, in their order [CE7] [X15]
abbrev pub CRightsRead : Type 0
CRightsRead =
    (f s t buf : List ℕ) (a b c : List Extension)
    → 60 ≤ length buf
    → RunsOf a b c f s t
    → CertificateFor a (certificate (take 60 (read_rights_into f s t buf)) 0)
    × CertificateFor b (certificate (take 60 (read_rights_into f s t buf)) 1)
    × CertificateFor c (certificate (take 60 (read_rights_into f s t buf)) 2)

-- rights that allow nothing: no application may be selected, no record read or appended, no biometrics file read or written [B6] [CE9]
pub record NoRight (r : Rights) : Type 0 where
  pub applications : (a : ℕ) → flagged r a ≡ false
  pub records : (a : ℕ) (certificates append : Bool) → may_records r a certificates append ≡ false
  pub biometrics : (n : ℕ) (activated : Bool) → may_biometrics r n activated ≡ false

-- a session that is opened with what a refusal gives: all its bytes are zero, which is the master file and no right [CE9] [X15]
pub record OpenedRefused (ses : List ℕ) : Type 0 where
  pub zero : take 1054 ses ≡ replicate 1054 0
  pub no_right : NoRight (session_in ses).rights

-- [CE9] [X15]
abbrev pub CRightsRefused : Type 0
CRightsRefused =
    (f s t buf ses : List ℕ)
    → 1 ≤ rights_result (read_rights f s t buf)
    → 1054 ≤ length ses
    → OpenedRefused (open_session (take 60 (read_rights_into f s t buf)) ses)
