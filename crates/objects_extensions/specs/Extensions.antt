-- Certificate extensions, their bytes, and the rights that they give a certificate. Nothing here knows of a reader.
use Rattle.std.specs.Prelude.{ℕ, ◌+◌, ◌<◌, ◌≡◌, Bool, true, false, List, [], ◌∷◌, ◌++◌, length, replicate}
use Rattle.base.specs.Choice.{if_else}
use Rattle.base.specs.Bytes.{same_bytes}
use Rattle.objects_writer.specs.Writing.{tlv}
use Rattle.objects_extensions.specs.declared.Known.{Known}
use Rattle.objects_extensions.specs.declared.Known.TheVariants.{Travel, Visa, Biometrics}

-- ---- extensions and their bytes

-- an extension: its identifier and its rights [CE1]
pub record Extension : Type 0 where
  pub identifier : List ℕ
  pub rights : List ℕ

-- the two objects that stand in the object `73` [CE1]
unfoldable pub extension_value : Extension → List ℕ
extension_value e = tlv 0x06 e.identifier ++ tlv 0x53 e.rights

-- the bytes of an extension [CE1]
unfoldable pub extension_data : Extension → List ℕ
extension_data e = tlv 0x73 (extension_value e)

-- the value of `73` has at most 65,535 bytes, the most that a length can say [CE1] [D2]
unfoldable pub Sayable : Extension → Type 0
Sayable e = length (extension_value e) < 65536

-- extensions one behind the other [CE2]
unfoldable pub run_data : List Extension → List ℕ
run_data [] = []
run_data (e ∷ es) = extension_data e ++ run_data es

-- ---- what is known

-- the value bytes of `06` [CE3]
abbrev pub identifier_of : Known → List ℕ
identifier_of Travel = 0x67 ∷ 0x81 ∷ 0x08 ∷ 0x01 ∷ 0x01 ∷ 0x09 ∷ 0x01 ∷ 0x03 ∷ []
identifier_of Visa = 0x67 ∷ 0x81 ∷ 0x08 ∷ 0x01 ∷ 0x01 ∷ 0x09 ∷ 0x02 ∷ 0x03 ∷ []
identifier_of Biometrics = 0x67 ∷ 0x81 ∷ 0x08 ∷ 0x01 ∷ 0x01 ∷ 0x09 ∷ 0x03 ∷ 0x03 ∷ []

-- how many bytes the rights have [CE4]
abbrev pub size_of : Known → ℕ
size_of Travel = 1
size_of Visa = 1
size_of Biometrics = 17

-- the value of its flag: b1, b2, b3 [CE5] [B2] [C2]
abbrev pub flag_of : Known → ℕ
flag_of Travel = 1
flag_of Visa = 2
flag_of Biometrics = 4

-- the extension has this identifier [CE3]
abbrev pub is_for : Known → Extension → Bool
is_for k e = same_bytes e.identifier (identifier_of k)

-- ---- what extensions give

-- one of them has this identifier [CE5]
unfoldable pub has_for : Known → List Extension → Bool
has_for k [] = false
has_for k (e ∷ es) = if_else (is_for k e) true (has_for k es)

-- the rights of the one that has it; zeros where none has [CE5]
unfoldable pub rights_for : Known → List Extension → List ℕ
rights_for k [] = replicate (size_of k) 0
rights_for k (e ∷ es) = if_else (is_for k e) e.rights (rights_for k es)

-- its flag where one has it, else 0 [CE5]
abbrev pub flag_for : Known → List Extension → ℕ
flag_for k es = if_else (has_for k es) (flag_of k) 0

-- the 20 bytes of a certificate with these extensions: flags, travel byte, visa byte, 17 bytes of biometrics [CE5] [B1]
unfoldable pub certificate_data : List Extension → List ℕ
certificate_data es =
    (flag_for Travel es + flag_for Visa es + flag_for Biometrics es) ∷ (rights_for Travel es ++ (rights_for Visa es ++ rights_for Biometrics es))

-- ---- extensions without a fault

-- where it is known, its rights have the right size [CE4]
abbrev pub RightSize : Extension → Type 0
RightSize e = (k : Known) → is_for k e ≡ true → length e.rights ≡ size_of k

-- where it is known, none of those before it has its identifier [CE6]
abbrev pub FirstTime : List Extension → Extension → Type 0
FirstTime before e = (k : Known) → is_for k e ≡ true → has_for k before ≡ false

-- each of es is without a fault behind those before it: a length can say it, and where it is known its rights have their size and it is not
-- there already [CE6]
unfoldable pub FaultFree : List Extension → List Extension → Type 0
FaultFree before [] = Unit {0}
FaultFree before (e ∷ es) = Sayable e × RightSize e × FirstTime before e × FaultFree (before ++ (e ∷ [])) es

-- the bytes s are a run of these extensions, and none of them has a fault [CE2] [CE6]
pub record RunOf (es : List Extension) (s : List ℕ) : Type 0 where
  pub fault_free : FaultFree [] es
  pub written : s ≡ run_data es

-- three such runs [CE7]
pub record RunsOf (a b c : List Extension) (first second third : List ℕ) : Type 0 where
  pub is_first : RunOf a first
  pub is_second : RunOf b second
  pub is_third : RunOf c third
