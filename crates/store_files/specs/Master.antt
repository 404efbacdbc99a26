-- The two files of the master file, EF.ATR/INFO and EF.DIR, and the AIDs that EF.DIR lists.
use Rattle.std.specs.Prelude.{ℕ, zero, suc, Bool, true, ◌&&◌, List, [], ◌∷◌, ◌++◌, length, get_or, eqb, Option, Some, None}
use Rattle.base.specs.Choice.{if_else, all_of}
use Rattle.store_image.specs.Image.{present}

-- EF.ATR/INFO, a constant [E1]
unfoldable pub info : List ℕ
info =
    0x47
    ∷ 0x03
    ∷ 0x86
    ∷ 0x01
    ∷ 0xE0
    ∷ 0x7F
    ∷ 0x66
    ∷ 0x08
    ∷ 0x02
    ∷ 0x02
    ∷ 0x04
    ∷ 0x00
    ∷ 0x02
    ∷ 0x02
    ∷ 0x08
    ∷ 0x02
    ∷ []

-- what the AIDs of the four applications begin with [E3]
unfoldable pub aid_prefix : List ℕ
aid_prefix = 0xA0 ∷ 0x00 ∷ 0x00 ∷ 0x02 ∷ 0x47 ∷ []

-- an AID: e_mrtd's ends with 10 01, that of application a with 20 and a [E3]
unfoldable pub aid : ℕ → ℕ → List ℕ
aid x y = aid_prefix ++ (x ∷ y ∷ [])

-- the first n bytes of the data are those of an AID [L2]
unfoldable pub agrees_to : List ℕ → ℕ → Bool
agrees_to d zero = true
agrees_to d (suc n) = agrees_to d n && eqb (get_or d n 0) (get_or aid_prefix n 0)

-- the application whose AID the data is [L2] [E3]
unfoldable pub aid_of : List ℕ → Option ℕ
aid_of d =
    if_else (all_of (eqb (length d) 7 ∷ agrees_to d 5 ∷ eqb (get_or d 5 0) 0x20 ∷ [])) (Some (get_or d 6 0)) None

-- an application's entry of EF.DIR: the template 61 with the AID in 4F [E4]
unfoldable pub entry : ℕ → ℕ → List ℕ
entry x y = 0x61 ∷ 0x09 ∷ 0x4F ∷ 0x07 ∷ aid x y

-- the entry of application a, if it is present [E2]
unfoldable pub entry_of : List ℕ → ℕ → List ℕ
entry_of img a = if_else (present img a) (entry 0x20 a) []

-- the entry of eMRTD, then of the first n applications [E2]
unfoldable pub entries : List ℕ → ℕ → List ℕ
entries img zero = entry 0x10 0x01
entries img (suc n) = entries img n ++ entry_of img (suc n)

-- EF.DIR: eMRTD, then travel, visa and biometrics where they are present [E2]
unfoldable pub dir : List ℕ → List ℕ
dir img = entries img 3
