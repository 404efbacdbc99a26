-- Tests of step 5 that several commands share, and how a command goes on with the file that steps 7 to 9 answer.
use Rattle.std.specs.Prelude.{ℕ, ◌+◌, ◌*◌, ◌%◌, Bool, List, [], ◌∷◌, get_or, leb, eqb, Result, Ok, Err}
use Rattle.base.specs.Choice.{if_else, all_of}
use Rattle.machine_apdu.specs.declared.Frame.{Frame}
use Rattle.store_kinds.specs.declared.rules.Rule.{Rule}
use Rattle.store_files.specs.declared.Transparent.{Transparent}
use Rattle.store_files.specs.declared.File.{File}
use Rattle.machine_session.specs.declared.Named.{Named}
use Rattle.machine_session.specs.declared.Named.TheVariants.{Current, Short, Id}
use Rattle.machine_action.specs.declared.Action.{Action}

-- Lc, no Le [O5]
unfoldable pub lc_only : Frame → Bool
lc_only f = all_of (leb 1 f.lc ∷ eqb f.le 0 ∷ [])

-- no Lc, Le [O5]
unfoldable pub le_only : Frame → Bool
le_only f = all_of (eqb f.lc 0 ∷ leb 1 f.le ∷ [])

-- Lc and Le [O5]
unfoldable pub lc_and_le : Frame → Bool
lc_and_le f = all_of (leb 1 f.lc ∷ leb 1 f.le ∷ [])

-- neither Lc nor Le [O5]
unfoldable pub neither : Frame → Bool
neither f = all_of (eqb f.lc 0 ∷ eqb f.le 0 ∷ [])

-- an Le of zeros asks for all: 256 bytes where it is short, 65,536 where it is extended [O5] [Q1] [Z1]
unfoldable pub all_le : Frame → Bool
all_le f = if_else (eqb f.le 1) (eqb f.ne 256) (all_of (eqb f.le 2 ∷ eqb f.ne 65536 ∷ []))

-- two bytes as one number, the first the higher [V7]
unfoldable pub be16 : ℕ → ℕ → ℕ
be16 high low = high % 256 * 256 + low % 256

-- P1-P2 as one number [V7]
abbrev pub p1p2 : Frame → ℕ
p1p2 f = be16 f.header.p1 f.header.p2

-- short id 0 in P2 is the current file [F4]
unfoldable pub or_current : ℕ → Named
or_current x = if_else (eqb x 0) Current (Short x)

-- P1-P2 is the file's id; 0000 is the current file [W1] [Y7]
unfoldable pub id_or_current : ℕ → Named
id_or_current i = if_else (eqb i 0) Current (Id i)

-- two bytes as an id [V7]
abbrev pub id_in : List ℕ → ℕ
id_in v = be16 (get_or v 0 0) (get_or v 1 0)

-- steps 7 to 9 stop with a status word, or the command goes on with the file [O7] [O8] [O9] [O11]
abbrev pub on_record : Result Rule ℕ → (Rule → Result Action ℕ) → Result Action ℕ
on_record (Err w) go = Err w
on_record (Ok r) go = go r

-- [O7] [O8] [O9] [O11]
abbrev pub on_transparent : Result Transparent ℕ → (Transparent → Result Action ℕ) → Result Action ℕ
on_transparent (Err w) go = Err w
on_transparent (Ok t) go = go t

-- [O7] [O8] [O9] [O11]
abbrev pub on_biometrics : Result ℕ ℕ → (ℕ → Result Action ℕ) → Result Action ℕ
on_biometrics (Err w) go = Err w
on_biometrics (Ok n) go = go n

-- [O7] [O9] [O11]
abbrev pub on_file : Result File ℕ → (File → Result Action ℕ) → Result Action ℕ
on_file (Err w) go = Err w
on_file (Ok f) go = go f
