-- What was stored of some bytes, where those are a transparent file's. Read specs/Files.antt before. Exports `stored`.
use Prim.Native.Nat.{ℕ}
use mathlib.Core.Path.{◌≡◌}
use mathlib.Core.Bool.{Bool}
use mathlib.Core.List.{List}
use Rattle.base.specs.Bytes.{part, put_fits, put}
use Rattle.store_files.specs.Files.{file_bytes}
use Rattle.store_files.specs.declared.Transparent.{Transparent}

pub stored : (img out last : List ℕ) (f g : Transparent) (offset n at : ℕ) (r : Bool) (b : List ℕ) → f ≡ g → b ≡ part (file_bytes img g) offset n
    → (r ≡ put_fits out at b) × (last ≡ put out at b) → (r ≡ put_fits out at (part (file_bytes img f) offset n)) × (last ≡ put out at (part (file_bytes img f) offset n))
stored img out last f g offset n at r b e q h = rw (e, ← q) h
