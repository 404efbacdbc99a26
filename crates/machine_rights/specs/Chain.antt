-- The effective rights of a chain of three certificates, and the cleared form.
use Rattle.std.specs.Prelude.{ℕ, ◌+◌, ◌*◌, ◌%◌, Bool, List, [], ◌∷◌, length, get_or, set, replicate, ltb, eqb}
use Rattle.std.specs.Int.Bits.{bit_and}
use Rattle.base.specs.Choice.{if_else, all_of}
use Rattle.base.specs.Bytes.{part, same_bytes}
use Rattle.machine_rights.specs.declared.Rights.{Rights}
use Rattle.machine_rights.specs.Rights.{bit}

-- certificate k of a chain, counted from 0: 20 bytes, which are flags, the travel byte, the visa byte and 17 biometrics bytes [B1]
unfoldable pub certificate : List ℕ → ℕ → Rights
certificate c k =
    record {
      flags = get_or c (20 * k) 0;
      travel = get_or c (20 * k + 1) 0;
      visa = get_or c (20 * k + 2) 0;
      biometrics = part c (20 * k + 3) 17;
    }

-- the bitwise and, element by element [B3]
unfoldable pub joined_bytes : List ℕ → List ℕ → List ℕ
joined_bytes [] ys = []
joined_bytes (x ∷ xs) [] = []
joined_bytes (x ∷ xs) (y ∷ ys) = bit_and x y ∷ joined_bytes xs ys

-- the bitwise and of two certificates, of their flags too [B3]
unfoldable pub joined : Rights → Rights → Rights
joined a b =
    record {
      flags = bit_and a.flags b.flags;
      travel = bit_and a.travel b.travel;
      visa = bit_and a.visa b.visa;
      biometrics = joined_bytes a.biometrics b.biometrics;
    }

-- the biometrics bytes in cleared form: b1 and b2 of byte 1 have a meaning, and every bit of the others; all are zero without the flag [B4]
unfoldable pub cleared_bytes : Bool → List ℕ → List ℕ
cleared_bytes flag x = if_else flag (set x 0 (get_or x 0 0 % 4)) (replicate 17 0)

-- the cleared form: b1 to b3 of the flags and b1 to b4 of the travel and visa byte have a meaning; without its flag a byte is zero [B4]
unfoldable pub cleared : Rights → Rights
cleared r =
    record {
      flags = r.flags % 8;
      travel = if_else (bit r.flags 1) (r.travel % 16) 0;
      visa = if_else (bit r.flags 2) (r.visa % 16) 0;
      biometrics = cleared_bytes (bit r.flags 3) r.biometrics;
    }

-- no flag and no right [B6]
unfoldable pub no_rights : Rights
no_rights = record { flags = 0; travel = 0; visa = 0; biometrics = replicate 17 0 }

-- the rights that the first 20 bytes hold, as a certificate does; none where there are fewer bytes [X1]
unfoldable pub held : List ℕ → Rights
held xs = if_else (ltb (length xs) 20) no_rights (certificate xs 0)

-- the effective rights of a chain: the bitwise and of its three certificates, cleared; none where it has not 60 bytes [B3] [B4] [B6]
unfoldable pub effective : List ℕ → Rights
effective c =
    if_else (eqb (length c) 60) (cleared (joined (joined (certificate c 0) (certificate c 1)) (certificate c 2))) no_rights

-- two sets of rights are the same [B5]
unfoldable pub same : Rights → Rights → Bool
same a b =
    all_of
    (eqb a.flags b.flags ∷ eqb a.travel b.travel ∷ eqb a.visa b.visa ∷ same_bytes a.biometrics b.biometrics ∷ [])

-- rights are in cleared form when clearing them changes nothing [B5]
unfoldable pub is_cleared : Rights → Bool
is_cleared r = same (cleared r) r
