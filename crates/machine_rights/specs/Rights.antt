-- The tests of a right.
use Rattle.std.specs.Prelude.{ℕ, ◌+◌, ◌-◌, ◌/◌, ◌%◌, ◌^◌, Bool, false, ◌&&◌, List, [], ◌∷◌, get_or, leb, eqb}
use Rattle.base.specs.Choice.{if_else, all_of}
use Rattle.machine_rights.specs.declared.Rights.{Rights}
use Rattle.machine_rights.specs.declared.RightBit.{RightBit}

-- bit b of a byte, b1 the lowest [V5]
unfoldable pub bit : ℕ → ℕ → Bool
bit x b = eqb (x / 2 ^ (b - 1) % 2) 1

-- the flag of an application is set: 1 is travel, 2 visa, 3 biometrics, each with the flag bit of its number [B2]
unfoldable pub flagged : Rights → ℕ → Bool
flagged r a = all_of (leb 1 a ∷ leb a 3 ∷ bit r.flags a ∷ [])

-- byte k of the 17, counted from 1 [B9]
unfoldable pub biometrics_byte : Rights → ℕ → ℕ
biometrics_byte r k = get_or r.biometrics (k - 1) 0

-- which bit of the travel or visa byte counts: b1 to read records, b2 to append them, b3 to read certificates, b4 to append them [B7]
unfoldable pub record_bit : Bool → Bool → ℕ
record_bit certificates append = if_else certificates (if_else append 4 3) (if_else append 2 1)

-- which bit of biometrics byte 1 counts: b1 to read certificates, b2 to append them [B8]
unfoldable pub certificate_bit : Bool → ℕ
certificate_bit append = if_else append 2 1

-- whether records of an application, or its certificates, may be read, or appended [B7] [B8]
unfoldable pub may_records : Rights → ℕ → Bool → Bool → Bool
may_records r a certificates append =
    if_else (eqb a 1) (bit r.travel (record_bit certificates append))
    (if_else (eqb a 2) (bit r.visa (record_bit certificates append))
    (if_else (eqb a 3) (certificates && bit (biometrics_byte r 1) (certificate_bit append))
    false))

-- Table 23, the four files of a byte in its order: for each its bit while Deactivated, then its bit while Activated [B9]
unfoldable pub file_bits : List (List ℕ)
file_bits =
    (8 ∷ 7 ∷ [])  -- Biometrics 1, 5, 9, …, 61
    ∷ (6 ∷ 5 ∷ [])  -- Biometrics 2, 6, 10, …, 62
    ∷ (4 ∷ 3 ∷ [])  -- Biometrics 3, 7, 11, …, 63
    ∷ (2 ∷ 1 ∷ [])  -- Biometrics 4, 8, 12, …, 64
    ∷ []

-- the bit that counts for Biometrics n in its state: byte 2 has files 1 to 4, byte 3 files 5 to 8, and so on to byte 17 [B9]
unfoldable pub biometrics_bit : ℕ → Bool → RightBit
biometrics_bit n activated =
    let row = get_or file_bits ((n - 1) % 4) [] in record { byte = 2 + (n - 1) / 4; bit = if_else activated (get_or row 1 0) (get_or row 0 0) }

-- Biometrics n may be used in its state [B9]
unfoldable pub may_biometrics : Rights → ℕ → Bool → Bool
may_biometrics r n activated =
    let b = biometrics_bit n activated in all_of (leb 1 n ∷ leb n 64 ∷ bit (biometrics_byte r b.byte) b.bit ∷ [])
