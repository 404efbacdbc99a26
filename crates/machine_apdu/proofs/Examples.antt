-- Commands of the card to try, and the longest data, computed: theorems that a reader can check by eye. Read before: specs/Shape.antt.
use Prim.Native.Nat.{ℕ}
use mathlib.Core.Path.{◌≡◌, refl}
use mathlib.Core.List.{[], ◌∷◌, ◌++◌}
use lib.ListN.{replicate}
use Rattle.machine_apdu.specs.Shape.{be16_at, or_most, header_of, framed, first_shape, shapes, shape_of}
use Rattle.std.specs.Prelude.{Option, Some, None}
use Rattle.machine_apdu.specs.declared.Frame.{Frame}

good : ℕ → ℕ → ℕ → ℕ → ℕ → ℕ → ℕ → ℕ → Option Frame
good cla ins p1 p2 from lc le ne =
    Some (record { header = record { cla = cla; ins = ins; p1 = p1; p2 = p2 }; from = from; lc = lc; le = le; ne = ne })

-- ACTIVATE: case 1
activate : shape_of (0x00 ∷ 0x44 ∷ 0x00 ∷ 0x00 ∷ []) ≡ good 0 0x44 0 0 4 0 0 0
unfolding good be16_at or_most header_of framed first_shape shapes shape_of
activate = refl

-- m10: case 2 short, Le 00
m10 : shape_of (0x00 ∷ 0xB2 ∷ 0x01 ∷ 0x04 ∷ 0x00 ∷ []) ≡ good 0 0xB2 1 4 4 0 1 256
unfolding good be16_at or_most header_of framed first_shape shapes shape_of
m10 = refl

-- m4: case 2 extended, Le 0000
m4 : shape_of (0x00 ∷ 0xB2 ∷ 0x01 ∷ 0x05 ∷ 0x00 ∷ 0x00 ∷ 0x00 ∷ []) ≡ good 0 0xB2 1 5 4 0 2 65536
unfolding good be16_at or_most header_of framed first_shape shapes shape_of
m4 = refl

-- m8: case 4 short
m8 : shape_of (0x80 ∷ 0x5E ∷ 0x01 ∷ 0x07 ∷ 0x04 ∷ 0x51 ∷ 0x02 ∷ 0x01 ∷ 0x01 ∷ 0x00 ∷ []) ≡ good 0x80 0x5E 1 7 5 4 1 256
unfolding good be16_at or_most header_of framed first_shape shapes shape_of
m8 = refl

-- case 3 extended with 1,024 bytes of data, and with 1,025
full : shape_of ((0x00 ∷ 0xE2 ∷ 0x00 ∷ 0x08 ∷ 0x00 ∷ 0x04 ∷ 0x00 ∷ []) ++ replicate 1024 0) ≡ good 0 0xE2 0 8 7 1024 0 0
unfolding good be16_at or_most header_of framed first_shape shapes shape_of
full = refl

over : shape_of ((0x00 ∷ 0xE2 ∷ 0x00 ∷ 0x08 ∷ 0x00 ∷ 0x04 ∷ 0x01 ∷ []) ++ replicate 1025 0) ≡ None
unfolding be16_at or_most header_of framed first_shape shapes shape_of
over = refl
