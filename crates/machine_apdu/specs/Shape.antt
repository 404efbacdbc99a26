-- The shape of a command: which of ISO's seven it has, where its data stands, what its Le asks for. `shapes` is the table; a command that
-- has none of them is `Bad`, which is 6700.
--
-- `le` says how many bytes say Le: 0 there is none, 1 it is short, 2 it is extended. Ne is 0 without Le.
use Rattle.std.specs.Prelude.{ℕ, ◌+◌, ◌*◌, Bool, ◌&&◌, List, [], ◌∷◌, length, get_or, ltb, leb, eqb, Option, Some, None}
use Rattle.base.specs.Choice.{if_else}
use Rattle.machine_apdu.specs.declared.Header.{Header}
use Rattle.machine_apdu.specs.declared.Frame.{Frame}

-- the two bytes at i, the first the higher [V7]
unfoldable pub be16_at : List ℕ → ℕ → ℕ
be16_at c i = get_or c i 0 * 256 + get_or c (i + 1) 0

-- Ne: 0 stands for the most that an Le can ask for [H4]
unfoldable pub or_most : ℕ → ℕ → ℕ
or_most n most = if_else (eqb n 0) most n

-- CLA INS P1 P2 [H1]
unfoldable pub header_of : List ℕ → Header
header_of c = record { cla = get_or c 0 0; ins = get_or c 1 0; p1 = get_or c 2 0; p2 = get_or c 3 0 }

-- a command whose data is the lc bytes from `from` on, with an Le of le bytes that asks for ne [H2] [H4]
unfoldable pub framed : List ℕ → ℕ → ℕ → ℕ → ℕ → Option Frame
framed c from lc le ne = Some (record { header = header_of c; from = from; lc = lc; le = le; ne = ne })

-- the frame of the first row whose test holds [H2]
unfoldable pub first_shape : List (Bool × Option Frame) → Option Frame
first_shape [] = None
first_shape (row ∷ rows) = if_else row.0 row.1 (first_shape rows)

-- the seven shapes of a command of n bytes, b the byte behind its header and w the two behind that; a short Lc is 1 to 255 and an
-- extended Lc 1 to 65,535 [H2] [H3]
unfoldable pub shapes : List ℕ → ℕ → ℕ → ℕ → List (Bool × Option Frame)
shapes c n b w =
    -- case 1: the header
    (eqb n 4, framed c 4 0 0 0)
    -- case 2 short: Le
    ∷ (eqb n 5, framed c 4 0 1 (or_most b 256))
    -- case 3 short: Lc data
    ∷ (ltb 0 b && eqb n (5 + b), framed c 5 b 0 0)
    -- case 4 short: Lc data Le
    ∷ (ltb 0 b && eqb n (6 + b), framed c 5 b 1 (or_most (get_or c (5 + b) 0) 256))
    -- case 2 extended: 00 Le Le
    ∷ (eqb b 0 && eqb n 7, framed c 4 0 2 (or_most w 65536))
    -- case 3 extended: 00 Lc Lc data
    ∷ (eqb b 0 && (ltb 0 w && eqb n (7 + w)), framed c 7 w 0 0)
    -- case 4 extended: 00 Lc Lc data Le Le
    ∷ (eqb b 0 && (ltb 0 w && eqb n (9 + w)), framed c 7 w 2 (or_most (be16_at c (7 + w)) 65536))
    ∷ []

-- data of more than `most` bytes is refused [H5]
abbrev pub up_to : ℕ → Option Frame → Option Frame
up_to most None = None
up_to most (Some f) = if_else (leb f.lc most) (Some f) None

-- the shape of a command, whose data has at most 1,024 bytes [H2] [H5]
unfoldable pub shape_of : List ℕ → Option Frame
shape_of c = up_to 1024 (first_shape (shapes c (length c) (get_or c 4 0) (be16_at c 5)))
