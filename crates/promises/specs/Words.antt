-- The status words, written out: the promises do not take them from the machine.
use Rattle.std.specs.Prelude.{ℕ, List, [], ◌∷◌}

-- 9000; 6282, by which a search tells that none matches; then those of steps 1 to 9 in their order,
-- and those that step 10 has of its own; then 6883 [O12]
unfoldable pub words : List ℕ
words =
    0x9000
    ∷ 0x6282
    ∷ 0x6700
    ∷ 0x6E00
    ∷ 0x6D00
    ∷ 0x6A86
    ∷ 0x6A80
    ∷ 0x6986
    ∷ 0x6A82
    ∷ 0x6981
    ∷ 0x6982
    ∷ 0x6B00
    ∷ 0x6A83
    ∷ 0x6A84
    ∷ 0x6883
    ∷ []
