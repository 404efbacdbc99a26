-- A chain as 1,029 bytes: its length (little-endian), INS, P1, P2, and 1,024 bytes. What it does not use is zero; a length of 0 means none.
use Rattle.std.specs.Prelude.{ℕ, zero, suc, ◌+◌, ◌-◌, ◌%◌, Bool, true, ◌&&◌, List, [], ◌∷◌, ◌++◌, length, get_or, replicate, leb, eqb}
use Rattle.base.specs.Choice.{if_else, all_of}
use Rattle.base.specs.Bytes.{part, put}
use Rattle.store_records.specs.Little.{le16, bytes16}
use Rattle.machine_apdu.specs.declared.Header.{Header}
use Rattle.machine_chain.specs.Chain.{Chain, NoChain, Links}

-- ---- written

-- the length, INS, P1, P2 [LK2]
unfoldable pub chain_head : ℕ → ℕ → ℕ → ℕ → List ℕ
chain_head n i p q = bytes16 n ++ (i % 256 ∷ p % 256 ∷ q % 256 ∷ [])

-- no chain [LK2]
unfoldable pub no_chain_bytes : List ℕ
no_chain_bytes = replicate 1029 0

-- [LK2]
abbrev pub chain_bytes : Chain → List ℕ
chain_bytes NoChain = no_chain_bytes
chain_bytes (Links i p q bs) = chain_head (length bs) i p q ++ (bs ++ replicate (1024 - length bs) 0)

-- ---- read

-- the n bytes from a on are zero [LK2]
unfoldable pub zero_run : List ℕ → ℕ → ℕ → Bool
zero_run xs a zero = true
zero_run xs a (suc n) = zero_run xs a n && eqb (get_or xs (a + n) 0) 0

-- what a chain does not use is zero [LK2]
unfoldable pub unused_zeros : List ℕ → ℕ → Bool
unused_zeros xs n = if_else (eqb n 0) (zero_run xs 2 1027) (zero_run xs (5 + n) (1024 - n))

-- bytes that are a chain [LK2]
unfoldable pub is_chain : List ℕ → Bool
is_chain xs = all_of (leb 1029 (length xs) ∷ leb (le16 xs 0) 1024 ∷ unused_zeros xs (le16 xs 0) ∷ [])

-- the chain that they are [LK2]
unfoldable pub chain_in : List ℕ → Chain
chain_in xs = if_else (eqb (le16 xs 0) 0) NoChain (Links (get_or xs 2 0) (get_or xs 3 0) (get_or xs 4 0) (part xs 5 (le16 xs 0)))

-- ---- a link behind it

-- the data d of a link behind the links so far, and then the new length and the header [LK5]
unfoldable pub join_into : List ℕ → Header → List ℕ → List ℕ
join_into xs h d = put (put xs (5 + le16 xs 0) d) 0 (chain_head (le16 xs 0 + length d) h.ins h.p1 h.p2)
