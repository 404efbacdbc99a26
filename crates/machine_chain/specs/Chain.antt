-- The chain of a session: the links of a command so far.
use Rattle.std.specs.Prelude.{ℕ, Bool, true, false, List, [], ◌∷◌, ◌++◌, eqb}
use Rattle.base.specs.Choice.{all_of}
use Rattle.machine_apdu.specs.declared.Header.{Header}

-- none, or INS, P1, P2 and the bytes of the links so far [LK1]
pub data Chain : Type 0 where
  NoChain : Chain
  Links : ℕ → ℕ → ℕ → List ℕ → Chain

-- [LK1]
abbrev pub is_amid : Chain → Bool
is_amid NoChain = false
is_amid (Links i p q bs) = true

-- the bytes of the links so far [LK1]
abbrev pub so_far : Chain → List ℕ
so_far NoChain = []
so_far (Links i p q bs) = bs

-- a command goes on with a chain that has its INS, P1 and P2 [LK3]
abbrev pub goes_on : Chain → Header → Bool
goes_on NoChain h = true
goes_on (Links i p q bs) h = all_of (eqb i h.ins ∷ eqb p h.p1 ∷ eqb q h.p2 ∷ [])

-- the chain behind a link with this header and this data [LK5]
abbrev pub extended : Chain → Header → List ℕ → Chain
extended ch h d = Links h.ins h.p1 h.p2 (so_far ch ++ d)
