-- What a link comes to, and which chains links can have left. A command that is no link, with no chain before it, is not looked at here.
use Rattle.std.specs.Prelude.{ℕ, ◌+◌, ◌-◌, ◌/◌, ◌%◌, Bool, true, ◌||◌, List, [], ◌∷◌, length, leb, eqb, Result, Ok, Err}
use Rattle.base.specs.Choice.{if_else, all_of}
use Rattle.machine_apdu.specs.Status.{normal, wrong_length, wrong_class, wrong_instruction, wrong_parameters, other_header}
use Rattle.machine_apdu.specs.declared.Header.{Header}
use Rattle.machine_apdu.specs.declared.Frame.{Frame}
use Rattle.machine_session.specs.Order.{in_order}
use Rattle.machine_action.specs.Tests.{lc_only}
use Rattle.machine_chain.specs.Chain.{Chain, NoChain, Links, is_amid, so_far, goes_on}
use Rattle.machine_chain.specs.Layout.{is_chain, chain_in}
use Rattle.machine_link.specs.declared.Course.{Course}
use Rattle.machine_link.specs.declared.Course.TheVariants.{Extends, Goes}
use Rattle.machine_link.specs.Parameters.{parameters_fit}

-- CLA b5 marks every link but the last [LK4]
unfoldable pub is_link : Header → Bool
is_link h = eqb (h.cla / 16 % 2) 1

-- CLA without b5 makes the pair with INS [LK4]
unfoldable pub class_of : Header → ℕ
class_of h = if_else (is_link h) (h.cla - 16) h.cla

-- CLA 80 has 5E, CLA 00 the others [O3]
unfoldable pub is_command : ℕ → ℕ → Bool
is_command class ins =
    if_else (eqb class 0x80) (eqb ins 0x5E)
    (eqb ins 0xA4 || (eqb ins 0xB0 || (eqb ins 0xB1 || (eqb ins 0xD7 || (eqb ins 0x44 || (eqb ins 0xE2 || (eqb ins 0xB2 || eqb ins 0xA2)))))))

-- steps 2 and 3, and then 6883 where the chain has another header [LK3] [O2] [O3]
unfoldable pub head_status : Chain → Header → ℕ
head_status ch h =
    in_order
    ((eqb (class_of h) 0x00 || eqb (class_of h) 0x80, wrong_class)
    ∷ (is_command (class_of h) h.ins, wrong_instruction)
    ∷ (goes_on ch h, other_header)
    ∷ [])
    normal

-- what a test answers whose status word is w: nothing stops the command where that is 9000 [LK3]
abbrev pub passed : ℕ → Result (Unit {0}) ℕ
passed w = if_else (eqb w normal) (Ok tt) (Err w)

-- the join has at most 1,024 bytes [LK5] [LK6]
unfoldable pub join_fits : Chain → Frame → Bool
join_fits ch f = leb (length (so_far ch) + f.lc) 1024

-- a link but the last: behind steps 2 to 4 it has data, no Le, and room [LK5]
unfoldable pub link_turn : Chain → Frame → Result Course ℕ
link_turn ch f =
    in_order
    ((eqb (head_status ch f.header) normal, Err (head_status ch f.header))
    -- step 4
    ∷ (parameters_fit f.header.ins f.header.p1 f.header.p2, Err wrong_parameters)
    ∷ (lc_only f, Err wrong_length)
    ∷ (join_fits ch f, Err wrong_length)
    ∷ [])
    (Ok Extends)

-- the last link of a chain: its P1 and P2 are the chain's, so step 4 holds; at step 5 the join has to fit [LK6]
unfoldable pub last_turn : Chain → Frame → Result Course ℕ
last_turn ch f =
    in_order
    ((eqb (head_status ch f.header) normal, Err (head_status ch f.header))
    ∷ (join_fits ch f, Err wrong_length)
    ∷ [])
    (Ok Goes)

-- without a chain a command that is no link stands for itself [LK4]
unfoldable pub turn : Chain → Frame → Result Course ℕ
turn ch f = if_else (is_link f.header) (link_turn ch f) (if_else (is_amid ch) (last_turn ch f) (Ok Goes))

-- ---- which chains links can have left

-- 1 to 1,024 bytes, the INS of a command, P1 and P2 that step 4 takes [LK7]
abbrev pub chain_fits : Chain → Bool
chain_fits NoChain = true
chain_fits (Links i p q bs) = all_of (leb 1 (length bs) ∷ leb (length bs) 1024 ∷ parameters_fit i p q ∷ [])

-- bytes that are such a chain [LK2] [LK7]
unfoldable pub lent_fits : List ℕ → Bool
lent_fits xs = all_of (is_chain xs ∷ chain_fits (chain_in xs) ∷ [])
