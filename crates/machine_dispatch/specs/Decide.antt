-- Steps 1 to 3, and then the command; what stands before it in a chain, and the chain behind it.
use Rattle.std.specs.Prelude.{ℕ, ◌+◌, List, [], ◌++◌, length, eqb, Option, Some, None, Result, Err, Ok}
use Rattle.base.specs.Choice.{if_else}
use Rattle.base.specs.Bytes.{part}
use Rattle.machine_apdu.specs.Status.{normal, wrong_length, wrong_class, wrong_instruction}
use Rattle.machine_apdu.specs.Shape.{shape_of}
use Rattle.machine_apdu.specs.declared.Frame.{Frame}
use Rattle.machine_session.specs.declared.Session.{Session}
use Rattle.machine_chain.specs.Chain.{Chain, NoChain, so_far, extended}
use Rattle.machine_link.specs.Link.{turn}
use Rattle.machine_link.specs.declared.Course.{Course}
use Rattle.machine_link.specs.declared.Course.TheVariants.{Extends, Goes}
use Rattle.machine_select.specs.Select.{select}
use Rattle.machine_binary.specs.ReadBinary.{read_binary}
use Rattle.machine_binary.specs.ReadBinaryOdd.{read_binary_odd}
use Rattle.machine_binary.specs.UpdateBinary.{update_binary}
use Rattle.machine_binary.specs.Activate.{activate_file}
use Rattle.machine_record.specs.AppendRecord.{append_record}
use Rattle.machine_record.specs.ReadRecord.{read_record}
use Rattle.machine_record.specs.SearchRecord.{search_record}
use Rattle.machine_select.specs.Fmm.{fmm}
use Rattle.machine_action.specs.declared.Action.{Action}

-- step 3, for CLA 00 and for CLA 80 [V1] [O3]
unfoldable pub by_ins : List ℕ → Session → Frame → List ℕ → Result Action ℕ
by_ins img s f d =
    if_else (eqb f.header.ins 0xA4) (select img s f d)
    (if_else (eqb f.header.ins 0xB0) (read_binary img s f)
    (if_else (eqb f.header.ins 0xB1) (read_binary_odd img s f d)
    (if_else (eqb f.header.ins 0xD7) (update_binary img s f d)
    (if_else (eqb f.header.ins 0x44) (activate_file img s f)
    (if_else (eqb f.header.ins 0xE2) (append_record img s f d)
    (if_else (eqb f.header.ins 0xB2) (read_record img s f)
    (if_else (eqb f.header.ins 0xA2) (search_record img s f d)
    (Err wrong_instruction))))))))

-- [V1] [O3]
unfoldable pub by_own_ins : List ℕ → Session → Frame → List ℕ → Result Action ℕ
by_own_ins img s f d = if_else (eqb f.header.ins 0x5E) (fmm img s f d) (Err wrong_instruction)

-- step 2 [O2]
unfoldable pub by_class : List ℕ → Session → Frame → List ℕ → Result Action ℕ
by_class img s f d =
    if_else (eqb f.header.cla 0x00) (by_ins img s f d) (if_else (eqb f.header.cla 0x80) (by_own_ins img s f d) (Err wrong_class))

-- ---- with the links of a chain before it

-- the frame of the whole command behind a chain: its Lc is the join's length [LK6]
abbrev pub whole_frame : Chain → Frame → Frame
whole_frame ch f = record { header = f.header; from = f.from; lc = length (so_far ch) + f.lc; le = f.le; ne = f.ne }

-- the data field of a command, behind the bytes of the links so far [H6] [LK6]
abbrev pub data_by : Chain → List ℕ → Option Frame → List ℕ
data_by ch cmd None = []
data_by ch cmd (Some f) = so_far ch ++ part cmd f.from f.lc

-- [H6] [LK6]
unfoldable pub data_of : Chain → List ℕ → List ℕ
data_of ch cmd = data_by ch cmd (shape_of cmd)

-- a link that is taken is answered 9000, and nothing else is done [LK5]
abbrev pub on_course : Result Course ℕ → List ℕ → Session → Frame → List ℕ → Result Action ℕ
on_course (Err w) img s f d = Err w
on_course (Ok Extends) img s f d = Err normal
on_course (Ok Goes) img s f d = by_class img s f d

-- step 1 [O1]
abbrev pub by_shape : List ℕ → Session → Chain → List ℕ → Option Frame → Result Action ℕ
by_shape img s ch cmd None = Err wrong_length
by_shape img s ch cmd (Some f) = on_course (turn ch f) img s (whole_frame ch f) (so_far ch ++ part cmd f.from f.lc)

-- what a command comes to, in a session with the chain ch [V1] [O1]
unfoldable pub decide : List ℕ → Session → Chain → List ℕ → Result Action ℕ
decide img s ch cmd = by_shape img s ch cmd (shape_of cmd)

-- ---- the chain behind it

-- a link that is taken joins the chain; any other command ends it, whatever its status word [LK5] [LK8]
abbrev pub chain_on : Result Course ℕ → Chain → Frame → List ℕ → Chain
chain_on (Err w) ch f d = NoChain
chain_on (Ok Extends) ch f d = extended ch f.header d
chain_on (Ok Goes) ch f d = NoChain

-- [LK8]
abbrev pub chain_by : Chain → List ℕ → Option Frame → Chain
chain_by ch cmd None = NoChain
chain_by ch cmd (Some f) = chain_on (turn ch f) ch f (part cmd f.from f.lc)

-- the chain behind an accepted command [LK5] [LK8]
unfoldable pub chain_behind : Chain → List ℕ → Chain
chain_behind ch cmd = chain_by ch cmd (shape_of cmd)
