-- Calls as data, and what they leave of an image.
use Rattle.std.specs.Prelude.{ℕ, ◌+◌, ◌/◌, Bool, List, [], ◌∷◌, ◌++◌, length, take, leb, eqb, Option, Some, None, Result, Ok, Err}
use Rattle.base.specs.Choice.{if_else, all_of}
use Rattle.base.specs.Bytes.{part}
use Rattle.store_image.specs.Image.{records_of}
use Rattle.machine_session.specs.declared.Session.{Session}
use Rattle.machine_apdu.specs.Shape.{shape_of}
use Rattle.machine_apdu.specs.declared.Frame.{Frame}
use Rattle.machine_chain.specs.Chain.{Chain, so_far, goes_on}
use Rattle.machine_dispatch.specs.Decide.{whole_frame}
use Rattle.machine.specs.Step.{step}
use Rattle.machine_cut.specs.Cutting.{cut}
use Rattle.store_move.specs.Moving.{move_card, move_card_into}
use Rattle.promises.specs.Files.{is_meant_kind}
use Rattle.store_move.specs.declared.MoveRefusal.{MoveRefusal}

-- an opening with the rights of three certificates, a command with any session, any chain and any response buffer, a move by a list of rooms
-- into any target, or a command with any session and chain that is cut behind any number of its stores [C3]
pub data Call : Type 0 where
  Open : List ℕ → Call
  Command : Session → Chain → List ℕ → List ℕ → Call
  Move : List ℕ → List ℕ → Call
  Cut : Session → Chain → List ℕ → ℕ → Call

-- the card goes on as the new image, which is the first bytes of the target t; where the move is refused it goes on as it was [M14]
abbrev pub image_after_move : Result ℕ MoveRefusal → List ℕ → List ℕ → List ℕ
image_after_move (Ok n) t img = take n t
image_after_move (Err w) t img = img

-- the image after a call; opening has no image [C3] [M14] [CU5]
unfoldable pub after_call : List ℕ → Call → List ℕ
after_call img (Open rights) = img
after_call img (Command s ch cmd buf) = (step img s ch cmd buf).image
after_call img (Move list t) = image_after_move (move_card img list (length t)) (move_card_into img list t) img
after_call img (Cut s ch cmd n) = (cut img s ch cmd n).image

-- the image after calls, one after the other [C3]
unfoldable pub after : List ℕ → List Call → List ℕ
after img [] = img
after img (c ∷ cs) = after (after_call img c) cs

-- the command's CLA and INS [H1] [C7]
unfoldable pub is_pair : Frame → ℕ → ℕ → Bool
is_pair f cla ins = all_of (eqb f.header.cla cla ∷ eqb f.header.ins ins ∷ [])

-- the whole command behind a chain, that is its frame with the join's length for Lc. The chain has its INS, P1 and P2, or there is none, and the
-- join has at most 1,024 bytes; else it is none [H5] [LK3] [LK6]
abbrev pub whole_by : Chain → Option Frame → Option Frame
whole_by ch None = None
whole_by ch (Some f) = if_else (all_of (goes_on ch f.header ∷ leb (length (so_far ch) + f.lc) 1024 ∷ [])) (Some (whole_frame ch f)) None

-- [H5] [LK3] [LK6]
unfoldable pub whole_of : Chain → List ℕ → Option Frame
whole_of ch cmd = whole_by ch (shape_of cmd)

-- what a command adds to the records of the file of kind k, where it is answered with the status w: the data of an APPEND RECORD to that
-- file that is answered 9000. They are all its links joined: those that the session given holds, and the command's own; a link but the last has
-- another CLA [C7]
abbrev pub added_by : ℕ → Session → Chain → List ℕ → ℕ → Option Frame → List (List ℕ)
added_by k s ch cmd w None = []
added_by k s ch cmd w (Some f) =
    if_else (all_of (is_pair f 0x00 0xE2 ∷ eqb w 0x9000 ∷ is_meant_kind s (f.header.p2 / 8) k ∷ [])) ((so_far ch ++ part cmd f.from f.lc) ∷ []) []

-- what a command adds that has m stores and is cut behind n of them: what it adds where all are made, and so its count was stored; else
-- nothing [C7] [CU7]
abbrev pub added_by_cut : ℕ → Session → Chain → List ℕ → ℕ → ℕ → List (List ℕ)
added_by_cut k s ch cmd m n = if_else (all_of (leb 1 m ∷ leb m n ∷ [])) (added_by k s ch cmd 0x9000 (shape_of cmd)) []

-- what a call adds; a move adds nothing [C7] [M15]
unfoldable pub added : ℕ → List ℕ → Call → List (List ℕ)
added k img (Open rights) = []
added k img (Command s ch cmd buf) = added_by k s ch cmd (step img s ch cmd buf).answer.status (shape_of cmd)
added k img (Move list t) = []
added k img (Cut s ch cmd n) = added_by_cut k s ch cmd (cut img s ch cmd n).answer.stores n

-- what calls add, in order [C7]
unfoldable pub additions : ℕ → List ℕ → List Call → List (List ℕ)
additions k img [] = []
additions k img (c ∷ cs) = added k img c ++ additions k (after_call img c) cs

-- the list of a file: its first records, then every append that was answered 9000, or cut behind its last store [C7]
unfoldable pub history : ℕ → List ℕ → List Call → List (List ℕ)
history k img cs = records_of img k ++ additions k img cs
