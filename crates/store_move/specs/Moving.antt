-- The move of a card to other rooms. A list of kinds with new body lengths lays out a new image, and each file of the old image is in it
-- with its content: all records under their old numbers, a biometrics file with its state and the bytes written. All other bytes of a body
-- are zero, so that a kind which the old image lacks is an empty file. The target keeps what lies behind the new image.
use Rattle.std.specs.Prelude.{ℕ, zero, suc, ◌+◌, ◌≤◌, Bool, true, false, ◌&&◌, ◌||◌, List, ◌++◌, length, take, drop, leb, Option, Some, None, Result, Ok, Err}
use Rattle.base.specs.Choice.{if_else}
use Rattle.store_records.specs.Body.{used}
use Rattle.store_kinds.specs.Biometrics.{written}
use Rattle.store_kinds.specs.Rules.{is_biometrics}
use Rattle.store_image.specs.Image.{kind_at, end_at, has, well_formed, body}
use Rattle.store_move_plan.specs.Rooms.{rows, row_room, row_kind, laid, blank, plan}
use Rattle.store_move.specs.declared.MoveRefusal.{MoveRefusal}
use Rattle.store_move.specs.declared.MoveRefusal.TheVariants.{BadImage, BadList, MissingKind, SmallRoom, ShortTarget}

-- how many bytes of a body of kind k are content: state, w and the bytes written, or the bytes used [M3]
unfoldable pub content_length : ℕ → List ℕ → ℕ
content_length k xs = if_else (is_biometrics k) (5 + written xs) (used xs)

-- the content of the file of kind k; of a kind not in the image nothing, since there the body is empty [M3] [M4]
unfoldable pub content : List ℕ → ℕ → List ℕ
content old k = take (content_length k (body old k)) (body old k)

-- the new image [M2]
unfoldable pub moved : List ℕ → List ℕ → List ℕ
moved old list = laid (content old) list

-- ---- refusals

-- the kind of each section from p on has a row. n bounds the sections passed [M6]
unfoldable pub lists_from : ℕ → List ℕ → ℕ → List ℕ → Bool
lists_from zero old p list = true
lists_from (suc n) old p list = leb (length old) p || (has (blank list) (kind_at old p) && lists_from n old (end_at old p) list)

-- each kind of the old image has a row. (A section has six bytes or more, so there are no more of them than bytes.) [M6]
unfoldable pub lists : List ℕ → List ℕ → Bool
lists old list = lists_from (length old) old 0 list

-- the content for each of the first n rows fits in its room [M7]
unfoldable pub roomy_to : List ℕ → List ℕ → ℕ → Bool
roomy_to old list zero = true
roomy_to old list (suc n) = roomy_to old list n && leb (length (content old (row_kind list n))) (row_room list n)

-- each room holds its content [M7]
unfoldable pub roomy : List ℕ → List ℕ → Bool
roomy old list = roomy_to old list (rows list)

-- each refusal's number [M5] [M6] [M7] [M8] [M9] [C2]
abbrev pub move_refusal_number : MoveRefusal → ℕ
move_refusal_number BadImage = 2
move_refusal_number BadList = 10
move_refusal_number MissingKind = 11
move_refusal_number SmallRoom = 12
move_refusal_number ShortTarget = 13

-- the refusal w where the test does not hold [M9]
abbrev pub refuse_unless : Bool → MoveRefusal → Result ℕ MoveRefusal → Result ℕ MoveRefusal
refuse_unless true w further = further
refuse_unless false w further = Err w

-- by what a list lays out: where it is no image, the move is refused [M5] [C2]
abbrev pub unless_unfit : Option ℕ → Result ℕ MoveRefusal → Result ℕ MoveRefusal
unless_unfit (Some n) further = further
unless_unfit None further = Err BadList

-- what a move into a target of n bytes comes to: the first refusal in this order whose test fails, else the length of the new image [M8] [M9]
unfoldable pub move_card : List ℕ → List ℕ → ℕ → Result ℕ MoveRefusal
move_card old list n =
    refuse_unless (well_formed old) BadImage
    (unless_unfit (plan list)
    (refuse_unless (lists old list) MissingKind
    (refuse_unless (roomy old list) SmallRoom
    (refuse_unless (leb (length (moved old list)) n) ShortTarget
    (Ok (length (moved old list)))))))

-- the target t afterwards: as it was, or the new image with what was behind it [M10]
abbrev pub target_after : Result ℕ MoveRefusal → List ℕ → List ℕ → List ℕ
target_after (Err w) img t = t
target_after (Ok n) img t = img ++ drop (length img) t

-- [M10]
unfoldable pub move_card_into : List ℕ → List ℕ → List ℕ → List ℕ
move_card_into old list t = target_after (move_card old list (length t)) (moved old list) t

-- how large the numbers are that a move answers [X6]
abbrev pub Numbered : Result ℕ MoveRefusal → Type 0
Numbered (Err w) = move_refusal_number w ≤ 13
Numbered (Ok n) = n ≤ 262144
