-- A small card moved to other rooms, computed from the definitions: each refusal, a move that adds a file, and the same sizes again.
use Prim.Native.Nat.{ℕ}
use mathlib.Core.Path.{◌≡◌, refl}
use mathlib.Core.List.{List, [], ◌∷◌, ◌++◌}
use lib.ListN.{take, replicate}
use Rattle.base.specs.Choice.{all_of}
use Rattle.store_records.specs.Little.{le16, le32}
use Rattle.store_records.specs.Body.{count, place, used, ok_at, ok_to, body_ok}
use Rattle.store_kinds.specs.Biometrics.{state, written, room, bio_ok}
use Rattle.store_kinds.specs.Rules.{rules, first_rule, rule_of, all_rules, is_biometrics, application_of, there, present_by, kind_ok}
use Rattle.store_image.specs.Image.{find_from, find, has, present, section_ok, sections_ok, well_formed, body}
use Rattle.store_move_plan.specs.Rooms.{rows, filled, section, sections, laid, blank, lays, plan}
use Rattle.store_move.specs.Moving.{content_length, content, moved, lists_from, lists, roomy_to, roomy, move_card, move_card_into}
use Rattle.store_move.specs.declared.MoveRefusal.TheVariants.{BadImage, BadList, MissingKind, SmallRoom, ShortTarget}
use Rattle.store_move_laws.specs.Same.{heads_from, heads}
use Rattle.std.specs.Prelude.{Ok, Err}

-- the biometrics application: one certificate of two bytes, and Biometrics 1, Activated, with two bytes written; the free bytes are not zero
abbrev old : List ℕ
old =
    0x08 ∷ 0 ∷ 0 ∷ 0 ∷ 0x1A ∷ 0x03 ∷ 0x01 ∷ 0x00 ∷ 0x02 ∷ 0x00 ∷ 0xAA ∷ 0xBB ∷ 0x07 ∷ 0x07
    ∷ 0x08 ∷ 0 ∷ 0 ∷ 0 ∷ 0x01 ∷ 0x04 ∷ 0x01 ∷ 0x02 ∷ 0 ∷ 0 ∷ 0 ∷ 0xC1 ∷ 0xC2 ∷ 0x09 ∷ []

-- 10 bytes for the certificates, 7 for Biometrics 1, which is what it needs, and 6 for Biometrics 2
abbrev list : List ℕ
list =
    0x0A ∷ 0 ∷ 0 ∷ 0 ∷ 0x1A ∷ 0x03
    ∷ 0x07 ∷ 0 ∷ 0 ∷ 0 ∷ 0x01 ∷ 0x04
    ∷ 0x06 ∷ 0 ∷ 0 ∷ 0 ∷ 0x02 ∷ 0x04 ∷ []

abbrev new : List ℕ
new =
    0x0A ∷ 0 ∷ 0 ∷ 0 ∷ 0x1A ∷ 0x03 ∷ 0x01 ∷ 0x00 ∷ 0x02 ∷ 0x00 ∷ 0xAA ∷ 0xBB ∷ 0 ∷ 0 ∷ 0 ∷ 0
    ∷ 0x07 ∷ 0 ∷ 0 ∷ 0 ∷ 0x01 ∷ 0x04 ∷ 0x01 ∷ 0x02 ∷ 0 ∷ 0 ∷ 0 ∷ 0xC1 ∷ 0xC2
    ∷ 0x06 ∷ 0 ∷ 0 ∷ 0 ∷ 0x02 ∷ 0x04 ∷ 0x00 ∷ 0 ∷ 0 ∷ 0 ∷ 0 ∷ 0 ∷ []

-- no room for the second byte written
abbrev small : List ℕ
small = 0x0A ∷ 0 ∷ 0 ∷ 0 ∷ 0x1A ∷ 0x03 ∷ 0x06 ∷ 0 ∷ 0 ∷ 0 ∷ 0x01 ∷ 0x04 ∷ []

-- the answers; a target of 43 bytes, which keeps its last two; the new card moved to its own rooms, which is itself
pub worked : ((move_card old list 41
    ∷ move_card (take 27 old) list 41
    ∷ move_card old (take 17 list) 41
    ∷ move_card old (take 6 list ++ take 6 list) 41
    ∷ move_card old (take 6 list) 41
    ∷ move_card old small 41
    ∷ move_card old list 40
    ∷ [])
    ≡ (Ok 41 ∷ Err BadImage ∷ Err BadList ∷ Err BadList ∷ Err MissingKind ∷ Err SmallRoom ∷ Err ShortTarget ∷ []))
    × (move_card_into old list (replicate 43 0x5A) ≡ new ++ (0x5A ∷ 0x5A ∷ []))
    × (move_card_into new (heads new) (replicate 41 0x5A) ≡ new)
unfolding all_of le16 le32 count place used ok_at ok_to body_ok state written room bio_ok rules first_rule rule_of all_rules is_biometrics kind_ok find_from find has there present_by present application_of section_ok sections_ok well_formed body rows filled section sections laid blank lays plan content_length content moved lists_from lists roomy_to roomy move_card move_card_into heads_from heads
worked = (refl, refl, refl)
