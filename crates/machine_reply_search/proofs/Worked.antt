-- The lengths of two replies of the card to try: 83 matches fit an Ne of 256, 84 do not.
use mathlib.Core.Path.{◌≡◌, refl}
use mathlib.Core.List.{[], ◌∷◌}
use lib.ListN.{length, replicate}
use Rattle.objects_writer.specs.Writing.{length_bytes, tag_bytes, tlv}
use Rattle.machine_reply_search.specs.Found.{listed, found_data}

matches_83 : length (found_data (0x01 ∷ []) (replicate 83 0)) ≡ 256
unfolding found_data listed tlv tag_bytes length_bytes
matches_83 = refl

matches_84 : length (found_data (0x01 ∷ []) (replicate 84 0)) ≡ 259
unfolding found_data listed tlv tag_bytes length_bytes
matches_84 = refl
