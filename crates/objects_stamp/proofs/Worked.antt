-- Records read, computed: the longest stamp, the shortest, and one with each kind of fault.
use Prim.Native.Nat.{ℕ, zero, suc}
use mathlib.Core.Path.{◌≡◌, refl}
use mathlib.Core.Bool.{Bool, true, ◌&&◌}
use mathlib.Core.List.{List, [], ◌∷◌, ◌++◌}
use lib.ListN.{length, replicate, take, drop, set}
use lib.Dec.{ltb, lit<}
use borrow.Author.Tests.{ltb-true}
use Rattle.base.specs.Bytes.{AllBytes, same_bytes}
use Rattle.base.proofs.Cases.{and_left, and_right}
use Rattle.objects_writer.specs.Writing.{tlv, tag_bytes, length_bytes}
use Rattle.objects_reader.specs.Head.{head_of, length_of}
use Rattle.objects_reader.specs.Encoding.{absent, present, perhaps, leaf_count}
use Rattle.objects_stamp.specs.declared.Reason.TheVariants.{WrongTag, WrongLength, WrongContent}
use Rattle.std.specs.Prelude.{Ok, Err}
use Rattle.objects_stamp.specs.Chars.{is_letter, is_digit, is_special, allows_all}
use Rattle.objects_stamp.specs.Rules.{chars_of, content_ok}
use Rattle.objects_stamp.specs.FirstFault.{first_fault, stamp_finding}
use Rattle.objects_stamp.specs.Stamp.{Stamp, stamp_data}

-- each field as long as it may be
abbrev pub fullest : Stamp
fullest = record {
  copy = replicate 3 0x41;
  state = replicate 3 0x41;
  visas = present (replicate 50 0x20);
  date = replicate 8 0x30;
  authority = replicate 10 0x7A;
  location = replicate 10 0x39;
  inspector = replicate 20 0x3C;
  result = present (replicate 50 0x61);
  mode = present (0x5A ∷ []);
  duration = present (0x00 ∷ 0xFF ∷ []);
  conditions = present (replicate 50 0x20);
  signature = replicate 140 0xFF;
  reference = 0xFE ∷ [];
}

-- and as short, without what is optional
abbrev pub shortest : Stamp
shortest = record {
  copy = 0x55 ∷ 0x53 ∷ 0x41 ∷ [];
  state = 0x55 ∷ 0x53 ∷ 0x41 ∷ [];
  visas = absent;
  date = replicate 8 0x31;
  authority = 0x41 ∷ [];
  location = 0x41 ∷ [];
  inspector = 0x41 ∷ [];
  result = absent;
  mode = absent;
  duration = absent;
  conditions = absent;
  signature = 0 ∷ [];
  reference = 1 ∷ [];
}

pub full_length : length (stamp_data fullest) ≡ 391
unfolding stamp_data perhaps tlv tag_bytes length_bytes
full_length = refl

pub full_right : stamp_finding (stamp_data fullest) ≡ Ok tt
unfolding stamp_data perhaps tlv tag_bytes length_bytes stamp_finding first_fault head_of length_of content_ok chars_of allows_all same_bytes is_letter is_digit is_special leaf_count
full_right = refl

pub short-length : length (stamp_data shortest) ≡ 45
unfolding stamp_data perhaps tlv tag_bytes length_bytes
short-length = refl

pub short-right : stamp_finding (stamp_data shortest) ≡ Ok tt
unfolding stamp_data perhaps tlv tag_bytes length_bytes stamp_finding first_fault head_of length_of content_ok chars_of allows_all same_bytes is_letter is_digit is_special leaf_count
short-right = refl

-- another State inside: content, at the inner one
pub other_state : stamp_finding (set (stamp_data shortest) 11 0x54) ≡ Err (WrongContent, 8)
unfolding stamp_data perhaps tlv tag_bytes length_bytes stamp_finding first_fault head_of length_of content_ok chars_of allows_all same_bytes is_letter is_digit is_special leaf_count
other_state = refl

-- a byte behind the last
pub byte-behind : stamp_finding (stamp_data shortest ++ (0 ∷ [])) ≡ Err (WrongTag, 45)
unfolding stamp_data perhaps tlv tag_bytes length_bytes stamp_finding first_fault head_of length_of content_ok chars_of allows_all same_bytes is_letter is_digit is_special leaf_count
byte-behind = refl

-- half of the last object: its length goes past the record
pub cut_short : stamp_finding (take 44 (stamp_data shortest)) ≡ Err (WrongLength, 41)
unfolding stamp_data perhaps tlv tag_bytes length_bytes stamp_finding first_fault head_of length_of content_ok chars_of allows_all same_bytes is_letter is_digit is_special leaf_count
cut_short = refl

-- two faults, a content and behind it a tag: the first is told
pub two_faults : stamp_finding (set (set (stamp_data shortest) 17 0x2F) 41 0) ≡ Err (WrongContent, 14)
unfolding stamp_data perhaps tlv tag_bytes length_bytes stamp_finding first_fault head_of length_of content_ok chars_of allows_all same_bytes is_letter is_digit is_special leaf_count
two_faults = refl

-- 00 and FF are no references
pub reference_00 : stamp_finding (set (stamp_data shortest) 44 0x00) ≡ Err (WrongContent, 41)
unfolding stamp_data perhaps tlv tag_bytes length_bytes stamp_finding first_fault head_of length_of content_ok chars_of allows_all same_bytes is_letter is_digit is_special leaf_count
reference_00 = refl

pub reference_ff : stamp_finding (set (stamp_data shortest) 44 0xFF) ≡ Err (WrongContent, 41)
unfolding stamp_data perhaps tlv tag_bytes length_bytes stamp_finding first_fault head_of length_of content_ok chars_of allows_all same_bytes is_letter is_digit is_special leaf_count
reference_ff = refl

-- a length of 8 in two bytes; and one that goes past `73`, though not past the record
pub not-shortest : stamp_finding (take 16 (stamp_data shortest) ++ (0x81 ∷ drop 16 (stamp_data shortest))) ≡ Err (WrongLength, 14)
unfolding stamp_data perhaps tlv tag_bytes length_bytes stamp_finding first_fault head_of length_of content_ok chars_of allows_all same_bytes is_letter is_digit is_special leaf_count
not-shortest = refl

pub past_73 : stamp_finding (set (stamp_data shortest) 35 5) ≡ Err (WrongLength, 33)
unfolding stamp_data perhaps tlv tag_bytes length_bytes stamp_finding first_fault head_of length_of content_ok chars_of allows_all same_bytes is_letter is_digit is_special leaf_count
past_73 = refl

-- the inspector is missing at the end of `73`, where the signature stands, whose length is wrong, too: the tag is told
pub one-offset : stamp_finding (take 7 (stamp_data shortest) ++ (0x19 ∷ (take 25 (drop 8 (stamp_data shortest)) ++ (0x5F ∷ 0x37 ∷ 0x00 ∷ [])))) ≡ Err (WrongTag, 33)
unfolding stamp_data perhaps tlv tag_bytes length_bytes stamp_finding first_fault head_of length_of content_ok chars_of allows_all same_bytes is_letter is_digit is_special leaf_count
one-offset = refl

-- ---- the longest has bytes alone

abbrev bytes_ok : List ℕ → Bool
bytes_ok [] = true
bytes_ok (x ∷ xs) = ltb x 256 && bytes_ok xs

bytes_ok_all : (xs : List ℕ) → bytes_ok xs ≡ true → AllBytes xs
unfolding AllBytes
bytes_ok_all [] e i = lit< tt
bytes_ok_all (x ∷ xs) e zero = ltb-true x 256 (and_left (ltb x 256) (bytes_ok xs) e)
bytes_ok_all (x ∷ xs) e (suc i) = bytes_ok_all xs (and_right (ltb x 256) (bytes_ok xs) e) i

full_ok : bytes_ok (stamp_data fullest) ≡ true
unfolding stamp_data perhaps tlv tag_bytes length_bytes
full_ok = refl

pub full_bytes : AllBytes (stamp_data fullest)
full_bytes = bytes_ok_all (stamp_data fullest) full_ok
