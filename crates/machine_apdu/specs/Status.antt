-- The status words, each by its name.
use Rattle.std.specs.Prelude.{ℕ}

-- the command is done [O12]
abbrev pub normal : ℕ
normal = 0x9000

-- no record matches a search [Q9]
abbrev pub no_match : ℕ
no_match = 0x6282

-- step 1, step 5; step 10 of APPEND and SEARCH RECORD [O1] [O5]
abbrev pub wrong_length : ℕ
wrong_length = 0x6700

-- step 2 [O2]
abbrev pub wrong_class : ℕ
wrong_class = 0x6E00

-- step 3 [O3]
abbrev pub wrong_instruction : ℕ
wrong_instruction = 0x6D00

-- step 4; step 10 of FMM [O4]
abbrev pub wrong_parameters : ℕ
wrong_parameters = 0x6A86

-- step 6; step 10 of UPDATE BINARY [O6]
abbrev pub wrong_data : ℕ
wrong_data = 0x6A80

-- step 7 [O7]
abbrev pub no_current_file : ℕ
no_current_file = 0x6986

-- [O7]
abbrev pub file_not_found : ℕ
file_not_found = 0x6A82

-- step 8 [O8]
abbrev pub wrong_file_type : ℕ
wrong_file_type = 0x6981

-- step 9 [O9]
abbrev pub not_permitted : ℕ
not_permitted = 0x6982

-- step 10 of READ BINARY [Y4]
abbrev pub wrong_offset : ℕ
wrong_offset = 0x6B00

-- step 10 of READ RECORD [J4]
abbrev pub record_not_found : ℕ
record_not_found = 0x6A83

-- step 10 of APPEND RECORD and UPDATE BINARY [W4] [O12]
abbrev pub no_room : ℕ
no_room = 0x6A84

-- amid a chain, a header that is not the chain's [LK3]
abbrev pub other_header : ℕ
other_header = 0x6883
