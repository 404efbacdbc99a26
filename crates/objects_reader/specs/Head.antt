-- What stands at the start of a part: a tag, a length in its one form, and the value.
use Rattle.std.specs.Prelude.{ℕ, ◌+◌, ◌-◌, ◌*◌, List, length, get_or, drop, ltb, leb, eqb, Result, Ok, Err}
use Rattle.base.specs.Choice.{if_else}
use Rattle.objects_reader.specs.declared.head.HeadFault.{HeadFault}
use Rattle.objects_reader.specs.declared.head.HeadFault.TheVariants.{NoTag, NoLength}

-- what stands at the start of a part: an object whose value is the len bytes from start on, as (start, len); or its tag is missing, or a length
-- that fits [D1] [D2]
abbrev pub Head : Type 0
Head = Result (ℕ × ℕ) HeadFault

-- n bytes of value behind k bytes of s, where n is not below the least that this form of length is for and s holds them [D2]
abbrev pub body_in : List ℕ → ℕ → ℕ → ℕ → Head
body_in s k least n = if_else (ltb n least) (Err NoLength) (if_else (leb n (length s - k)) (Ok (k, n)) (Err NoLength))

-- the length at the start of s, in its one form, and where the value stands; a length in any other form is none [D2]
unfoldable pub length_of : List ℕ → Head
length_of s =
    if_else (ltb (length s) 1) (Err NoLength)
    (if_else (ltb (get_or s 0 0) 0x80) (body_in s 1 0 (get_or s 0 0))
    (if_else (eqb (get_or s 0 0) 0x81)
    (if_else (ltb (length s) 2) (Err NoLength) (body_in s 2 0x80 (get_or s 1 0)))
    (if_else (eqb (get_or s 0 0) 0x82)
    (if_else (ltb (length s) 3) (Err NoLength) (body_in s 3 0x100 (get_or s 1 0 * 256 + get_or s 2 0)))
    (Err NoLength))))

-- the same object, seen from k bytes further left [D1]
abbrev pub past_by : ℕ → Head → Head
past_by k (Ok (start, len)) = Ok (k + start, len)
past_by k (Err f) = Err f

-- the tag, in one byte below 0100 and else in two, and then the length [D1]
unfoldable pub head_of : ℕ → List ℕ → Head
head_of tag s =
    if_else (ltb tag 0x100)
    (if_else (ltb (length s) 1) (Err NoTag)
    (if_else (eqb (get_or s 0 0) tag) (past_by 1 (length_of (drop 1 s))) (Err NoTag)))
    (if_else (ltb (length s) 2) (Err NoTag)
    (if_else (eqb (get_or s 0 0 * 256 + get_or s 1 0) tag) (past_by 2 (length_of (drop 2 s))) (Err NoTag)))
