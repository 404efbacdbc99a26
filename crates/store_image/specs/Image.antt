-- The card image: sections one behind the other, each a file's body with its length in four bytes and its kind in two before it, both
-- little-endian.
use Rattle.std.specs.Prelude.{ℕ, zero, suc, ◌+◌, Bool, true, false, ◌&&◌, ◌||◌, List, [], ◌∷◌, length, leb, ltb, eqb, Option, Some, None}
use Rattle.base.specs.Choice.{all_of}
use Rattle.base.specs.Bytes.{part, splice}
use Rattle.store_records.specs.Little.{le16, le32}
use Rattle.store_records.specs.Body.{records, append}
use Rattle.store_kinds.specs.Biometrics.{update, activate}
use Rattle.store_cut.specs.Stores.{Store, stores, make_stores}
use Rattle.store_cut.specs.declared.Writing.{Writing}
use Rattle.store_kinds.specs.Rules.{application_of, present_by, kind_ok}

-- the section at p: its body's length, its kind, its body, and the place behind it [I3]
abbrev pub len_at : List ℕ → ℕ → ℕ
len_at img p = le32 img p

-- [I3]
abbrev pub kind_at : List ℕ → ℕ → ℕ
kind_at img p = le16 img (p + 4)

-- [I3]
abbrev pub body_at : List ℕ → ℕ → List ℕ
body_at img p = part img (p + 6) (len_at img p)

-- [I3]
abbrev pub end_at : List ℕ → ℕ → ℕ
end_at img p = p + 6 + len_at img p

-- ---- where the body of a kind stands

-- nothing where the section at hand is not whole; its body where it is the one; else what is found further on [I8]
abbrev pub choose : Bool → Bool → Option (ℕ × ℕ) → Option (ℕ × ℕ) → Option (ℕ × ℕ)
choose false one here further = None
choose true true here further = here
choose true false here further = further

-- from the section at p on: where the body of the first section of kind k begins, and its length. n bounds the sections passed [I8]
unfoldable pub find_from : ℕ → List ℕ → ℕ → ℕ → Option (ℕ × ℕ)
find_from zero img p k = None
find_from (suc n) img p k =
    choose (leb (end_at img p) (length img)) (eqb (kind_at img p) k) (Some (p + 6, len_at img p)) (find_from n img (end_at img p) k)

-- in the whole image. (A section has six bytes or more, so there are no more of them than bytes.) [I8]
unfoldable pub find : List ℕ → ℕ → Option (ℕ × ℕ)
find img k = find_from (length img) img 0 k

-- [I8]
abbrev pub is_at : Option (ℕ × ℕ) → Bool
is_at (Some (s, n)) = true
is_at None = false

-- a section of kind k is there [I8]
unfoldable pub has : List ℕ → ℕ → Bool
has img k = is_at (find img k)

-- application a is present: its record files are there [I7]
unfoldable pub present : List ℕ → ℕ → Bool
present img a = present_by (has img) a

-- ---- whether an image is well formed

-- the section at p is right behind one of kind `last`: it is whole, its kind is greater and known, its body is one of that kind, and its
-- application is present; so the sections of travel stand all three or not at all, those of visa both or not at all, and 04xx only with 031A
-- [I3] [I4] [I5] [I6]
unfoldable pub section_ok : List ℕ → ℕ → ℕ → Bool
section_ok img p last =
    all_of
    (leb (end_at img p) (length img)
    ∷ ltb last (kind_at img p)
    ∷ kind_ok (kind_at img p) (body_at img p)
    ∷ present img (application_of (kind_at img p))
    ∷ [])

-- the sections from p on are right, up to the exact end [I2]
unfoldable pub sections_ok : ℕ → List ℕ → ℕ → ℕ → Bool
sections_ok zero img p last = leb (length img) p
sections_ok (suc n) img p last = leb (length img) p || (section_ok img p last && sections_ok n img (end_at img p) (kind_at img p))

-- an image has at most 262,144 bytes, and its sections, of which there may be none, are right up to its exact end [I1] [I2]
unfoldable pub well_formed : List ℕ → Bool
well_formed img = all_of (leb (length img) 262144 ∷ sections_ok (length img) img 0 0 ∷ [])

-- ---- an image as its files

-- a body by where it was found [I9]
abbrev pub body_by : Option (ℕ × ℕ) → List ℕ → List ℕ
body_by (Some (s, n)) img = part img s n
body_by None img = []

-- the body of the file of kind k; nothing where there is none [I9]
unfoldable pub body : List ℕ → ℕ → List ℕ
body img k = body_by (find img k) img

-- the records of the file of kind k [I9] [R3]
unfoldable pub records_of : List ℕ → ℕ → List (List ℕ)
records_of img k = records (body img k)

-- the image with b for the body that was found [I10]
abbrev pub with_body_by : Option (ℕ × ℕ) → List ℕ → List ℕ → List ℕ
with_body_by (Some (s, n)) img b = splice img s b
with_body_by None img b = img

-- the image with b for the body of the file of kind k [I10]
unfoldable pub with_body : List ℕ → ℕ → List ℕ → List ℕ
with_body img k b = with_body_by (find img k) img b

-- the image after an append to the file of kind k [I10] [R7]
unfoldable pub append_to : List ℕ → ℕ → List ℕ → List ℕ
append_to img k d = with_body img k (append (body img k) d)

-- the image after a write in it [I10] [N6]
unfoldable pub update_in : List ℕ → ℕ → ℕ → List ℕ → List ℕ
update_in img k off d = with_body img k (update (body img k) off d)

-- the image after its activation [I10] [N7]
unfoldable pub activate_in : List ℕ → ℕ → List ℕ
activate_in img k = with_body img k (activate (body img k))

-- ---- what APPEND RECORD and ACTIVATE store

-- the stores of what is written to the file of kind k, in order; their places are in that file's body [I10] [CU2] [CU3]
unfoldable pub stores_in : List ℕ → ℕ → Writing → List ℕ → List Store
stores_in img k w d = stores w (body img k) d

-- the image after the first n of them; k is the file's kind [I10] [CU4]
unfoldable pub make_stores_in : ℕ → List ℕ → ℕ → Writing → List ℕ → List ℕ
make_stores_in n img k w d = with_body img k (make_stores n w (body img k) d)
