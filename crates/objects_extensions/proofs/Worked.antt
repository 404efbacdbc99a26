-- Runs worked out: what they give, each fault, two faults at once, and what a fault leaves of three. Read before: specs/Read.antt.
use mathlib.Core.Path.{◌≡◌, refl}
use mathlib.Core.List.{List, [], ◌∷◌, ◌++◌}
use Prim.Native.Nat.{ℕ}
use lib.ListN.{replicate}
use Rattle.base.specs.Bytes.{same_bytes, put_fits, put}
use Rattle.objects_writer.specs.Writing.{tlv, tag_bytes, length_bytes}
use Rattle.objects_reader.specs.Form.{read_form}
use Rattle.objects_reader.specs.Head.{head_of, length_of}
use Rattle.objects_extensions.specs.declared.ExtensionFault.TheVariants.{Malformed, Twice}
use Rattle.std.specs.Prelude.{Ok, Err}
use Rattle.objects_extensions.specs.declared.RightsFault.TheVariants.{ShortBuffer, Faulty}
use Rattle.objects_extensions.specs.Extensions.{extension_value, extension_data, run_data}
use Rattle.objects_extensions.specs.Read.{whole, keeps_known, keeps, extension_on, run_in, run_on, empty_certificate, runs_on, chain_data, read_rights, read_rights_into}

-- the bytes of a certificate's extension for travel, as they would stand in it
abbrev travel : List ℕ
travel = 0x73 ∷ 0x0D ∷ 0x06 ∷ 0x08 ∷ 0x67 ∷ 0x81 ∷ 0x08 ∷ 0x01 ∷ 0x01 ∷ 0x09 ∷ 0x01 ∷ 0x03 ∷ 0x53 ∷ 0x01 ∷ 0x0F ∷ []

-- the same with rights of two bytes
abbrev long : List ℕ
long = 0x73 ∷ 0x0E ∷ 0x06 ∷ 0x08 ∷ 0x67 ∷ 0x81 ∷ 0x08 ∷ 0x01 ∷ 0x01 ∷ 0x09 ∷ 0x01 ∷ 0x03 ∷ 0x53 ∷ 0x02 ∷ 0x0F ∷ 0x00 ∷ []

abbrev visa : List ℕ
visa = 0x73 ∷ 0x0D ∷ 0x06 ∷ 0x08 ∷ 0x67 ∷ 0x81 ∷ 0x08 ∷ 0x01 ∷ 0x01 ∷ 0x09 ∷ 0x02 ∷ 0x03 ∷ 0x53 ∷ 0x01 ∷ 0x05 ∷ []

abbrev biometrics : List ℕ
biometrics = 0x73 ∷ 0x1D ∷ 0x06 ∷ 0x08 ∷ 0x67 ∷ 0x81 ∷ 0x08 ∷ 0x01 ∷ 0x01 ∷ 0x09 ∷ 0x03 ∷ 0x03 ∷ 0x53 ∷ 0x11 ∷ replicate 17 0xC3

-- one that is not known, with an empty identifier and 300 bytes of rights, in the long form of lengths
abbrev unknown : List ℕ
unknown = 0x73 ∷ 0x82 ∷ 0x01 ∷ 0x32 ∷ 0x06 ∷ 0x00 ∷ 0x53 ∷ 0x82 ∷ 0x01 ∷ 0x2C ∷ replicate 300 0x55

-- these are bytes of extensions
writings : run_data (record { identifier = []; rights = replicate 300 0x55 } ∷ record { identifier = 0x67 ∷ 0x81 ∷ 0x08 ∷ 0x01 ∷ 0x01 ∷ 0x09 ∷ 0x01 ∷ 0x03 ∷ []; rights = 0x0F ∷ [] } ∷ [])
    ≡ unknown ++ travel
unfolding run_data extension_data extension_value tlv tag_bytes length_bytes
writings = refl

-- in another order, with one among them that is not known
three : run_on empty_certificate (biometrics ++ (unknown ++ (visa ++ travel))) ≡ whole (0x07 ∷ 0x0F ∷ 0x05 ∷ replicate 17 0xC3)
unfolding run_on run_in extension_on read_form head_of length_of keeps keeps_known same_bytes put put_fits
three = refl

-- what is absent is zero
one : run_on empty_certificate visa ≡ whole (0x02 ∷ 0x00 ∷ 0x05 ∷ replicate 17 0x00)
unfolding run_on run_in extension_on read_form head_of length_of keeps keeps_known same_bytes put put_fits
one = refl

none : run_on empty_certificate [] ≡ whole (replicate 20 0x00)
unfolding run_on run_in
none = refl

-- a known one for the second time, with others between
twice : (run_on empty_certificate (travel ++ (unknown ++ travel))).read ≡ Err Twice
unfolding run_on run_in extension_on read_form head_of length_of keeps keeps_known same_bytes put put_fits
twice = refl

-- both faults at one extension: the size is told
both : (run_on empty_certificate (travel ++ long)).read ≡ Err Malformed
unfolding run_on run_in extension_on read_form head_of length_of keeps keeps_known same_bytes put put_fits
both = refl

-- the earlier extension is told
earlier : (run_on empty_certificate (travel ++ (travel ++ long))).read ≡ Err Twice
unfolding run_on run_in extension_on read_form head_of length_of keeps keeps_known same_bytes put put_fits
earlier = refl

-- a byte behind the last
surplus : (run_on empty_certificate (travel ++ (0x73 ∷ []))).read ≡ Err Malformed
unfolding run_on run_in extension_on read_form head_of length_of keeps keeps_known same_bytes put put_fits
surplus = refl

-- the second run is faulty: 60 zeros, though the first has rights, and the bytes behind them stay
refused : (read_rights travel long [] (replicate 62 0xA5) ≡ Err (Faulty Malformed)) × (read_rights_into travel long [] (replicate 62 0xA5) ≡ replicate 60 0x00 ++ replicate 2 0xA5)
unfolding read_rights read_rights_into runs_on chain_data run_on run_in extension_on read_form head_of length_of keeps keeps_known same_bytes put put_fits
refused = (refl, refl)

-- three certificates, one of them without extensions
accepted : (read_rights travel [] visa (replicate 60 0xA5) ≡ Ok tt)
    × (read_rights_into travel [] visa (replicate 60 0xA5) ≡ 0x01 ∷ 0x0F ∷ replicate 38 0x00 ++ (0x02 ∷ 0x00 ∷ 0x05 ∷ replicate 17 0x00))
unfolding read_rights read_rights_into runs_on chain_data run_on run_in extension_on read_form head_of length_of keeps keeps_known same_bytes put put_fits
accepted = (refl, refl)

-- a buffer of 59 bytes
short : (read_rights travel travel travel (replicate 59 0xA5) ≡ Err ShortBuffer) × (read_rights_into travel travel travel (replicate 59 0xA5) ≡ replicate 59 0xA5)
unfolding read_rights read_rights_into
short = (refl, refl)
