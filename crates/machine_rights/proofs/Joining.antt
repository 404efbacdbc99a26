-- The laws of joining rights. Read before: specs/Joining.antt. Exports the theorems `joining`, `cleared_once` and `any_order`, and of the bytes of three
-- certificates `twenty`, `certificate_in` and `parts_of`.
use Prim.Native.Nat.{ℕ, zero, suc, ◌+◌, ◌*◌, ◌%◌, ◌<◌}
use mathlib.Core.Path.{◌≡◌, refl, sym, ap, ap₂, ◌∙◌}
use mathlib.Core.Bool.{Bool, true, false}
use mathlib.Core.List.{List, [], ◌∷◌, ◌++◌, append_assoc, append-nil}
use native.Mathlib.Omega.{arith}
use lib.ListN.{length, get_or, set, drop, replicate, length-append}
use lib.Seq.{take_at, drop_at}
use lib.Dec.{lit<}
use lib.Bits.{bit_and, and_comm, and_self, and_mask}
use borrow.Author.Tests.{eq-eqb}
use Rattle.base.specs.Choice.{if_else}
use Rattle.base.specs.Bytes.{AllBytes, part}
use Rattle.base.proofs.Parts.{get_d_part, drop-part}
use Rattle.machine_rights.specs.declared.Rights.{Rights}
use Rattle.machine_rights.specs.Rights.{bit}
use Rattle.machine_rights.specs.Chain.{certificate, joined_bytes, joined, cleared_bytes, cleared, effective}
use Rattle.machine_rights.specs.Joining.{RightsOfBytes, all_ones, joined_cleared, Joining, ClearedOnce, AnyOrder}
use Rattle.machine_rights.proofs.Bits.{and_assoc, and_low, bit-and-left}
use Rattle.machine_rights.proofs.Laws.{flag_1, flag_2, flag_3, cleared-cleared, cleared-is}

-- ---- the 17 bytes

bytes-order : (x y : List ℕ) → joined_bytes x y ≡ joined_bytes y x
unfolding joined_bytes
bytes-order [] [] = refl
bytes-order [] (b ∷ y) = refl
bytes-order (a ∷ x) [] = refl
bytes-order (a ∷ x) (b ∷ y) = ap₂ ◌∷◌ (and_comm a b) (bytes-order x y)

bytes-grouping : (x y z : List ℕ) → joined_bytes (joined_bytes x y) z ≡ joined_bytes x (joined_bytes y z)
unfolding joined_bytes
bytes-grouping [] y z = refl
bytes-grouping (a ∷ x) [] z = refl
bytes-grouping (a ∷ x) (b ∷ y) [] = refl
bytes-grouping (a ∷ x) (b ∷ y) (c ∷ z) = ap₂ ◌∷◌ (and_assoc a b c) (bytes-grouping x y z)

bytes-itself : (x : List ℕ) → joined_bytes x x ≡ x
unfolding joined_bytes
bytes-itself [] = refl
bytes-itself (a ∷ x) = ap₂ ◌∷◌ (and_self a) (bytes-itself x)

byte-ones : (x : ℕ) → x < 256 → bit_and x 255 ≡ x
byte-ones x h = and_mask x 8 ∙ (let e : x % 256 ≡ x = omega arith in e)

bytes-ones : (x : List ℕ) → AllBytes x → joined_bytes x (replicate (length x) 255) ≡ x
unfolding joined_bytes AllBytes
bytes-ones [] h = refl
bytes-ones (a ∷ x) h = ap₂ ◌∷◌ (byte-ones a (h zero)) (bytes-ones x (λ i. h (suc i)))

-- ---- joined

joined-order : (a b : Rights) → joined a b ≡ joined b a
unfolding joined
joined-order a b = simp (and_comm a.flags b.flags, and_comm a.travel b.travel, and_comm a.visa b.visa, bytes-order a.biometrics b.biometrics)

joined-grouping : (a b c : Rights) → joined (joined a b) c ≡ joined a (joined b c)
unfolding joined
joined-grouping a b c = simp (and_assoc, bytes-grouping)

joined-itself : (a : Rights) → joined a a ≡ a
unfolding joined
joined-itself a = simp (and_self, bytes-itself)

joined-ones : (a : Rights) → RightsOfBytes a → joined a all_ones ≡ a
unfolding joined all_ones
joined-ones a h =
    let b : joined_bytes a.biometrics (replicate 17 255) ≡ a.biometrics
    = ap (λ (n : ℕ). joined_bytes a.biometrics (replicate n 255)) (sym h.seventeen) ∙ bytes-ones a.biometrics h.biometrics_bytes in
    λ i. record {
      flags = byte-ones a.flags h.flags_byte i;
      travel = byte-ones a.travel h.travel_byte i;
      visa = byte-ones a.visa h.visa_byte i;
      biometrics = b i;
    }

-- ---- cleared on the way

-- a byte under a flag, in a set that is cleared before it is joined, and in one that is not
under_same : {A : Type 0} (t t' f : Bool) (g : Bool → A) (y z : A) → t' ≡ t → (t ≡ true → f ≡ true) → g true ≡ y → if_else t' (g f) z ≡ if_else t y z
under_same true t' f g y z e h k = ap (λ (u : Bool). if_else u (g f) z) e ∙ ap g (h refl) ∙ k
under_same false t' f g y z e h k = ap (λ (u : Bool). if_else u (g f) z) e

first-low : (x y : List ℕ)
    → set (joined_bytes (set x 0 (get_or x 0 0 % 4)) y) 0 (get_or (joined_bytes (set x 0 (get_or x 0 0 % 4)) y) 0 0 % 4) ≡ set (joined_bytes x y) 0 (get_or (joined_bytes x y) 0 0 % 4)
unfolding joined_bytes
first-low [] y = refl
first-low (a ∷ x) [] = refl
first-low (a ∷ x) (b ∷ y) = ap (λ (z : ℕ). z ∷ joined_bytes x y) (and_low 2 a b)

module _ (a b : Rights) where
  both : ℕ
  both = bit_and a.flags b.flags

  early : ℕ
  early = bit_and (a.flags % 8) b.flags

  flags-low : early % 8 ≡ both % 8
  unfolding both early
  flags-low = and_low 3 a.flags b.flags

  has_both : (n : ℕ) → bit both n ≡ true → bit a.flags n ≡ true
  unfolding both
  has_both n = bit-and-left a.flags b.flags n

  -- the travel byte and the visa byte, x of the one and y of the other
  record_same : (n x y : ℕ) → bit early n ≡ bit both n
      → if_else (bit early n) (bit_and (if_else (bit a.flags n) (x % 16) 0) y % 16) 0 ≡ if_else (bit both n) (bit_and x y % 16) 0
  record_same n x y e =
      under_same (bit both n) (bit early n) (bit a.flags n) (λ (u : Bool). bit_and (if_else u (x % 16) 0) y % 16) (bit_and x y % 16) 0 e (has_both n) (and_low 4 x y)

  cleared-before : cleared (joined (cleared a) b) ≡ cleared (joined a b)
  unfolding cleared cleared_bytes joined both early
  cleared-before =
      let e : early % 8 ≡ both % 8 = flags-low in
      λ i. record {
        flags = e i;
        travel = record_same 1 a.travel b.travel (sym (flag_1 early) ∙ ap (λ (z : ℕ). bit z 1) e ∙ flag_1 both) i;
        visa = record_same 2 a.visa b.visa (sym (flag_2 early) ∙ ap (λ (z : ℕ). bit z 2) e ∙ flag_2 both) i;
        biometrics =
            under_same (bit both 3) (bit early 3) (bit a.flags 3)
            (λ (u : Bool). let x : List ℕ = if_else u (set a.biometrics 0 (get_or a.biometrics 0 0 % 4)) (replicate 17 0) in
            set (joined_bytes x b.biometrics) 0 (get_or (joined_bytes x b.biometrics) 0 0 % 4))
            (set (joined_bytes a.biometrics b.biometrics) 0 (get_or (joined_bytes a.biometrics b.biometrics) 0 0 % 4)) (replicate 17 0)
            (sym (flag_3 early) ∙ ap (λ (z : ℕ). bit z 3) e ∙ flag_3 both) (has_both 3) (first-low a.biometrics b.biometrics) i;
      }

cleared-behind : (a b : Rights) → cleared (joined a (cleared b)) ≡ cleared (joined a b)
cleared-behind a b = ap cleared (joined-order a (cleared b)) ∙ cleared-before b a ∙ ap cleared (joined-order b a)

-- ---- the laws

pub joining : Joining
unfolding joined_cleared
joining = (
  record { order = joined-order; grouping = joined-grouping; itself = λ a h. joined-itself a; ones = λ a h. ap cleared (joined-ones a h) },
  record {
    order = λ a b. ap cleared (joined-order a b);
    grouping = λ a b c. cleared-before (joined a b) c ∙ ap cleared (joined-grouping a b c) ∙ sym (cleared-behind a (joined b c));
    itself = λ a h. ap cleared (joined-itself a) ∙ cleared-is a h;
    ones = λ a h. cleared-cleared (joined a all_ones) ∙ ap cleared (joined-ones a h);
  },
)

pub cleared_once : ClearedOnce
unfolding joined_cleared
cleared_once a b c = cleared-before (joined a b) c

-- ---- the bytes of three certificates

-- 20 bytes as a certificate
abbrev pub twenty : List ℕ → Rights
twenty d = record { flags = get_or d 0 0; travel = get_or d 1 0; visa = get_or d 2 0; biometrics = drop 3 d }

pub certificate_in : (c d : List ℕ) (k : ℕ) → part c (20 * k) 20 ≡ d → certificate c k ≡ twenty d
unfolding certificate
certificate_in c d k e =
    let z : 20 * k + 0 ≡ 20 * k = omega arith in
    rw (← e, get_d_part c (20 * k) 20 0 (lit< tt), get_d_part c (20 * k) 20 1 (lit< tt), get_d_part c (20 * k) 20 2 (lit< tt), z, drop-part c (20 * k) 3 17) refl

pub parts_of : (a b c : List ℕ) → length a ≡ 20 → length b ≡ 20 → length c ≡ 20
    → (part (a ++ (b ++ c)) 0 20 ≡ a) × (part (a ++ (b ++ c)) 20 20 ≡ b) × (part (a ++ (b ++ c)) 40 20 ≡ c)
parts_of a b c h i j =
    let l = length-append a b in
    let d : drop 40 (a ++ (b ++ c)) ≡ c = rw (← append_assoc a b c) (drop_at (a ++ b) c 40 (omega arith)) in (
      take_at a (b ++ c) 20 h,
      rw (drop_at a (b ++ c) 20 h) (take_at b c 20 i),
      rw d (rw append-nil at (take_at c [] 20 j)),
    )

three : (a b c : List ℕ) → length a ≡ 20 → length b ≡ 20 → length c ≡ 20
    → effective (a ++ (b ++ c)) ≡ cleared (joined (joined (twenty a) (twenty b)) (twenty c))
unfolding effective
three a b c h i j =
    let p = parts_of a b c h i j in
    let n : length (a ++ (b ++ c)) ≡ 60 = omega (arith, length-append a (b ++ c), length-append b c) in
    rw (eq-eqb (length (a ++ (b ++ c))) 60 n, certificate_in (a ++ (b ++ c)) a 0 p.0, certificate_in (a ++ (b ++ c)) b 1 p.1, certificate_in (a ++ (b ++ c)) c 2 p.2) refl

-- the first two exchanged, and the last two
module _ (a b c : List ℕ) (h : length a ≡ 20) (i : length b ≡ 20) (j : length c ≡ 20) where
  first_two : effective (b ++ (a ++ c)) ≡ effective (a ++ (b ++ c))
  first_two = three b a c i h j ∙ ap (λ (r : Rights). cleared (joined r (twenty c))) (joined-order (twenty b) (twenty a)) ∙ sym (three a b c h i j)

  last-two : effective (a ++ (c ++ b)) ≡ effective (a ++ (b ++ c))
  last-two =
      three a c b h j i
      ∙ ap cleared (joined-grouping (twenty a) (twenty c) (twenty b) ∙ ap (joined (twenty a)) (joined-order (twenty c) (twenty b)) ∙ sym (joined-grouping (twenty a) (twenty b) (twenty c)))
      ∙ sym (three a b c h i j)

pub any_order : AnyOrder
any_order a b c h i j =
    record {
      acb = last-two a b c h i j;
      bac = first_two a b c h i j;
      bca = last-two b a c i h j ∙ first_two a b c h i j;
      cab = first_two a c b h j i ∙ last-two a b c h i j;
      cba = last-two c a b j h i ∙ first_two a c b h j i ∙ last-two a b c h i j;
    }
