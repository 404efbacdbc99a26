-- Laws of rights: joining them, fewer of them, and what three certificates grant. Each law is a type; the theorem of the same name is in
-- ../proofs/Joining.antt or ../proofs/Subsets.antt. Read before: Rights.antt, Chain.antt.
use Rattle.std.specs.Prelude.{ℕ, zero, suc, ◌≤◌, ◌<◌, ◌≡◌, Bool, true, false, List, ◌++◌, length, get_or, replicate}
use Rattle.base.specs.Bytes.{AllBytes}
use Rattle.machine_rights.specs.declared.Rights.{Rights}
use Rattle.machine_rights.specs.Rights.{bit, flagged, biometrics_byte, may_records, may_biometrics}
use Rattle.machine_rights.specs.Chain.{certificate, joined, cleared, effective, is_cleared}

-- ---- joining

-- rights whose fields are bytes, 17 of them biometrics bytes [B1] [V4]
pub record RightsOfBytes (r : Rights) : Type 0 where
  pub flags_byte : r.flags < 256
  pub travel_byte : r.travel < 256
  pub visa_byte : r.visa < 256
  pub biometrics_bytes : AllBytes r.biometrics
  pub seventeen : length r.biometrics ≡ 17

-- every bit is set, those without a meaning too [B13]
unfoldable pub all_ones : Rights
all_ones = record { flags = 255; travel = 255; visa = 255; biometrics = replicate 17 255 }

-- joined, and then cleared [B13]
unfoldable pub joined_cleared : Rights → Rights → Rights
joined_cleared a b = cleared (joined a b)

-- laws of a way to join two sets of rights [B13]
pub record JoiningLaws (join : Rights → Rights → Rights) : Type 0 where
  -- order and grouping do not matter
  pub order : (a b : Rights) → join a b ≡ join b a
  pub grouping : (a b c : Rights) → join (join a b) c ≡ join a (join b c)
  -- a cleared set joined with itself is itself
  pub itself : (a : Rights) → is_cleared a ≡ true → join a a ≡ a
  -- all ones are neutral, up to the cleared form
  pub ones : (a : Rights) → RightsOfBytes a → cleared (join a all_ones) ≡ cleared a

-- the laws hold where bits without a meaning are cleared once, at the end, and where they are cleared at each join [B13]
abbrev pub Joining : Type 0
Joining = JoiningLaws joined × JoiningLaws joined_cleared

-- and both give the same: on the right stands what `effective` is [B13]
abbrev pub ClearedOnce : Type 0
ClearedOnce = (a b c : Rights) → joined_cleared (joined_cleared a b) c ≡ cleared (joined (joined a b) c)

-- three certificates, a, b and c, have the same effective rights in each of their six orders [B14]
pub record SixOrders (a b c : List ℕ) : Type 0 where
  pub acb : effective (a ++ (c ++ b)) ≡ effective (a ++ (b ++ c))
  pub bac : effective (b ++ (a ++ c)) ≡ effective (a ++ (b ++ c))
  pub bca : effective (b ++ (c ++ a)) ≡ effective (a ++ (b ++ c))
  pub cab : effective (c ++ (a ++ b)) ≡ effective (a ++ (b ++ c))
  pub cba : effective (c ++ (b ++ a)) ≡ effective (a ++ (b ++ c))

-- the 60 bytes that an opening takes are three certificates of 20 [B14]
abbrev pub AnyOrder : Type 0
AnyOrder = (a b c : List ℕ) → length a ≡ 20 → length b ≡ 20 → length c ≡ 20 → SixOrders a b c

-- ---- fewer rights

-- every bit of x, from b1 to b8, is a bit of y [B15]
abbrev pub BitsWithin : ℕ → ℕ → Type 0
BitsWithin x y = (b : ℕ) → 1 ≤ b → b ≤ 8 → bit x b ≡ true → bit y b ≡ true

-- the rights `few` are a subset of the rights `many`: bit by bit, in the bytes that Tables 21 to 23 of ICAO's report have, and in the flags [B15]
pub record Subset (few many : Rights) : Type 0 where
  pub flags : BitsWithin few.flags many.flags
  pub travel : BitsWithin few.travel many.travel
  pub visa : BitsWithin few.visa many.visa
  pub biometrics : (k : ℕ) → 1 ≤ k → k ≤ 17 → BitsWithin (biometrics_byte few k) (biometrics_byte many k)

-- each right that a command asks for, and that `few` grant, `many` grant [B15]
pub record GrantsNoMore (few many : Rights) : Type 0 where
  pub applications : (a : ℕ) → flagged few a ≡ true → flagged many a ≡ true
  pub records : (a : ℕ) (certificates append : Bool) → may_records few a certificates append ≡ true → may_records many a certificates append ≡ true
  pub files : (n : ℕ) (activated : Bool) → may_biometrics few n activated ≡ true → may_biometrics many n activated ≡ true

-- [B15]
abbrev pub SubsetGrants : Type 0
SubsetGrants = (few many : Rights) → Subset few many → GrantsNoMore few many

-- rights in cleared form that grant no more are a subset: each bit of theirs serves something [B15]
abbrev pub GrantsSubset : Type 0
GrantsSubset = (few many : Rights) → is_cleared few ≡ true → GrantsNoMore few many → Subset few many

-- ---- what three certificates grant

-- what the three grant, each of them grants [B16]
abbrev pub EachGrants : Type 0
EachGrants =
    (c : List ℕ) (k : ℕ) → k < 3 → Subset (effective c) (cleared (certificate c k)) × GrantsNoMore (effective c) (cleared (certificate c k))

-- taking bits away from certificates adds no effective right: c and d are three certificates each, and no certificate of d has a bit that the same
-- one of c has not [B16]
abbrev pub FewerBits : Type 0
FewerBits =
    (c d : List ℕ) → length c ≡ 60 → ((k : ℕ) → k < 3 → Subset (certificate d k) (certificate c k)) → Subset (effective d) (effective c)

-- rights that grant nothing of the application a: neither to select it, nor to use a file of it; 3 is biometrics [B16]
pub record NothingOf (r : Rights) (a : ℕ) : Type 0 where
  pub application : flagged r a ≡ false
  pub records : (certificates append : Bool) → may_records r a certificates append ≡ false
  pub files : a ≡ 3 → (n : ℕ) (activated : Bool) → may_biometrics r n activated ≡ false

-- a certificate that lacks an extension takes its application away, whatever the others say [B16]
abbrev pub LackingExtension : Type 0
LackingExtension = (c : List ℕ) (k a : ℕ) → k < 3 → 1 ≤ a → a ≤ 3 → flagged (certificate c k) a ≡ false → NothingOf (effective c) a

-- ---- which bits there are

-- byte i of the 20 of rights, counted from 0: the flags, the travel byte, the visa byte, the 17 biometrics bytes [B1]
unfoldable pub rights_byte : Rights → ℕ → ℕ
rights_byte r zero = r.flags
rights_byte r (suc zero) = r.travel
rights_byte r (suc (suc zero)) = r.visa
rights_byte r (suc (suc (suc i))) = get_or r.biometrics i 0

-- how many bits of it have a meaning, from b1 on: 3 flags, 4 of travel, 4 of visa, 2 of biometrics certificates, and 8 of each of the 16 bytes of
-- biometrics files; together 141 [B2] [B7] [B8] [B9]
unfoldable pub bits_of : ℕ → ℕ
bits_of zero = 3
bits_of (suc zero) = 4
bits_of (suc (suc zero)) = 4
bits_of (suc (suc (suc zero))) = 2
bits_of (suc (suc (suc (suc i)))) = 8
