-- Fewer rights: a subset grants no more, rights in cleared form that grant no more are a subset, and what three certificates grant each of them
-- grants. Read before: specs/Joining.antt. Exports the theorems `subset_grants`, `grants_subset`, `each_grants`, `fewer_bits` and `lacking_extension`,
-- and `cleared_subset`, `nothing-within`.
use Prim.Native.Nat.{ℕ, zero, suc, ◌+◌, ◌-◌, ◌*◌, ◌/◌, ◌%◌, ◌≤◌, ◌<◌}
use mathlib.Core.Path.{◌≡◌, refl, sym, ap, ◌∙◌}
use mathlib.Core.Bool.{Bool, true, false}
use mathlib.Core.List.{List, [], ◌∷◌}
use native.Mathlib.Omega.{arith}
use lib.ListN.{length, get_or, set}
use lib.Dec.{leb, eqb}
use lib.Bits.{bit_and, and_comm}
use borrow.Author.Tests.{le-leb, leb-true, eq-eqb}
use Rattle.base.specs.Choice.{if_else}
use Rattle.base.proofs.Cases.{by_cases, if_else_ind, false-true, and_left, and_right, all_of_facts, all_of_accepted}
use Rattle.machine_rights.specs.declared.Rights.{Rights}
use Rattle.machine_rights.specs.Rights.{bit, flagged, biometrics_byte, record_bit, certificate_bit, may_records, biometrics_bit, may_biometrics}
use Rattle.machine_rights.specs.Chain.{certificate, joined, cleared_bytes, cleared, no_rights, effective, is_cleared}
use Rattle.machine_rights.specs.Joining.{BitsWithin, Subset, GrantsNoMore, SubsetGrants, GrantsSubset, EachGrants, FewerBits, LackingExtension}
use Rattle.machine_rights.proofs.Elements.{get_d_joined}
use Rattle.machine_rights.proofs.Table23.{biometrics_bit_formula, biometrics_bit-inside}
use Rattle.machine_rights.proofs.Answers.{in-travel, in-visa}
use Rattle.machine_rights.proofs.Laws.{bit-zero, all_alike, cleared-is, effective-cleared, unflagged_records, unflagged_biometrics}
use Rattle.machine_rights.proofs.Bits.{each-bit, bit-and-left, bit-and_both, within-and, within_low, bit-low, low_bit}
use Rattle.machine_rights.proofs.Joining.{joining}

-- ---- a subset grants no more

-- a choice by the same test
either : (t : Bool) {x x' y y' : Bool} → (x ≡ true → x' ≡ true) → (y ≡ true → y' ≡ true) → if_else t x y ≡ true → if_else t x' y' ≡ true
either true f g = f
either false f g = g

record_bit-inside : (certificates append : Bool) → (1 ≤ record_bit certificates append) × (record_bit certificates append ≤ 4)
unfolding record_bit
record_bit-inside true true = (omega arith, omega arith)
record_bit-inside true false = (omega arith, omega arith)
record_bit-inside false true = (omega arith, omega arith)
record_bit-inside false false = (omega arith, omega arith)

certificate_bit-inside : (append : Bool) → (1 ≤ certificate_bit append) × (certificate_bit append ≤ 2)
unfolding certificate_bit
certificate_bit-inside true = (omega arith, omega arith)
certificate_bit-inside false = (omega arith, omega arith)

module _ (few many : Rights) (s : Subset few many) where
  fewer-flagged : (a : ℕ) → flagged few a ≡ true → flagged many a ≡ true
  unfolding flagged
  fewer-flagged a e =
      let h = all_of_facts _ e in
      let u = leb-true a 3 h.1.0 in
      all_of_accepted _ (h.0, (h.1.0, (s.flags a (leb-true 1 a h.0) (omega arith) h.1.1.0, tt)))

  fewer-records : (a : ℕ) (certificates append : Bool) → may_records few a certificates append ≡ true → may_records many a certificates append ≡ true
  unfolding may_records
  fewer-records a certificates append =
      let r = record_bit-inside certificates append in
      let c = certificate_bit-inside append in
      either (eqb a 1) (s.travel (record_bit certificates append) r.0 (omega arith))
      (either (eqb a 2) (s.visa (record_bit certificates append) r.0 (omega arith))
      (either (eqb a 3)
      (λ e.
      let t = and_left certificates (bit (biometrics_byte few 1) (certificate_bit append)) e in
      let b = and_right certificates (bit (biometrics_byte few 1) (certificate_bit append)) e in
      rw (t, s.biometrics 1 (omega arith) (omega arith) (certificate_bit append) c.0 (omega arith) b) refl)
      (λ e. e)))

  fewer-files : (n : ℕ) (activated : Bool) → may_biometrics few n activated ≡ true → may_biometrics many n activated ≡ true
  unfolding may_biometrics
  fewer-files n activated e =
      let h = all_of_facts _ e in
      let b = biometrics_bit-inside n activated (biometrics_bit n activated) refl (leb-true n 64 h.1.0) in
      all_of_accepted _
      (h.0, (h.1.0, (s.biometrics (biometrics_bit n activated).byte b.0.0 b.0.1 (biometrics_bit n activated).bit b.1.0 b.1.1 h.1.1.0, tt)))

pub subset_grants : SubsetGrants
subset_grants few many s = record { applications = fewer-flagged few many s; records = fewer-records few many s; files = fewer-files few many s }

-- ---- rights in cleared form that grant no more are a subset

-- b1 to b4 of a record byte, b1 and b2 of biometrics byte 1, by what they serve
record_bits : (P : ℕ → Type 0) → ((certificates append : Bool) → P (record_bit certificates append)) → (b : ℕ) → 1 ≤ b → b ≤ 4 → P b
unfolding record_bit
record_bits P f zero h k = absurd (omega arith)
record_bits P f (suc zero) h k = f false false
record_bits P f (suc (suc zero)) h k = f false true
record_bits P f (suc (suc (suc zero))) h k = f true false
record_bits P f (suc (suc (suc (suc zero)))) h k = f true true
record_bits P f (suc (suc (suc (suc (suc b))))) h k = absurd (omega arith)

certificate_bits : (P : ℕ → Type 0) → ((append : Bool) → P (certificate_bit append)) → (b : ℕ) → 1 ≤ b → b ≤ 2 → P b
unfolding certificate_bit
certificate_bits P f zero h k = absurd (omega arith)
certificate_bits P f (suc zero) h k = f false
certificate_bits P f (suc (suc zero)) h k = f true
certificate_bits P f (suc (suc (suc b))) h k = absurd (omega arith)

-- no bit of 0 is set
unset : {A : Type 0} (b : ℕ) → bit 0 b ≡ true → A
unset b e = false-true (sym (bit-zero b) ∙ e)

pub nothing-within : (x : ℕ) → BitsWithin 0 x
nothing-within x b _ _ e = unset b e

-- a bit of a byte under a flag is a bit of that byte
under_flag : (t : Bool) (x b : ℕ) → bit (if_else t x 0) b ≡ true → bit x b ≡ true
under_flag true x b e = e
under_flag false x b e = unset b e

-- a record byte in cleared form, where the other has each bit of it that serves something
record_within : (x y : ℕ) (flag : Bool) → if_else flag (x % 16) 0 ≡ x
    → ((certificates append : Bool) → bit x (record_bit certificates append) ≡ true → bit y (record_bit certificates append) ≡ true) → BitsWithin x y
record_within x y flag e f b h k t =
    let u : b ≤ 4 = low_bit 4 x b h (under_flag flag (x % 16) b (rw e t)) in
    record_bits (λ (c : ℕ). bit x c ≡ true → bit y c ≡ true) f b h u t

first_byte : (x : List ℕ) → get_or (set x 0 (get_or x 0 0 % 4)) 0 0 ≡ get_or x 0 0 % 4
first_byte [] = refl
first_byte (a ∷ x) = refl

other_byte : (x : List ℕ) (v j : ℕ) → get_or (set x 0 v) (suc j) 0 ≡ get_or x (suc j) 0
other_byte [] v j = refl
other_byte (a ∷ x) v j = refl

-- Biometrics 4(k - 2) + i + 1 is file i of byte k, counted from 0
file-bit : (k i b : ℕ) (activated : Bool) → 2 ≤ k → i < 4 → b ≡ if_else activated (7 - 2 * i) (8 - 2 * i)
    → biometrics_bit (4 * (k - 2) + i + 1) activated ≡ record { byte = k; bit = b }
file-bit k i b activated h l e =
    let n : ℕ = 4 * (k - 2) + i + 1 in
    let q : 2 + (n - 1) / 4 ≡ k = omega arith in
    let r : i ≡ (n - 1) % 4 = omega arith in
    biometrics_bit_formula n i activated r ∙ (λ j. record { byte = q j; bit = sym e j })

module _ (few many : Rights) (z : is_cleared few ≡ true) (g : GrantsNoMore few many) where
  is : cleared few ≡ few
  is = cleared-is few z

  flags-within : BitsWithin few.flags many.flags
  unfolding flagged cleared
  flags-within b h k t =
      let e : few.flags % 8 ≡ few.flags = ap (λ (r : Rights). r.flags) is in
      let u : b ≤ 3 = low_bit 3 few.flags b h (rw e t) in
      (all_of_facts _ (g.applications b (all_of_accepted _ (le-leb 1 b h, (le-leb b 3 u, (t, tt)))))).1.1.0

  travel-within : BitsWithin few.travel many.travel
  unfolding cleared
  travel-within =
      record_within few.travel many.travel (bit few.flags 1) (ap (λ (r : Rights). r.travel) is)
      (λ c a y. in-travel many 1 c a (record_bit c a) refl refl ∙ g.records 1 c a (sym (in-travel few 1 c a (record_bit c a) refl refl) ∙ y))

  visa-within : BitsWithin few.visa many.visa
  unfolding cleared
  visa-within =
      record_within few.visa many.visa (bit few.flags 2) (ap (λ (r : Rights). r.visa) is)
      (λ c a y. in-visa many 2 c a (record_bit c a) refl refl ∙ g.records 2 c a (sym (in-visa few 2 c a (record_bit c a) refl refl) ∙ y))

  -- byte 1 is for certificates
  first-cleared : (t : Bool) (x : List ℕ) (b : ℕ) → bit (get_or (cleared_bytes t x) 0 0) b ≡ true → bit (get_or x 0 0 % 4) b ≡ true
  unfolding cleared_bytes
  first-cleared true x b e = rw (first_byte x) at e
  first-cleared false x b e = unset b e

  first-within : BitsWithin (biometrics_byte few 1) (biometrics_byte many 1)
  unfolding cleared biometrics_byte
  first-within b h k t =
      let x : List ℕ = few.biometrics in
      let e : cleared_bytes (bit few.flags 3) x ≡ x = ap (λ (r : Rights). r.biometrics) is in
      let u : b ≤ 2 = low_bit 2 (get_or x 0 0) b h (first-cleared (bit few.flags 3) x b (rw e t)) in
      certificate_bits (λ (c : ℕ). bit (get_or x 0 0) c ≡ true → bit (get_or many.biometrics 0 0) c ≡ true)
      (λ a y. unfold may_records biometrics_byte in g.records 3 true a y) b h u t

  -- byte k from 2 on is for four files
  file-within : (k : ℕ) → 2 ≤ k → k ≤ 17 → (i b : ℕ) (activated : Bool) → i < 4 → b ≡ if_else activated (7 - 2 * i) (8 - 2 * i)
      → bit (biometrics_byte few k) b ≡ true → bit (biometrics_byte many k) b ≡ true
  unfolding may_biometrics
  file-within k l m i b activated o e t =
      let n : ℕ = 4 * (k - 2) + i + 1 in
      let f : biometrics_bit n activated ≡ record { byte = k; bit = b } = file-bit k i b activated l o e in
      let yes-1 : leb 1 n ≡ true = le-leb 1 n (omega arith) in
      let yes-64 : leb n 64 ≡ true = le-leb n 64 (omega arith) in
      let w : may_biometrics few n activated ≡ true = rw f (all_of_accepted _ (yes-1, (yes-64, (t, tt)))) in
      rw f at (all_of_facts _ (g.files n activated w)).1.1.0

  files-within : (k : ℕ) → 2 ≤ k → k ≤ 17 → BitsWithin (biometrics_byte few k) (biometrics_byte many k)
  files-within k l m =
      let at : (i b : ℕ) (activated : Bool) → i < 4 → b ≡ if_else activated (7 - 2 * i) (8 - 2 * i) → bit (biometrics_byte few k) b ≡ true → bit (biometrics_byte many k) b ≡ true
      = file-within k l m in
      each-bit (λ (b : ℕ). bit (biometrics_byte few k) b ≡ true → bit (biometrics_byte many k) b ≡ true)
      (at 3 1 true (omega arith) refl) (at 3 2 false (omega arith) refl) (at 2 3 true (omega arith) refl) (at 2 4 false (omega arith) refl)
      (at 1 5 true (omega arith) refl) (at 1 6 false (omega arith) refl) (at 0 7 true (omega arith) refl) (at 0 8 false (omega arith) refl)

  biometrics-within : (k : ℕ) → 1 ≤ k → k ≤ 17 → BitsWithin (biometrics_byte few k) (biometrics_byte many k)
  biometrics-within zero h l = absurd (omega arith)
  biometrics-within (suc zero) h l = first-within
  biometrics-within (suc (suc k)) h l = files-within (suc (suc k)) (omega arith) l

pub grants_subset : GrantsSubset
grants_subset few many z g =
    record {
      flags = flags-within few many z g;
      travel = travel-within few many z g;
      visa = visa-within few many z g;
      biometrics = biometrics-within few many z g;
    }

-- ---- three certificates

-- under a flag that the other has, too
under_within : (p q : Bool) (x y : ℕ) → (p ≡ true → q ≡ true) → BitsWithin x y → BitsWithin (if_else p x 0) (if_else q y 0)
under_within true q x y h w = rw (h refl) w
under_within false q x y h w = nothing-within (if_else q y 0)

bytes-within : (p q : Bool) (x y : List ℕ) → (p ≡ true → q ≡ true) → (j : ℕ)
    → BitsWithin (get_or x j 0) (get_or y j 0) → BitsWithin (get_or (cleared_bytes p x) j 0) (get_or (cleared_bytes q y) j 0)
unfolding cleared_bytes
bytes-within true q x y h zero w = rw (h refl, first_byte x, first_byte y) (within_low 2 (get_or x 0 0) (get_or y 0 0) w)
bytes-within true q x y h (suc j) w = rw (h refl, other_byte x (get_or x 0 0 % 4) j, other_byte y (get_or y 0 0 % 4) j) w
bytes-within false q x y h j w = rw (all_alike 17 j 0) (nothing-within (get_or (cleared_bytes q y) j 0))

-- clearing keeps a subset one, and so does joining
pub cleared_subset : (few many : Rights) → Subset few many → Subset (cleared few) (cleared many)
unfolding cleared biometrics_byte
cleared_subset few many s =
    let flag : (b : ℕ) → 1 ≤ b → b ≤ 8 → bit few.flags b ≡ true → bit many.flags b ≡ true = s.flags in
    record {
      flags = within_low 3 few.flags many.flags s.flags;
      travel = under_within (bit few.flags 1) (bit many.flags 1) _ _ (flag 1 (omega arith) (omega arith)) (within_low 4 few.travel many.travel s.travel);
      visa = under_within (bit few.flags 2) (bit many.flags 2) _ _ (flag 2 (omega arith) (omega arith)) (within_low 4 few.visa many.visa s.visa);
      biometrics = λ k h l. bytes-within (bit few.flags 3) (bit many.flags 3) few.biometrics many.biometrics (flag 3 (omega arith) (omega arith)) (k - 1) (s.biometrics k h l);
    }

and-within : (x y u v : ℕ) → BitsWithin x u → BitsWithin y v → BitsWithin (bit_and x y) (bit_and u v)
and-within x y u v p q b h k t =
    bit-and_both u v b (p b h k (bit-and-left x y b t)) (q b h k (bit-and-left y x b (rw (and_comm y x) t)))

joined_subset : (a b c d : Rights) → Subset a c → Subset b d → Subset (joined a b) (joined c d)
unfolding joined biometrics_byte
joined_subset a b c d s t =
    record {
      flags = and-within a.flags b.flags c.flags d.flags s.flags t.flags;
      travel = and-within a.travel b.travel c.travel d.travel s.travel t.travel;
      visa = and-within a.visa b.visa c.visa d.visa s.visa t.visa;
      biometrics = λ k h l.
          rw (get_d_joined a.biometrics b.biometrics (k - 1), get_d_joined c.biometrics d.biometrics (k - 1))
          (and-within (get_or a.biometrics (k - 1) 0) (get_or b.biometrics (k - 1) 0) (get_or c.biometrics (k - 1) 0) (get_or d.biometrics (k - 1) 0) (s.biometrics k h l) (t.biometrics k h l));
    }

joined_front : (a b : Rights) → Subset (joined a b) a
unfolding joined biometrics_byte
joined_front a b =
    record {
      flags = within-and a.flags b.flags;
      travel = within-and a.travel b.travel;
      visa = within-and a.visa b.visa;
      biometrics = λ k _ _. rw (get_d_joined a.biometrics b.biometrics (k - 1)) (within-and (get_or a.biometrics (k - 1) 0) (get_or b.biometrics (k - 1) 0));
    }

none_subset : (r : Rights) → Subset no_rights r
unfolding no_rights biometrics_byte
none_subset r =
    record {
      flags = nothing-within r.flags;
      travel = nothing-within r.travel;
      visa = nothing-within r.visa;
      biometrics = λ k _ _. rw (all_alike 17 (k - 1) 0) (nothing-within (get_or r.biometrics (k - 1) 0));
    }

-- each of the three can stand in front
in_front : (c : List ℕ) (k : ℕ) → k < 3
    → (r : Rights) × (joined (joined (certificate c 0) (certificate c 1)) (certificate c 2) ≡ joined (certificate c k) r)
in_front c zero h = (_, joining.0.grouping (certificate c 0) (certificate c 1) (certificate c 2))
in_front c (suc zero) h = (
  _,
  ap (λ (r : Rights). joined r (certificate c 2)) (joining.0.order (certificate c 0) (certificate c 1))
      ∙ joining.0.grouping (certificate c 1) (certificate c 0) (certificate c 2),
)
in_front c (suc (suc zero)) h = (_, joining.0.order (joined (certificate c 0) (certificate c 1)) (certificate c 2))
in_front c (suc (suc (suc k))) h = absurd (omega arith)

effective_subset : (c : List ℕ) (k : ℕ) → k < 3 → Subset (effective c) (cleared (certificate c k))
unfolding effective
effective_subset c k h =
    if_else_ind (λ (r : Rights). Subset r (cleared (certificate c k))) (eqb (length c) 60)
    (λ _. let f = in_front c k h in rw f.1 (cleared_subset _ _ (joined_front (certificate c k) f.0)))
    (λ _. none_subset (cleared (certificate c k)))

pub each_grants : EachGrants
each_grants c k h = let s = effective_subset c k h in (s, subset_grants (effective c) (cleared (certificate c k)) s)

pub fewer_bits : FewerBits
unfolding effective
fewer_bits c d e h =
    rw (eq-eqb (length c) 60 e)
    (if_else_ind (λ (r : Rights). Subset r (cleared (joined (joined (certificate c 0) (certificate c 1)) (certificate c 2)))) (eqb (length d) 60)
    (λ _. cleared_subset _ _
    (joined_subset _ _ _ _ (joined_subset _ _ _ _ (h 0 (omega arith)) (h 1 (omega arith))) (h 2 (omega arith))))
    (λ _. none_subset _))

-- clearing sets no flag
cleared-flagged : (r : Rights) (a : ℕ) → flagged (cleared r) a ≡ true → flagged r a ≡ true
unfolding flagged cleared
cleared-flagged r a e = let h = all_of_facts _ e in all_of_accepted _ (h.0, (h.1.0, (bit-low 3 r.flags a h.1.1.0, tt)))

pub lacking_extension : LackingExtension
lacking_extension c k a h i j e =
    let f : flagged (effective c) a ≡ false
    = by_cases (flagged (effective c) a)
    (λ t. false-true (sym e ∙ cleared-flagged (certificate c k) a ((each_grants c k h).1.applications a t)))
    (λ t. t) in
    record {
      application = f;
      records = λ x y. unflagged_records (effective c) (effective-cleared c) a x y f;
      files = λ q n x. unflagged_biometrics (effective c) (effective-cleared c) n x (ap (flagged (effective c)) (sym q) ∙ f);
    }
