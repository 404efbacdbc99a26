-- The rights: clearing them twice is clearing them once, effective rights are in cleared form, and without its flag an application has no
-- right. Read before: specs/Chain.antt. Exports `cleared-is`, `effective-cleared`, `effective-length`, `held-length`,
-- `no-…` (a byte without its flag), `unflagged_…`.
use Prim.Native.Nat.{ℕ, zero, suc, ◌-◌, ◌/◌, ◌%◌, ◌≤◌}
use mathlib.Core.Path.{◌≡◌, refl, sym, ap, ◌∙◌}
use mathlib.Core.Bool.{Bool, true, false, and-true, and-false}
use mathlib.Core.List.{List, [], ◌∷◌}
use native.Mathlib.Omega.{arith}
use native.Mathlib.Nat.{zero-div}
use lib.ListN.{length, get_or, set, replicate, length-set}
use lib.Dec.{ltb, eqb}
use borrow.Author.Tests.{le-leb, ltb-false, eq-eqb, ne_eqb, eqb-true}
use Rattle.base.specs.Choice.{if_else, all_of}
use Rattle.base.proofs.Cases.{if_else_ind, all_of_facts as held-tests}
use Rattle.base.specs.Bytes.{same_bytes}
use Rattle.base.proofs.Same.{same_equal, same_refl}
use Rattle.base.proofs.Parts.{length_part}
use Rattle.machine_rights.specs.declared.Rights.{Rights}
use Rattle.machine_rights.specs.Rights.{bit, flagged, biometrics_byte, may_records, biometrics_bit, may_biometrics}
use Rattle.machine_rights.specs.Chain.{certificate, joined_bytes, joined, cleared_bytes, cleared, no_rights, effective, held, same, is_cleared}

-- ---- the same

pub same_self : (r : Rights) → same r r ≡ true
unfolding same all_of
same_self r =
    simp (eq-eqb r.flags r.flags refl, eq-eqb r.travel r.travel refl, eq-eqb r.visa r.visa refl, same_refl r.biometrics)

pub same-is : (a b : Rights) → same a b ≡ true → a ≡ b
unfolding same
same-is a b e =
    let h = held-tests _ e in
    λ i. record {
      flags = eqb-true a.flags b.flags h.0 i;
      travel = eqb-true a.travel b.travel h.1.0 i;
      visa = eqb-true a.visa b.visa h.1.1.0 i;
      biometrics = same_equal a.biometrics b.biometrics h.1.1.1.0 i;
    }

-- ---- the cleared form

-- what is cleared of the flags is none of the three
pub flag_1 : (f : ℕ) → bit (f % 8) 1 ≡ bit f 1
unfolding bit
flag_1 f = ap (λ (z : ℕ). eqb z 1) (let e : f % 8 / 1 % 2 ≡ f / 1 % 2 = omega arith in e)

pub flag_2 : (f : ℕ) → bit (f % 8) 2 ≡ bit f 2
unfolding bit
flag_2 f = ap (λ (z : ℕ). eqb z 1) (let e : f % 8 / 2 % 2 ≡ f / 2 % 2 = omega arith in e)

pub flag_3 : (f : ℕ) → bit (f % 8) 3 ≡ bit f 3
unfolding bit
flag_3 f = ap (λ (z : ℕ). eqb z 1) (let e : f % 8 / 4 % 2 ≡ f / 4 % 2 = omega arith in e)

low_twice : (x : List ℕ) → set (set x 0 (get_or x 0 0 % 4)) 0 (get_or (set x 0 (get_or x 0 0 % 4)) 0 0 % 4) ≡ set x 0 (get_or x 0 0 % 4)
low_twice [] = refl
low_twice (a ∷ x) = ap (λ (k : ℕ). k ∷ x) (let e : a % 4 % 4 ≡ a % 4 = omega arith in e)

byte_twice : (t : Bool) (x : ℕ) → if_else t (if_else t (x % 16) 0 % 16) 0 ≡ if_else t (x % 16) 0
byte_twice true x = omega arith
byte_twice false x = refl

bytes_twice : (t : Bool) (x : List ℕ) → cleared_bytes t (cleared_bytes t x) ≡ cleared_bytes t x
unfolding cleared_bytes
bytes_twice true x = low_twice x
bytes_twice false x = refl

pub cleared-cleared : (r : Rights) → cleared (cleared r) ≡ cleared r
unfolding cleared
cleared-cleared r =
    let f : ℕ = r.flags in
    let m : f % 8 % 8 ≡ f % 8 = omega arith in
    λ i. record {
      flags = m i;
      travel =
          (ap (λ (t : Bool). if_else t (if_else (bit f 1) (r.travel % 16) 0 % 16) 0) (flag_1 f)
          ∙ byte_twice (bit f 1) r.travel) i;
      visa =
          (ap (λ (t : Bool). if_else t (if_else (bit f 2) (r.visa % 16) 0 % 16) 0) (flag_2 f)
          ∙ byte_twice (bit f 2) r.visa) i;
      biometrics =
          (ap (λ (t : Bool). cleared_bytes t (cleared_bytes (bit f 3) r.biometrics)) (flag_3 f)
          ∙ bytes_twice (bit f 3) r.biometrics) i;
    }

pub is-cleared : (r : Rights) → is_cleared (cleared r) ≡ true
unfolding is_cleared
is-cleared r = rw (cleared-cleared r) (same_self (cleared r))

pub cleared-is : (r : Rights) → is_cleared r ≡ true → cleared r ≡ r
unfolding is_cleared
cleared-is r e = same-is (cleared r) r e

none-cleared : is_cleared no_rights ≡ true
unfolding no_rights is_cleared cleared cleared_bytes same same_bytes all_of bit
none-cleared = refl

pub effective-cleared : (c : List ℕ) → is_cleared (effective c) ≡ true
unfolding effective
effective-cleared c =
    if_else_ind (λ (r : Rights). is_cleared r ≡ true) (eqb (length c) 60)
    (λ e. is-cleared (joined (joined (certificate c 0) (certificate c 1)) (certificate c 2)))
    (λ e. none-cleared)

-- ---- 17 biometrics bytes

joined_length : (xs ys : List ℕ) (n : ℕ) → length xs ≡ n → length ys ≡ n → length (joined_bytes xs ys) ≡ n
unfolding joined_bytes
joined_length [] ys n e f = e
joined_length (x ∷ xs) [] n e f = absurd (omega (arith, e, f))
joined_length (x ∷ xs) (y ∷ ys) n e f =
    let h = joined_length xs ys (length xs) refl (omega (arith, e, f)) in omega (arith, e, h)

cleared-length : (t : Bool) (x : List ℕ) → length x ≡ 17 → length (cleared_bytes t x) ≡ 17
unfolding cleared_bytes
cleared-length true x e = length-set x 0 (get_or x 0 0 % 4) ∙ e
cleared-length false x e = refl

pub effective-length : (c : List ℕ) → length (effective c).biometrics ≡ 17
unfolding effective cleared joined certificate no_rights
effective-length c =
    if_else_ind (λ (r : Rights). length r.biometrics ≡ 17) (eqb (length c) 60)
    (λ e. let h = eqb-true (length c) 60 e in
    cleared-length (bit _ 3) _ (joined_length _ _ 17
    (joined_length _ _ 17 (length_part c 3 17 (omega (arith, h))) (length_part c 23 17 (omega (arith, h)))) (length_part c 43 17 (omega (arith, h)))))
    (λ e. refl)

pub held-length : (xs : List ℕ) → length (held xs).biometrics ≡ 17
unfolding held certificate no_rights
held-length xs =
    if_else_ind (λ (r : Rights). length r.biometrics ≡ 17) (ltb (length xs) 20)
    (λ e. refl)
    (λ e. let h = ltb-false (length xs) 20 e in length_part xs 3 17 (omega (arith, h)))

-- a chain that has not 60 bytes gives what 60 zero bytes give
pub not_sixty : (c : List ℕ) → (length c ≡ 60 → ⊥) → effective c ≡ effective (replicate 60 0)
unfolding effective certificate joined joined_bytes cleared cleared_bytes no_rights bit
not_sixty c h = simp (ne_eqb (length c) 60 h)

-- ---- cleared rights without the flag of an application have none of its rights

pub bit-zero : (b : ℕ) → bit 0 b ≡ false
unfolding bit
bit-zero b = simp zero-div

pub all_alike : (n i d : ℕ) → get_or (replicate n d) i d ≡ d
all_alike zero i d = refl
all_alike (suc n) zero d = refl
all_alike (suc n) (suc i) d = all_alike n i d

no_bit : (r : Rights) (a : ℕ) → 1 ≤ a → a ≤ 3 → flagged r a ≡ false → bit r.flags a ≡ false
unfolding flagged all_of
no_bit r a h k e = simp (le-leb _ _ h, le-leb _ _ k, and-true) at e

module _ (r : Rights) (e : is_cleared r ≡ true) where
  pub no_travel : bit r.flags 1 ≡ false → r.travel ≡ 0
  unfolding cleared
  no_travel f = sym (ap (λ (s : Rights). s.travel) (cleared-is r e)) ∙ ap (λ (t : Bool). if_else t (r.travel % 16) 0) f

  pub no_visa : bit r.flags 2 ≡ false → r.visa ≡ 0
  unfolding cleared
  no_visa f = sym (ap (λ (s : Rights). s.visa) (cleared-is r e)) ∙ ap (λ (t : Bool). if_else t (r.visa % 16) 0) f

  pub no_byte : (k : ℕ) → bit r.flags 3 ≡ false → biometrics_byte r k ≡ 0
  unfolding cleared cleared_bytes biometrics_byte
  no_byte k f =
      ap (λ (x : List ℕ). get_or x (k - 1) 0)
      (sym (ap (λ (s : Rights). s.biometrics) (cleared-is r e)) ∙ ap (λ (t : Bool). cleared_bytes t r.biometrics) f)
      ∙ all_alike 17 (k - 1) 0

  pub unflagged_records : (a : ℕ) (certificates append : Bool) → flagged r a ≡ false → may_records r a certificates append ≡ false
  unfolding may_records
  unflagged_records a certificates append f =
      let no : (n : ℕ) → 1 ≤ n → n ≤ 3 → eqb a n ≡ true → bit r.flags n ≡ false
      = λ n h k q. no_bit r n h k (ap (flagged r) (sym (eqb-true a n q)) ∙ f) in
      if_else_ind (λ (t : Bool). t ≡ false) (eqb a 1)
      (λ q. simp (no_travel (no 1 (omega arith) (omega arith) q)) (bit-zero _))
      (λ _. if_else_ind (λ (t : Bool). t ≡ false) (eqb a 2)
      (λ q. simp (no_visa (no 2 (omega arith) (omega arith) q)) (bit-zero _))
      (λ _. if_else_ind (λ (t : Bool). t ≡ false) (eqb a 3)
      (λ q. simp (no_byte 1 (no 3 (omega arith) (omega arith) q), bit-zero, and-false))
      (λ _. refl)))

  pub unflagged_biometrics : (n : ℕ) (activated : Bool) → flagged r 3 ≡ false → may_biometrics r n activated ≡ false
  unfolding may_biometrics all_of
  unflagged_biometrics n activated f =
      simp (no_byte (biometrics_bit n activated).byte (no_bit r 3 (omega arith) (omega arith) f), bit-zero, and-false)
