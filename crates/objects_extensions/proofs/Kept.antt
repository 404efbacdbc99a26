-- One extension, put into the certificate that those before it give: it adds its flag and its rights, or tells its fault. Read before:
-- specs/Extensions.antt, specs/Faults.antt. Exports `Filled`, `filled_none`, `filled_next`, `none-given`, `flag_is`, `keep_free`, `keep_fault`,
-- `free_or_fault`.
use Prim.Native.Nat.{ℕ, ◌+◌, ◌/◌, ◌%◌, ◌*◌, ◌<◌}
use mathlib.Core.Path.{◌≡◌, refl, sym, ap, ◌∙◌}
use mathlib.Core.Bool.{Bool, true, false}
use mathlib.Core.Logic.{◌⊎◌, inl, inr, ⊎_elim}
use mathlib.Core.List.{List, [], ◌∷◌, ◌++◌, append_assoc, append-nil}
use native.Mathlib.Nat.{zero-mul}
use native.Mathlib.Omega.{arith}
use lib.ListN.{length, get_or, drop, replicate, length-append}
use lib.Seq.{sets-eq, take_at, drop_at}
use lib.Dec.{eqb}
use lib.Bits.{bit_and, bit_or, or_disjoint, and_high}
use borrow.Author.Tests.{eq-eqb, ne_eqb, eqb-true, eqb-false}
use Rattle.base.specs.Choice.{if_else}
use Rattle.base.specs.Bytes.{put}
use Rattle.base.proofs.Cases.{by_cases, false-true}
use Rattle.base.proofs.Same.{same_equal}
use Rattle.base.proofs.Runs.{put_accepted}
use Rattle.objects_extensions.specs.declared.Known.{Known}
use Rattle.objects_extensions.specs.declared.Known.TheVariants.{Travel, Visa, Biometrics}
use Rattle.objects_extensions.specs.declared.ExtensionFault.{ExtensionFault}
use Rattle.objects_extensions.specs.declared.ExtensionFault.TheVariants.{Malformed, Twice}
use Rattle.objects_extensions.specs.Extensions.{Extension, identifier_of, size_of, flag_of, is_for, has_for, rights_for, flag_for, certificate_data, RightSize, FirstTime}
use Rattle.objects_extensions.specs.Faults.{FaultOf, by_size, by-repeat}
use Rattle.objects_extensions.specs.Read.{whole, faulty, rights_place, has_flag, with_known, keeps_known, keeps}

-- ---- which extension it is

-- which one it is, by its flag or by the last byte but one of its identifier
abbrev known_by : ℕ → Known
known_by n = if_else (eqb n 1) Travel (if_else (eqb n 2) Visa Biometrics)

by_flag : (k : Known) → known_by (flag_of k) ≡ k
by_flag Travel = refl
by_flag Visa = refl
by_flag Biometrics = refl

by_identifier : (k : Known) → known_by (get_or (identifier_of k) 6 0) ≡ k
by_identifier Travel = refl
by_identifier Visa = refl
by_identifier Biometrics = refl

-- an extension is for one at most
for_one : (e : Extension) (j k : Known) → is_for j e ≡ true → is_for k e ≡ true → j ≡ k
for_one e j k f g =
    let i : identifier_of j ≡ identifier_of k = sym (same_equal e.identifier (identifier_of j) f) ∙ same_equal e.identifier (identifier_of k) g in
    sym (by_identifier j) ∙ ap (λ (l : List ℕ). known_by (get_or l 6 0)) i ∙ by_identifier k

-- so it is for no other
for_only : (e : Extension) (k : Known) → is_for k e ≡ true → (j : Known) → is_for j e ≡ eqb (flag_of j) (flag_of k)
for_only e k g j =
    by_cases (is_for j e)
    (λ f. f ∙ sym (eq-eqb (flag_of j) (flag_of k) (ap flag_of (for_one e j k f g))))
    (λ f. f ∙ sym (ne_eqb (flag_of j) (flag_of k)
    (λ z. let i : j ≡ k = sym (by_flag j) ∙ ap known_by z ∙ by_flag k in false-true (sym f ∙ ap (λ (x : Known). is_for x e) i ∙ g))))

-- what an extension is for, or that it is not known
known_or_not : (e : Extension) → ((k : Known) × (is_for k e ≡ true)) ⊎ ((k : Known) → is_for k e ≡ false)
known_or_not e =
    by_cases (is_for Travel e) (λ a. inl (Travel, a))
    (λ a. by_cases (is_for Visa e) (λ b. inl (Visa, b))
    (λ b. by_cases (is_for Biometrics e) (λ c. inl (Biometrics, c)) (λ c. inr (none a b c))))
  where
    none : is_for Travel e ≡ false → is_for Visa e ≡ false → is_for Biometrics e ≡ false → (k : Known) → is_for k e ≡ false
    none a b c Travel = a
    none a b c Visa = b
    none a b c Biometrics = c

keeps-known : (c : List ℕ) (e : Extension) (k : Known) → is_for k e ≡ true → keeps c e ≡ keeps_known k c e.rights
unfolding keeps
keeps-known c e Travel f = let o = for_only e Travel f in simp (o Travel)
keeps-known c e Visa f = let o = for_only e Visa f in simp (o Travel, o Visa)
keeps-known c e Biometrics f = let o = for_only e Biometrics f in simp (o Travel, o Visa, o Biometrics)

keeps_unknown : (c : List ℕ) (e : Extension) → ((k : Known) → is_for k e ≡ false) → keeps c e ≡ whole c
unfolding keeps
keeps_unknown c e f = simp (f Travel, f Visa, f Biometrics)

-- ---- what is given behind one extension more

module _ (k : Known) (e : Extension) where
  has-next : (es : List Extension) → has_for k (es ++ (e ∷ [])) ≡ if_else (is_for k e) true (has_for k es)
  unfolding has_for
  has-next [] = refl
  has-next (x ∷ es) =
      by_cases (is_for k x)
      (λ a. simp a (by_cases (is_for k e) (λ b. simp b) (λ b. simp b)))
      (λ a. simp a (has-next es))

  rights-next : (es : List Extension) → (is_for k e ≡ true → has_for k es ≡ false) → rights_for k (es ++ (e ∷ [])) ≡ if_else (is_for k e) e.rights (rights_for k es)
  unfolding has_for rights_for
  rights-next [] n = refl
  rights-next (x ∷ es) n =
      by_cases (is_for k x)
      (λ a. by_cases (is_for k e) (λ b. false-true (sym (simp a at (n b)))) (λ b. simp (a, b)))
      (λ a. simp a (rights-next es (λ b. simp a at (n b))))

-- the rights of each have their size
abbrev pub Filled : List Extension → Type 0
Filled es = (k : Known) → length (rights_for k es) ≡ size_of k

pub filled_none : Filled []
unfolding rights_for
filled_none Travel = refl
filled_none Visa = refl
filled_none Biometrics = refl

pub filled_next : (es : List Extension) (e : Extension) → Filled es → RightSize e → FirstTime es e → Filled (es ++ (e ∷ []))
filled_next es e f z n k =
    rw (rights-next k e es (n k)) (by_cases (is_for k e) (λ a. simp a (z k a)) (λ a. simp a (f k)))

pub none-given : certificate_data [] ≡ replicate 20 0
unfolding certificate_data rights_for has_for
none-given = refl

-- ---- flags

abbrev digit : Bool → ℕ
digit true = 1
digit false = 0

times : (t : Bool) (n : ℕ) → if_else t n 0 ≡ n * digit t
times true n = omega arith
times false n = omega arith

below : (t : Bool) → digit t < 2
below true = omega arith
below false = omega arith

is_set : (t : Bool) → eqb (digit t) 1 ≡ t
is_set true = refl
is_set false = refl

-- the flag of an extension is set exactly where one of those before has its identifier
pub flag_is : (k : Known) (es : List Extension) → has_flag k (certificate_data es) ≡ has_for k es
unfolding certificate_data
flag_is k es = ap (λ (x : ℕ). eqb x 1) (of k) ∙ is_set (has_for k es)
  where
    of : (k : Known) → (flag_for Travel es + flag_for Visa es + flag_for Biometrics es) / flag_of k % 2 ≡ digit (has_for k es)
    of Travel = omega (arith, times (has_for Travel es) 1, times (has_for Visa es) 2, times (has_for Biometrics es) 4, below (has_for Travel es))
    of Visa = omega (arith, times (has_for Travel es) 1, times (has_for Visa es) 2, times (has_for Biometrics es) 4, below (has_for Travel es), below (has_for Visa es))
    of Biometrics = omega (arith, times (has_for Travel es) 1, times (has_for Visa es) 2, times (has_for Biometrics es) 4, below (has_for Travel es), below (has_for Visa es), below (has_for Biometrics es))

-- a flag that is not set is added by an or
flag_or : (k : Known) (c : List ℕ) → has_flag k c ≡ false → bit_or (get_or c 0 0) (flag_of k) ≡ get_or c 0 0 + flag_of k
flag_or k c n = or_disjoint (get_or c 0 0) (flag_of k) (of k ∙ ap (λ (x : ℕ). x * flag_of k) unset ∙ zero-mul (flag_of k))
  where
    unset : get_or c 0 0 / flag_of k % 2 ≡ 0
    unset = let m = eqb-false (get_or c 0 0 / flag_of k % 2) 1 n in omega (arith, m)

    of : (k : Known) → bit_and (get_or c 0 0) (flag_of k) ≡ get_or c 0 0 / flag_of k % 2 * flag_of k
    of Travel = and_high (get_or c 0 0) 1 0
    of Visa = and_high (get_or c 0 0) 1 1
    of Biometrics = and_high (get_or c 0 0) 1 2

-- ---- bytes put in the place of others

-- v in the place of m, which is as long
put-part : (p m q v : List ℕ) (n : ℕ) → length p ≡ n → length v ≡ length m → put (p ++ (m ++ q)) n v ≡ p ++ (v ++ q)
put-part p m q v n h i =
    let l = length-append p (m ++ q) in
    let l' = length-append m q in
    let l'' = length-append p m in
    let d : drop (n + length v) (p ++ (m ++ q)) ≡ q = rw (← append_assoc p m q) (drop_at (p ++ m) q (n + length v) (omega arith)) in
    put_accepted (p ++ (m ++ q)) n v (omega arith)
    ∙ sets-eq v (p ++ (m ++ q)) n (omega arith)
    ∙ rw (take_at p (m ++ q) n h, d) (append_assoc p v q)

module _ (f g : ℕ) (x y z v : List ℕ) (a : length x ≡ 1) (b : length y ≡ 1) (c : length z ≡ 17) where
  -- the flags are put first
  marked : put (f ∷ (x ++ (y ++ z))) 0 (g ∷ []) ≡ g ∷ (x ++ (y ++ z))
  marked = put-part [] (f ∷ []) (x ++ (y ++ z)) (g ∷ []) 0 refl refl

  put-travel : length v ≡ 1 → put (g ∷ (x ++ (y ++ z))) 1 v ≡ g ∷ (v ++ (y ++ z))
  put-travel h = put-part (g ∷ []) x (y ++ z) v 1 refl (omega arith)

  put-visa : length v ≡ 1 → put (g ∷ (x ++ (y ++ z))) 2 v ≡ g ∷ (x ++ (v ++ z))
  put-visa h = put-part (g ∷ x) y z v 2 (omega arith) (omega arith)

  put-biometrics : length v ≡ 17 → put (g ∷ (x ++ (y ++ z))) 3 v ≡ g ∷ (x ++ (y ++ v))
  put-biometrics h =
      let l = length-append x y in
      let p = put-part (g ∷ (x ++ y)) z [] v 3 (omega arith) (omega arith) in
      rw (append-nil z, append-nil v, append_assoc x y z, append_assoc x y v) at p

-- ---- one extension

-- the certificate behind one extension more, by where each of its bytes is from
abbrev next_data : List Extension → Extension → List ℕ
next_data es e =
    (if_else (is_for Travel e) 1 (flag_for Travel es) + if_else (is_for Visa e) 2 (flag_for Visa es) + if_else (is_for Biometrics e) 4 (flag_for Biometrics es))
    ∷ (if_else (is_for Travel e) e.rights (rights_for Travel es)
    ++ (if_else (is_for Visa e) e.rights (rights_for Visa es) ++ if_else (is_for Biometrics e) e.rights (rights_for Biometrics es)))

put-known : (es : List Extension) (e : Extension) (k : Known) → length e.rights ≡ size_of k → has_for k es ≡ false
    → keeps_known k (certificate_data es) e.rights ≡ whole (with_known k (certificate_data es) e.rights)
unfolding keeps_known
put-known es e k z n = simp (eq-eqb (length e.rights) (size_of k) z, flag_is k es ∙ n)

same_data : (es : List Extension) (e : Extension) → ((k : Known) → is_for k e ≡ false) → certificate_data es ≡ next_data es e
unfolding certificate_data
same_data es e u = simp (u Travel, u Visa, u Biometrics)

module _ (es : List Extension) (e : Extension) where
  flag-next : (k : Known) → flag_for k (es ++ (e ∷ [])) ≡ if_else (is_for k e) (flag_of k) (flag_for k es)
  flag-next k = rw (has-next k e es) (by_cases (is_for k e) (λ a. simp a) (λ a. simp a))

  module _ (f : Filled es) (z : RightSize e) (n : FirstTime es e) where
    next-data : certificate_data (es ++ (e ∷ [])) ≡ next_data es e
    unfolding certificate_data
    next-data =
        rw (flag-next Travel, flag-next Visa, flag-next Biometrics, rights-next Travel e es (n Travel), rights-next Visa e es (n Visa), rights-next Biometrics e es (n Biometrics)) refl

    next-put : (k : Known) → is_for k e ≡ true → with_known k (certificate_data es) e.rights ≡ certificate_data (es ++ (e ∷ []))
    unfolding certificate_data
    next-put k a =
        rw (flag_or k (certificate_data es) (flag_is k es ∙ n k a), marked F (F + flag_of k) X Y Z e.rights (f Travel) (f Visa) (f Biometrics)) (of k a ∙ sym next-data)
      where
        X : List ℕ
        X = rights_for Travel es

        Y : List ℕ
        Y = rights_for Visa es

        Z : List ℕ
        Z = rights_for Biometrics es

        F : ℕ
        F = flag_for Travel es + flag_for Visa es + flag_for Biometrics es

        of : (k : Known) → is_for k e ≡ true → put ((F + flag_of k) ∷ (X ++ (Y ++ Z))) (rights_place k) e.rights ≡ next_data es e
        of Travel a =
            let o = for_only e Travel a in
            put-travel F (F + 1) X Y Z e.rights (f Travel) (f Visa) (f Biometrics) (z Travel a)
            ∙ simp (o Travel, o Visa, o Biometrics, n Travel a) (ap (λ (x : ℕ). x ∷ (e.rights ++ (Y ++ Z))) (omega arith))
        of Visa a =
            let o = for_only e Visa a in
            put-visa F (F + 2) X Y Z e.rights (f Travel) (f Visa) (f Biometrics) (z Visa a)
            ∙ simp (o Travel, o Visa, o Biometrics, n Visa a) (ap (λ (x : ℕ). x ∷ (X ++ (e.rights ++ Z))) (omega arith))
        of Biometrics a =
            let o = for_only e Biometrics a in
            put-biometrics F (F + 4) X Y Z e.rights (f Travel) (f Visa) (f Biometrics) (z Biometrics a)
            ∙ simp (o Travel, o Visa, o Biometrics, n Biometrics a) (ap (λ (x : ℕ). x ∷ (X ++ (Y ++ e.rights))) (omega arith))

    -- one without a fault adds its flag and its rights, and one that is not known adds nothing
    pub keep_free : keeps (certificate_data es) e ≡ whole (certificate_data (es ++ (e ∷ [])))
    keep_free = ⊎_elim known unknown (known_or_not e)
      where
        known : (k : Known) × (is_for k e ≡ true) → keeps (certificate_data es) e ≡ whole (certificate_data (es ++ (e ∷ [])))
        known x = keeps-known (certificate_data es) e x.0 x.1 ∙ put-known es e x.0 (z x.0 x.1) (n x.0 x.1) ∙ ap whole (next-put x.0 x.1)

        unknown : ((k : Known) → is_for k e ≡ false) → keeps (certificate_data es) e ≡ whole (certificate_data (es ++ (e ∷ [])))
        unknown u = keeps_unknown (certificate_data es) e u ∙ ap whole (same_data es e u ∙ sym next-data)

-- one with a fault tells it, and changes nothing
pub keep_fault : (es : List Extension) (e : Extension) (w : ExtensionFault) → FaultOf es e w → keeps (certificate_data es) e ≡ faulty w (certificate_data es)
unfolding keeps_known
keep_fault es e w (by_size x m) = keeps-known (certificate_data es) e x.0 x.1 ∙ simp (ne_eqb (length e.rights) (size_of x.0) x.2) (rw m refl)
keep_fault es e w (by-repeat z x m) =
    keeps-known (certificate_data es) e x.0 x.1
    ∙ simp (eq-eqb (length e.rights) (size_of x.0) (z x.0 x.1), flag_is x.0 es ∙ x.2) (rw m refl)

-- an extension has no fault or one
pub free_or_fault : (es : List Extension) (e : Extension) → (RightSize e × FirstTime es e) ⊎ ((w : ExtensionFault) × FaultOf es e w)
free_or_fault es e = ⊎_elim known (λ u. inl ((λ k a. false-true (sym (u k) ∙ a)), (λ k a. false-true (sym (u k) ∙ a)))) (known_or_not e)
  where
    known : (k : Known) × (is_for k e ≡ true) → (RightSize e × FirstTime es e) ⊎ ((w : ExtensionFault) × FaultOf es e w)
    known x =
        by_cases (eqb (length e.rights) (size_of x.0))
        (λ a.
        let right : RightSize e = λ j b. eqb-true (length e.rights) (size_of x.0) a ∙ ap size_of (sym (for_one e j x.0 b x.1)) in
        by_cases (has_for x.0 es)
        (λ h. inr (Twice, by-repeat right (x.0, x.1, h) refl))
        (λ h. inl (right, λ j b. ap (λ (k : Known). has_for k es) (for_one e j x.0 b x.1) ∙ h)))
        (λ a. inr (Malformed, by_size (x.0, x.1, eqb-false (length e.rights) (size_of x.0) a) refl))
