-- Three runs: what they give, and each run or its fault; then the same as the code goes. Read before: specs/Faults.antt, specs/Read.antt.
-- Exports `chain_complete`, `chain_length`, `chain_fault`, `chain_or_fault`, and `ran-…` and `rights-…` for the code.
use Prim.Native.Nat.{ℕ, ◌≤◌, ◌<◌}
use mathlib.Core.Path.{◌≡◌, refl, sym, ap, ◌∙◌}
use mathlib.Core.Logic.{◌⊎◌, inl, inr, ⊎_elim}
use mathlib.Core.List.{List, ◌++◌, append_assoc}
use native.Mathlib.Omega.{arith}
use lib.ListN.{length, replicate, length-append}
use borrow.Author.Tests.{lt-ltb, le-ltb}
use Rattle.base.specs.Bytes.{AllBytes, put}
use Rattle.base.proofs.Runs.{put-behind}
use Rattle.objects_extensions.specs.declared.ExtensionFault.{ExtensionFault}
use Rattle.std.specs.Prelude.{Result, Ok, Err}
use Rattle.objects_extensions.specs.declared.RightsFault.{RightsFault}
use Rattle.objects_extensions.specs.declared.RightsFault.TheVariants.{ShortBuffer, Faulty}
use Rattle.objects_extensions.specs.Extensions.{Extension, certificate_data, RunsOf}
use Rattle.objects_extensions.specs.Faults.{ChainFault, in-first, in-second, in-third}
use Rattle.objects_extensions.specs.Read.{RunRead, whole, faulty, run_on, empty_certificate, runs_on, runs_into, chain_data, read_rights, read_rights_into}
use Rattle.objects_extensions.proofs.Runs.{run_complete, certificate-length, run_fault, run_or_fault}
use Rattle.objects_extensions.proofs.Steps.{Gave, of_gave}

-- ---- what three runs give

module _ (f s t : List ℕ) where
  pub chain_complete : (a b c : List Extension) → RunsOf a b c f s t → runs_on f s t ≡ whole (certificate_data a ++ (certificate_data b ++ certificate_data c))
  unfolding runs_on
  chain_complete a b c x = rw (run_complete a f x.is_first, run_complete b s x.is_second, run_complete c t x.is_third) refl

  pub chain_length : (a b c : List Extension) → RunsOf a b c f s t → length (certificate_data a ++ (certificate_data b ++ certificate_data c)) ≡ 60
  chain_length a b c x =
      let l = length-append (certificate_data a) (certificate_data b ++ certificate_data c) in
      let m = length-append (certificate_data b) (certificate_data c) in
      omega (arith, certificate-length a f x.is_first, certificate-length b s x.is_second, certificate-length c t x.is_third)

  module _ (bf : AllBytes f) (bs : AllBytes s) (bt : AllBytes t) where
    pub chain_fault : (w : ExtensionFault) → ChainFault f s t w → (runs_on f s t).read ≡ Err w
    unfolding runs_on
    chain_fault w (in-first x) = let e = run_fault f w bf x in rw e refl
    chain_fault w (in-second a x y) = let e = run_fault s w bs y in rw (run_complete a f x, e) refl
    chain_fault w (in-third a b x y z) = let e = run_fault t w bt z in rw (run_complete a f x, run_complete b s y, e) refl

    pub chain_or_fault : ((a : List Extension) × (b : List Extension) × (c : List Extension) × RunsOf a b c f s t) ⊎ ((w : ExtensionFault) × ChainFault f s t w)
    chain_or_fault =
        ⊎_elim
        (λ x. ⊎_elim
        (λ y. ⊎_elim
        (λ z. inl (x.0, y.0, z.0, record { is_first = x.1; is_second = y.1; is_third = z.1 }))
        (λ z. inr (z.0, in-third x.0 y.0 x.1 y.1 z.1))
        (run_or_fault t bt))
        (λ y. inr (y.0, in-second x.0 x.1 y.1))
        (run_or_fault s bs))
        (λ x. inr (x.0, in-first x.1))
        (run_or_fault f bf)

-- ---- as the code goes

-- 60 bytes as three times 20
put_three : (out a b c : List ℕ) → 60 ≤ length out → length a ≡ 20 → length b ≡ 20 → length c ≡ 20 → put (put (put out 0 a) 20 b) 40 c ≡ put out 0 (a ++ (b ++ c))
put_three out a b c h i j k =
    let l = length-append a b in
    let m = length-append (a ++ b) c in
    let p : put (put out 0 a) 20 b ≡ put out 0 (a ++ b) = rw i at (put-behind out 0 a b (omega arith)) in
    let n : length (a ++ b) ≡ 40 = omega arith in
    let q : put (put out 0 (a ++ b)) 40 c ≡ put out 0 ((a ++ b) ++ c) = rw n at (put-behind out 0 (a ++ b) c (omega arith)) in
    rw p (q ∙ ap (put out 0) (append_assoc a b c))

module _ (f s t : List ℕ) {x : RunRead} {a : List ℕ} (ga : Gave (run_on empty_certificate f) x a) where
  pub first-stops : {w : ExtensionFault} → x ≡ Err w → runs_on f s t ≡ faulty w a
  unfolding runs_on
  first-stops h = rw (of_gave ga, h) refl

  module _ (i : x ≡ Ok tt) {y : RunRead} {b : List ℕ} (gb : Gave (run_on empty_certificate s) y b) where
    pub second-stops : {w : ExtensionFault} → y ≡ Err w → runs_on f s t ≡ faulty w b
    unfolding runs_on
    second-stops h = rw (of_gave ga, i, of_gave gb, h) refl

    module _ (j : y ≡ Ok tt) {z : RunRead} {c : List ℕ} (gc : Gave (run_on empty_certificate t) z c) where
      pub third-stops : {w : ExtensionFault} → z ≡ Err w → runs_on f s t ≡ faulty w c
      unfolding runs_on
      third-stops h = rw (of_gave ga, i, of_gave gb, j, of_gave gc, h) refl

      pub none-stops : z ≡ Ok tt → runs_on f s t ≡ whole (a ++ (b ++ c))
      unfolding runs_on
      none-stops k = rw (of_gave ga, i, of_gave gb, j, of_gave gc, k) refl

-- what `three_runs` answers and writes
module _ (f s t out : List ℕ) where
  abbrev pub Ran : RunRead → List ℕ → Type 0
  Ran r d = (r ≡ (runs_on f s t).read) × (d ≡ runs_into f s t out)

  pub ran-fault : {w : ExtensionFault} {b : List ℕ} {r : RunRead} → runs_on f s t ≡ faulty w b → r ≡ Err w → Ran r out
  unfolding runs_into
  ran-fault e g = (rw (e, g) refl, rw e refl)

  pub ran_all : (a b c : List ℕ) → runs_on f s t ≡ whole (a ++ (b ++ c)) → 60 ≤ length out → length a ≡ 20 → length b ≡ 20 → length c ≡ 20
      → {d e g : List ℕ} → d ≡ put out 0 a → e ≡ put d 20 b → g ≡ put e 40 c → Ran (Ok tt) g
  unfolding runs_into
  ran_all a b c m h la lb lc p q r = (rw m refl, rw (m, r, q, p) (put_three out a b c h la lb lc))

  -- ---- and then `read_rights`

  abbrev Done : Result (Unit {0}) RightsFault → List ℕ → Type 0
  Done r d = (r ≡ read_rights f s t out) × (d ≡ read_rights_into f s t out)

  pub rights-short : length out < 60 → Done (Err ShortBuffer) out
  unfolding read_rights read_rights_into
  rights-short h = let e = lt-ltb (length out) 60 h in (simp e, simp e)

  module _ (h : 60 ≤ length out) {x : RunRead} {d : List ℕ} (g : Ran x d) where
    -- a fault: the zeros are written into a buffer that `three_runs` left as it was
    pub rights-fault : {w : ExtensionFault} {l : List ℕ} → x ≡ Err w → l ≡ put d 0 (replicate 60 0) → Done (Err (Faulty w)) l
    unfolding read_rights read_rights_into chain_data runs_into
    rights-fault e m =
        let i = le-ltb (length out) 60 h in
        let k = sym g.0 ∙ e in
        (rw (i, k) refl, m ∙ rw (g.1, i, k) refl)

    pub rights-whole : x ≡ Ok tt → Done (Ok tt) d
    unfolding read_rights read_rights_into chain_data runs_into
    rights-whole e =
        let i = le-ltb (length out) 60 h in
        let k = sym g.0 ∙ e in
        (rw (i, k) refl, g.1 ∙ rw (i, k) refl)
