-- What reading the rights of three certificates tells. Read before: ../specs/Rights.antt, proofs/Chains.antt of objects_extensions. Exports
-- `c_rights`, `c_rights-refused`, `c_rights-read`.
use Prim.Native.Nat.{ℕ, ◌+◌, ◌*◌, ◌≤◌, ◌<◌}
use native.Mathlib.Nat.{zero-div}
use mathlib.Core.Path.{◌≡◌, refl, sym, ap, ◌∙◌}
use mathlib.Core.Bool.{true, false, and-true, and-false}
use mathlib.Core.Logic.{◌⊎◌, inl, inr, ⊎_elim}
use mathlib.Core.List.{List, [], ◌∷◌, ◌++◌}
use native.Mathlib.Omega.{arith}
use lib.ListN.{length, get_or, take, drop, replicate, length-replicate, length-take}
use lib.Seq.{sets}
use lib.Dec.{ltb}
use borrow.Author.Tests.{le-leb, lt-ltb, le-ltb, ltb-true, ltb-false}
use Rattle.base.specs.Choice.{all_of}
use Rattle.base.specs.Bytes.{AllBytes, part, same_bytes, put}
use Rattle.base.proofs.Cases.{by_cases, false-true}
use Rattle.base.proofs.Runs.{part-sets, drop-sets_past, put_accepted, length-put}
use Rattle.std.specs.Prelude.{Ok, Err, is_ok}
use Rattle.objects_extensions.specs.declared.ExtensionFault.{ExtensionFault}
use Rattle.objects_extensions.specs.declared.ExtensionFault.TheVariants.{Malformed, Twice}
use Rattle.objects_extensions.specs.declared.Known.TheVariants.{Travel, Visa, Biometrics}
use Rattle.objects_extensions.specs.Extensions.{Extension, rights_for, flag_for, certificate_data, RunOf, RunsOf}
use Rattle.objects_extensions.specs.Faults.{extension_fault_number, ChainFault}
use Rattle.objects_extensions.specs.Read.{RunRead, rights_answer, runs_on, chain_data, read_rights, read_rights_into}
use Rattle.objects_extensions.proofs.Chains.{chain_complete, chain_length, chain_fault, chain_or_fault}
use Rattle.objects_extensions.proofs.Kept.{flag_is}
use Rattle.objects_extensions.proofs.Runs.{run-filled, certificate-length}
use Rattle.machine_rights.specs.Rights.{bit, flagged}
use Rattle.machine_rights.specs.Chain.{certificate, cleared_bytes, cleared, no_rights, effective, same, is_cleared}
use Rattle.machine_rights.proofs.Joining.{certificate_in, parts_of}
use Rattle.machine_rights.proofs.Laws.{not_sixty, unflagged_records, unflagged_biometrics}
use Rattle.machine_session.specs.Session.{opened}
use Rattle.machine_session.specs.declared.Place.TheVariants.{Nowhere}
use Rattle.machine_session_bytes.specs.Layout.{place_bytes, session_bytes, session_in}
use Rattle.machine_chain.specs.Chain.{NoChain}
use Rattle.machine_chain.specs.Layout.{no_chain_bytes}
use Rattle.machine.specs.Step.{opening}
use Rattle.malquindo.specs.Face.{whole_bytes, takes_session, opened_in, rights_result, open_session}
use Rattle.promises.specs.Linked.{refusal_in}
use Rattle.promises.specs.Rights.{RightsC, CRights, CertificateFor, CRightsRead, NoRight, CRightsRefused}
use Rattle.promises.proofs.Opening.{zeros}
use Rattle.promises.proofs.Linking.{opening-bytes}

fault_range : (w : ExtensionFault) → (7 ≤ extension_fault_number w) × (extension_fault_number w ≤ 8)
fault_range Malformed = (omega arith, omega arith)
fault_range Twice = (omega arith, omega arith)

right-result : (r : RunRead) → is_ok r ≡ true → rights_result (rights_answer r) ≡ 0
right-result (Ok _) e = refl
right-result (Err w) e = false-true e

one_not_zero : ◌≡◌ {A = ℕ} 1 (refusal_in 0) → ⊥
unfolding refusal_in
one_not_zero e = omega arith

refusal_of : (n : ℕ) → refusal_in (n * 4294967296) ≡ n
unfolding refusal_in
refusal_of n = omega arith

module _ (f s t buf : List ℕ) where
  abbrev result : ℕ
  result = rights_result (read_rights f s t buf)

  abbrev new : List ℕ
  new = read_rights_into f s t buf

  -- ---- a buffer that is too short

  result-short : length buf < 60 → result ≡ 1 * 4294967296
  unfolding read_rights
  result-short h = rw (lt-ltb (length buf) 60 h) refl

  into-short : length buf < 60 → new ≡ buf
  unfolding read_rights_into
  into-short h = rw (lt-ltb (length buf) 60 h) refl

  -- ---- one that is not

  module _ (h : 60 ≤ length buf) where
    result-told : result ≡ rights_result (rights_answer (runs_on f s t).read)
    unfolding read_rights
    result-told = rw (le-ltb (length buf) 60 h) refl

    into-told : new ≡ put buf 0 (chain_data (runs_on f s t))
    unfolding read_rights_into
    into-told = rw (le-ltb (length buf) 60 h) refl

    -- 60 bytes are written, and no more
    written : {d : List ℕ} → chain_data (runs_on f s t) ≡ d → length d ≡ 60 → (take 60 new ≡ d) × (drop 60 new ≡ drop 60 buf)
    written {d} e l =
        let n : new ≡ sets buf 0 d = into-told ∙ ap (put buf 0) e ∙ put_accepted buf 0 d (omega arith) in
        (ap (take 60) n ∙ rw l at (part-sets buf 0 d (omega arith)), ap (drop 60) n ∙ drop-sets_past 60 buf 0 d (omega arith))

    zeros-written : 1 ≤ result → take 60 new ≡ replicate 60 0
    unfolding chain_data
    zeros-written e =
        by_cases (is_ok (runs_on f s t).read)
        (λ x. let r = result-told ∙ right-result (runs_on f s t).read x in absurd (omega arith))
        (λ x. (written (simp x) refl).0)

    whole-result : (a b c : List Extension) → RunsOf a b c f s t → result ≡ 0
    whole-result a b c x = result-told ∙ rw (chain_complete f s t a b c x) refl

    whole-written : (a b c : List Extension) → RunsOf a b c f s t → (take 60 new ≡ certificate_data a ++ (certificate_data b ++ certificate_data c)) × (drop 60 new ≡ drop 60 buf)
    unfolding chain_data
    whole-written a b c x = written (rw (chain_complete f s t a b c x) refl) (chain_length f s t a b c x)

    module _ (bf : AllBytes f) (bs : AllBytes s) (bt : AllBytes t) (w : ExtensionFault) (x : ChainFault f s t w) where
      fault-result : result ≡ extension_fault_number w * 4294967296
      fault-result = result-told ∙ rw (chain_fault f s t bf bs bt w x) refl

      fault_kept : drop 60 new ≡ drop 60 buf
      unfolding chain_data
      fault_kept = (written {d = replicate 60 0} (rw (chain_fault f s t bf bs bt w x) refl) refl).1

  -- ---- three cases: the buffer is too short, the runs are in order, one has a fault

  module _ (bf : AllBytes f) (bs : AllBytes s) (bt : AllBytes t) where
    by_runs : {P : Type 0} → (length buf < 60 → P) → (60 ≤ length buf → (a b c : List Extension) → RunsOf a b c f s t → P)
        → (60 ≤ length buf → (w : ExtensionFault) → ChainFault f s t w → P) → P
    by_runs p q o =
        by_cases (ltb (length buf) 60) (λ e. p (ltb-true (length buf) 60 e))
        (λ e. let h = ltb-false (length buf) 60 e in ⊎_elim (λ x. q h x.0 x.1 x.2 x.3) (λ x. o h x.0 x.1) (chain_or_fault f s t bf bs bt))

    abbrev Faults : Type 0
    Faults = ((refusal_in result ≡ 7) × ChainFault f s t Malformed) ⊎ ((refusal_in result ≡ 8) × ChainFault f s t Twice)

    faults : 60 ≤ length buf → (w : ExtensionFault) → ChainFault f s t w → Faults
    faults h Malformed x = inl (ap refusal_in (fault-result h bf bs bt Malformed x) ∙ refusal_of 7, x)
    faults h Twice x = inr (ap refusal_in (fault-result h bf bs bt Twice x) ∙ refusal_of 8, x)

    told : RightsC f s t buf result new
    told =
        record {
          short_complete = result-short;
          short_sound = λ e. by_runs (λ h. h)
              (λ h a b c x. let r = ap refusal_in (whole-result h a b c x) in absurd (one_not_zero (sym e ∙ r)))
              (λ h w x. let r = ap refusal_in (fault-result h bf bs bt w x) ∙ refusal_of (extension_fault_number w) in let n = (fault_range w).0 in absurd (omega arith));
          short_kept = into-short;
          runs_complete = whole-result;
          runs_sound = λ e. by_runs (λ h. let r = result-short h in absurd (omega arith)) (λ h a b c x. (a, b, c, x))
              (λ h w x. let r = fault-result h bf bs bt w x in let n = (fault_range w).0 in absurd (omega arith));
          given = λ e a b c x. by_runs (λ h. let r = result-short h in absurd (omega arith)) (λ h _ _ _ _. (whole-written h a b c x).0)
              (λ h w y. let r = fault-result h bf bs bt w y in let n = (fault_range w).0 in absurd (omega arith));
          malformed_complete = λ h x. fault-result h bf bs bt Malformed x;
          twice_complete = λ h x. fault-result h bf bs bt Twice x;
          fault_sound = λ h e. by_runs {P = Faults} (λ g. absurd (omega arith)) (λ g a b c x. let r = whole-result h a b c x in absurd (omega arith))
              (λ g w x. faults h w x);
          fault_zeros = zeros-written;
          rest_kept = by_runs (λ h. ap (drop 60) (into-short h)) (λ h a b c x. (whole-written h a b c x).1) (λ h w x. fault_kept h bf bs bt w x);
          size_kept = by_runs (λ h. ap length (into-short h)) (λ h a b c x. ap length (into-told h) ∙ length-put buf 0 (chain_data (runs_on f s t)))
              (λ h w x. ap length (into-told h) ∙ length-put buf 0 (chain_data (runs_on f s t)));
        }

pub c_rights : CRights
c_rights f s t buf bf bs bt = told f s t buf bf bs bt

-- ---- an opening with what a refusal gives

none-flagged : (a : ℕ) → flagged no_rights a ≡ false
unfolding flagged no_rights bit all_of
none-flagged a = simp (zero-div, and-false)

none-cleared : is_cleared no_rights ≡ true
unfolding is_cleared same cleared cleared_bytes no_rights bit same_bytes all_of
none-cleared = refl

none_allowed : NoRight no_rights
none_allowed =
    record {
      applications = none-flagged;
      records = λ a x y. unflagged_records no_rights none-cleared a x y (none-flagged a);
      biometrics = λ n x. unflagged_biometrics no_rights none-cleared n x (none-flagged 3);
    }

zero-rights : (c : List ℕ) → (c ≡ replicate 60 0) ⊎ (length c ≡ 60 → ⊥) → effective c ≡ no_rights
zero-rights c (inl e) = ap effective e ∙ zeros
zero-rights c (inr n) = not_sixty c n ∙ zeros

-- what a refusal leaves: 60 zeros, or not 60 bytes
left_by : (f s t buf : List ℕ) → 1 ≤ rights_result (read_rights f s t buf)
    → (take 60 (read_rights_into f s t buf) ≡ replicate 60 0) ⊎ (length (take 60 (read_rights_into f s t buf)) ≡ 60 → ⊥)
left_by f s t buf e =
    by_cases (ltb (length buf) 60)
    (λ h. let g = ltb-true (length buf) 60 h in inr (λ l. let m = ap (λ (x : List ℕ). length (take 60 x)) (into-short f s t buf g) in let k = length-take 60 buf in omega (arith, g)))
    (λ h. inl (zeros-written f s t buf (ltb-false (length buf) 60 h) e))

module _ (c : List ℕ) (e : effective c ≡ no_rights) (ses : List ℕ) (h : 1054 ≤ length ses) where
  none-opened : opened c ≡ record { rights = no_rights; application = 0; place = Nowhere }
  unfolding opened
  none-opened = rw e refl

  none-bytes : whole_bytes (opened c) NoChain ≡ replicate 1054 0
  unfolding whole_bytes session_bytes place_bytes no_rights no_chain_bytes
  none-bytes = rw none-opened refl

  none_written : take 1054 (open_session c ses) ≡ replicate 1054 0
  unfolding open_session opened_in takes_session opening
  none_written =
      let n : length {A = ℕ} (replicate 1054 0) ≡ 1054 = length-replicate {A = ℕ} 1054 0 in
      let b : put ses 0 (whole_bytes (opened c) NoChain) ≡ sets ses 0 (replicate 1054 0) = rw none-bytes (put_accepted ses 0 (replicate 1054 0) (omega arith)) in
      rw (le-leb 1054 (length ses) h) (ap (take 1054) b ∙ rw n at (part-sets ses 0 (replicate 1054 0) (omega arith)))

  none_read : session_in (open_session c ses) ≡ record { rights = no_rights; application = 0; place = Nowhere }
  unfolding opening
  none_read = (opening-bytes c ses h).1 ∙ none-opened

pub c_rights-refused : CRightsRefused
c_rights-refused f s t buf ses e g =
    let c = take 60 (read_rights_into f s t buf) in
    let z = zero-rights c (left_by f s t buf e) in
    record { zero = none_written c z ses g; no_right = rw (none_read c z ses g) none_allowed }

-- ---- an opening with what runs without a fault give

three_parts : (f : ℕ) (x y z : List ℕ) → length x ≡ 1 → length y ≡ 1
    → (get_or (f ∷ (x ++ (y ++ z))) 1 0 ∷ [] ≡ x) × (get_or (f ∷ (x ++ (y ++ z))) 2 0 ∷ [] ≡ y) × (drop 3 (f ∷ (x ++ (y ++ z))) ≡ z)
three_parts f (x ∷ []) (y ∷ []) z h i = (refl, refl, refl)
three_parts f [] y z h i = absurd (omega arith)
three_parts f (x ∷ x' ∷ xs) y z h i = absurd (omega arith)
three_parts f (x ∷ []) [] z h i = absurd (omega arith)
three_parts f (x ∷ []) (y ∷ y' ∷ ys) z h i = absurd (omega arith)

certificate_for : (es : List Extension) (s c : List ℕ) (k : ℕ) → RunOf es s → part c (20 * k) 20 ≡ certificate_data es → CertificateFor es (certificate c k)
unfolding certificate_data flagged bit all_of
certificate_for es s c k w e =
    let l = run-filled es s w in
    let p = three_parts (flag_for Travel es + flag_for Visa es + flag_for Biometrics es) (rights_for Travel es) (rights_for Visa es) (rights_for Biometrics es) (l Travel) (l Visa) in
    rw (certificate_in c (certificate_data es) k e) (record {
      travel_flag = simp and-true (flag_is Travel es);
      visa_flag = simp and-true (flag_is Visa es);
      biometrics_flag = simp and-true (flag_is Biometrics es);
      travel_rights = p.0;
      visa_rights = p.1;
      biometrics_rights = p.2;
    })

pub c_rights-read : CRightsRead
c_rights-read f s t buf a b c h x =
    let w = (whole-written f s t buf h a b c x).0 in
    let p = parts_of (certificate_data a) (certificate_data b) (certificate_data c) (certificate-length a f x.is_first) (certificate-length b s x.is_second) (certificate-length c t x.is_third) in
    rw w (
      certificate_for a f (certificate_data a ++ (certificate_data b ++ certificate_data c)) 0 x.is_first p.0,
      certificate_for b s (certificate_data a ++ (certificate_data b ++ certificate_data c)) 1 x.is_second p.1,
      certificate_for c t (certificate_data a ++ (certificate_data b ++ certificate_data c)) 2 x.is_third p.2,
    )
