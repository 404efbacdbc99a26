-- What reading a stamp tells. Read before: ../specs/Stamps.antt, proofs/Stamps.antt of objects_stamp. Exports `c_stamp_reads`, `c_stamp_unique`,
-- `c_stamp_longest`.
use Prim.Native.Nat.{ℕ, ◌+◌, ◌*◌, ◌%◌, ◌≤◌, ◌<◌}
use mathlib.Core.Path.{◌≡◌, refl, sym, ap, subst, ◌∙◌}
use mathlib.Core.List.{List}
use native.Mathlib.Omega.{arith}
use lib.ListN.{length, take}
use lib.Dec.{ltb}
use borrow.Author.Tests.{le-ltb, ltb-true, ltb-false}
use Rattle.base.specs.Bytes.{AllBytes}
use Rattle.base.proofs.Cases.{by_cases}
use Rattle.base.proofs.Runs.{part-sets}
use Rattle.objects_stamp.specs.declared.Reason.{Reason}
use Rattle.objects_stamp.specs.declared.Reason.TheVariants.{WrongTag, WrongLength, WrongContent}
use Rattle.std.specs.Prelude.{Ok, Err}
use Rattle.objects_stamp.specs.Stamp.{Stamp, stamp_data, stamp_places}
use Rattle.objects_stamp.specs.FirstFault.{Finding, stamp_finding}
use Rattle.objects_stamp.specs.Faults.{StampFaults, NoFault, FirstOf, reason_number}
use Rattle.objects_stamp.specs.Read.{stamp_answer, read_stamp, read_stamp_into}
use Rattle.objects_stamp.proofs.First.{IsFirst}
use Rattle.objects_stamp.proofs.Stamps.{stamp_sound, stamp_complete, stamp_unique, stamp_most, stamp_first, stamp_only, stamp_near}
use Rattle.objects_stamp.proofs.Writing.{read_short, into_stamp, into_kept, places-length}
use Rattle.objects_stamp.proofs.Worked.{fullest, full_bytes, full_length, full_right}
use Rattle.malquindo.specs.Face.{stamp_result}
use Rattle.promises.specs.Stamps.{stamp_reason_in, stamp_offset_in, IsStamp, StampC, CStampReads, CStampUnique, CStampLongest}

reason_range : (w : Reason) → (1 ≤ reason_number w) × (reason_number w ≤ 3)
reason_range WrongTag = omega arith
reason_range WrongLength = omega arith
reason_range WrongContent = omega arith

module _ (s ps : List ℕ) where
  -- ---- three cases: the list is too short, nothing is wrong, something is

  by-finding : {P : Type 0} (f : Finding) → stamp_finding s ≡ f → (stamp_finding s ≡ Ok tt → P) → ((w : Reason) (at : ℕ) → stamp_finding s ≡ Err (w, at) → P) → P
  by-finding (Ok _) e p q = p e
  by-finding (Err (w, at)) e p q = q w at e

  by_answer : {P : Type 0} → (length ps < 26 → P) → (26 ≤ length ps → stamp_finding s ≡ Ok tt → P)
      → ((w : Reason) (at : ℕ) → 26 ≤ length ps → stamp_finding s ≡ Err (w, at) → P) → P
  by_answer p q o =
      by_cases (ltb (length ps) 26) (λ t. p (ltb-true (length ps) 26 t))
      (λ t. let h = ltb-false (length ps) 26 t in by-finding (stamp_finding s) refl (q h) (λ w at e. o w at h e))

  -- ---- the result in each

  result-short : length ps < 26 → stamp_result (read_stamp s ps) ≡ 15 * 4294967296
  result-short h = sym (ap stamp_result (read_short s ps h).0)

  result-told : 26 ≤ length ps → {f : Finding} → stamp_finding s ≡ f → stamp_result (read_stamp s ps) ≡ stamp_result (stamp_answer f)
  unfolding read_stamp
  result-told h e = rw (le-ltb (length ps) 26 h, e) refl

  result-right : 26 ≤ length ps → stamp_finding s ≡ Ok tt → stamp_result (read_stamp s ps) ≡ 0
  result-right h e = result-told h e

  module _ (b : AllBytes s) where
    result-fault : 26 ≤ length ps → {w : Reason} {at : ℕ} → stamp_finding s ≡ Err (w, at) → stamp_result (read_stamp s ps) ≡ reason_number w * 4294967296 + at
    result-fault h {w} {at} e = let r = result-told h e in let n = stamp_near s w at b e in omega arith

    zero_right : stamp_result (read_stamp s ps) ≡ 0 → (26 ≤ length ps) × (stamp_finding s ≡ Ok tt)
    zero_right z =
        by_answer (λ h. let r = result-short h in absurd (omega arith)) (λ h e. (h, e))
        (λ w at h e. let r = result-fault h e in let n = (reason_range w).0 in absurd (omega arith))

    -- ---- the stamp

    right_of : (x : Stamp) → IsStamp s x → stamp_finding s ≡ Ok tt
    right_of x i = rw i.written (stamp_complete x i.lawful)

    stamp-of : stamp_finding s ≡ Ok tt → (x : Stamp) × IsStamp s x
    stamp-of e = let x = stamp_sound s b e in (x.0, record { lawful = x.1; written = x.2 })

    places_of : 26 ≤ length ps → (x : Stamp) → IsStamp s x → take 26 (read_stamp_into s ps) ≡ stamp_places x
    places_of h x i =
        let l = places-length x i.lawful in
        ap (λ (t : List ℕ). take 26 (read_stamp_into t ps)) i.written
        ∙ ap (take 26) (into_stamp x i.lawful ps h)
        ∙ rw l at (part-sets ps 0 (stamp_places x) (omega arith))

    -- ---- the faults

    first_of : {f : Finding} → stamp_finding s ≡ f → IsFirst f (StampFaults s)
    first_of e = subst (λ (f : Finding). IsFirst f (StampFaults s)) e (stamp_first s)

    none-wrong : stamp_finding s ≡ Ok tt → NoFault (StampFaults s)
    unfolding IsFirst
    none-wrong e = first_of e

    one-wrong : {w : Reason} {at : ℕ} → stamp_finding s ≡ Err (w, at) → FirstOf (StampFaults s) w at
    unfolding IsFirst
    one-wrong e = first_of e

    wrong-none : NoFault (StampFaults s) → stamp_finding s ≡ Ok tt
    unfolding IsFirst
    wrong-none x = sym (stamp_only s (Ok tt) x)

    wrong-one : (w : Reason) (at : ℕ) → FirstOf (StampFaults s) w at → stamp_finding s ≡ Err (w, at)
    unfolding IsFirst
    wrong-one w at x = sym (stamp_only s (Err (w, at)) x)

    told : (w : Reason) (at : ℕ) → 26 ≤ length ps → stamp_finding s ≡ Err (w, at)
        → (v : Reason) × (stamp_reason_in (stamp_result (read_stamp s ps)) ≡ reason_number v) × FirstOf (StampFaults s) v (stamp_offset_in (stamp_result (read_stamp s ps)))
    unfolding stamp_reason_in stamp_offset_in
    told w at h e =
        let r = result-fault h e in
        let n = stamp_near s w at b e in
        let o : stamp_result (read_stamp s ps) % 4294967296 ≡ at = omega arith in
        (w, omega arith, rw o (one-wrong e))

    short-told : stamp_reason_in (stamp_result (read_stamp s ps)) ≡ 15 → length ps < 26
    unfolding stamp_reason_in
    short-told z =
        by_answer (λ h. h) (λ h e. let r = result-right h e in absurd (omega arith))
        (λ w at h e. let r = result-fault h e in let n = (reason_range w).1 in let o = stamp_near s w at b e in absurd (omega arith))

    kept : 1 ≤ stamp_result (read_stamp s ps) → read_stamp_into s ps ≡ ps
    unfolding read_stamp_into
    kept z =
        by_answer (λ h. sym (read_short s ps h).1) (λ h e. let r = result-right h e in absurd (omega arith))
        (λ w at h e. rw (le-ltb (length ps) 26 h, e) refl)

    reads : StampC s ps (stamp_result (read_stamp s ps)) (read_stamp_into s ps)
    reads = record {
      short_complete = result-short;
      short_sound = short-told;
      stamp_complete = λ h x i. result-right h (right_of x i);
      stamp_sound = λ z. stamp-of (zero_right z).1;
      right_complete = λ h x. result-right h (wrong-none x);
      right_sound = λ z. none-wrong (zero_right z).1;
      places = λ z. places_of (zero_right z).0;
      fault_complete = λ h w at x. result-fault h (wrong-one w at x);
      fault_sound = λ h z. by_answer (λ t. absurd (omega arith)) (λ t e. let r = result-right h e in absurd (omega arith)) told;
      fault_kept = kept;
      rest_kept = (into_kept ps s).0;
      size_kept = (into_kept ps s).1;
    }

pub c_stamp_reads : CStampReads
c_stamp_reads s ps b = reads s ps b

pub c_stamp_unique : CStampUnique
c_stamp_unique s x y i e = stamp_unique x i.lawful y (sym i.written ∙ e)

pub c_stamp_longest : CStampLongest
c_stamp_longest = record {
  most = λ s ps b z.
      let x = stamp-of s ps b (zero_right s ps b z).1 in
      let l = stamp_most x.0 x.1.lawful in
      let e = ap length x.1.written in
      omega arith;
  reached = (stamp_data fullest, full_bytes, full_length, λ ps h. result-right (stamp_data fullest) ps h full_right);
}
