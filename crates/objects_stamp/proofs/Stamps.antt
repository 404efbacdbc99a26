-- What is right is the writing of a stamp that Table 11 allows, every such writing is right, and it settles the stamp; what is told of any
-- other record is the first thing that is wrong. Read before: specs/Stamp.antt, specs/Faults.antt. Exports `told_fault`, `stamp_sound`,
-- `stamp_complete`, `stamp_noted`, `stamp_unique`, `stamp_most`, `stamp_first`, `stamp_only`, `stamp_near`.
use Prim.Native.Nat.{ℕ, zero, suc, ◌+◌, ◌≤◌, ◌<◌}
use mathlib.Core.Path.{◌≡◌, refl, sym, ap, ◌∙◌}
use mathlib.Core.List.{List, [], ◌∷◌, ◌++◌}
use mathlib.Core.Bool.{Bool, true, ◌&&◌}
use native.Mathlib.Omega.{arith}
use lib.ListN.{length, get_or}
use lib.Dec.{eqb}
use borrow.Author.Tests.{eqb-true, eqb-false}
use Rattle.base.specs.Choice.{if_else}
use Rattle.base.specs.Bytes.{AllBytes, part, same_bytes}
use Rattle.base.proofs.Cases.{by_cases, false-true, and_left, and_right}
use Rattle.base.proofs.Same.{same_equal, same_refl}
use Rattle.objects_writer.specs.Writing.{tlv, tag_bytes, length_bytes}
use Rattle.objects_reader.specs.Form.{is_clean, read_all}
use Rattle.objects_reader.specs.Encoding.{Perhaps, absent, present, value_of, Values, encode, SizedP, Sized}
use Rattle.objects_reader.specs.Places.{place_pairs, span_at, Noted}
use Rattle.objects_reader.specs.declared.reader.Fault.{Fault}
use Rattle.objects_reader.specs.declared.reader.Fault.TheVariants.{Tag, Length, Depth}
use Rattle.objects_reader.specs.declared.reader.Reading.{Reading}
use Rattle.objects_reader.proofs.Unique.{object_value, encode_unique}
use Rattle.objects_reader.proofs.Exact.{all_complete, all_places, all_sound}
use Rattle.objects_reader.proofs.Sayable.{short_sayable}
use Rattle.objects_stamp.specs.declared.chars.Chars.{Chars}
use Rattle.objects_stamp.specs.declared.chars.Chars.TheVariants.{Letters, Text, Binary}
use Rattle.objects_stamp.specs.declared.Reason.{Reason}
use Rattle.std.specs.Prelude.{Option, None, Some, Ok, Err}
use Rattle.objects_stamp.specs.Chars.{allows_all}
use Rattle.objects_stamp.specs.Stamp.{Stamp, Optional, Lawful, stamp_data, stamp_places}
use Rattle.objects_stamp.specs.Rules.{stamp_form, table_chars, chars_of, content_ok}
use Rattle.objects_stamp.specs.FirstFault.{Finding, stamp_finding}
use Rattle.objects_stamp.specs.Faults.{StampFaults}
use Rattle.objects_stamp.specs.Loops.{of_fault, tells}
use Rattle.objects_stamp.proofs.Telling.{wrong_right, tells-clean, told-first}
use Rattle.objects_reader.proofs.Sizes.{encode-most}
use Rattle.objects_stamp.proofs.Table.{values, fields, fields_of, encoded, leaves_are, places_are, proper, few, thirteen, flat, small, longest}
use Rattle.objects_stamp.proofs.First.{IsFirst, fault_first, first_unique, reach, fault_near}

empty : (w : List ℕ) (k : ℕ) → content_ok w k 0 0 ≡ true
unfolding content_ok allows_all same_bytes
empty w k = by_cases (eqb k 1) (λ e. simp e) (λ e. simp e)

-- what the code tells of its reading
pub told_fault : (s : List ℕ) {q : Reading} {v : Finding} → q ≡ read_all stamp_form s → v ≡ tells (content_ok s) q 13 0 → v ≡ stamp_finding s
unfolding stamp_finding
told_fault s e h = h ∙ ap (λ (r : Reading). tells (content_ok s) r 13 0) e ∙ told-first (content_ok s) (empty s) stamp_form s small flat few

-- ---- what is told where nothing is wrong

clean-right : (f : Option Fault) (at : ℕ) → is_clean f ≡ true → of_fault f at ≡ Ok tt
clean-right None at e = refl
clean-right (Some Tag) at e = false-true e
clean-right (Some Length) at e = false-true e
clean-right (Some Depth) at e = false-true e

module _ (ok : ℕ → ℕ → ℕ → Bool) (q : Reading) where
  abbrev ok_at : ℕ → Bool
  ok_at k = let p = span_at q k in ok k p.at p.len

  tells-each : (m k : ℕ) → tells ok q m k ≡ Ok tt → (j : ℕ) → k ≤ j → j < k + m → ok_at j ≡ true
  unfolding tells
  tells-each zero k e j p l = absurd (omega arith)
  tells-each (suc m) k e j p l =
      by_cases (ok_at k)
      (λ a. by_cases (eqb j k)
      (λ b. rw (eqb-true j k b) a)
      (λ b. let n = eqb-false j k b in tells-each m (suc k) (simp a at e) j (omega arith) (omega arith)))
      (λ a. absurd (wrong_right (simp a at e)))

  tells-right : (m k : ℕ) → is_clean q.fault ≡ true → ((j : ℕ) → j < k + m → ok_at j ≡ true) → tells ok q m k ≡ Ok tt
  unfolding tells
  tells-right zero k c a = clean-right q.fault q.at c
  tells-right (suc m) k c a = rw (a k (omega arith)) (tells-right m (suc k) c (λ j l. a j (omega arith)))

-- ---- contents of values that are noted

-- the value v of the k-th field, by the copy-at_3 of w
abbrev fits : List ℕ → ℕ → List ℕ → Bool
fits w k v = allows_all (chars_of k) v && if_else (eqb k 1) (same_bytes v (part w 3 (length v))) true

content-is : (w : List ℕ) (q : Reading) (vs : List (List ℕ)) → Noted w q vs → (k : ℕ) → k < length vs → ok_at (content_ok w) q k ≡ fits w k (get_or vs k [])
unfolding content_ok
content-is w q vs n k h = let p = n.each k h in rw (p.is, p.size) refl

-- the copy of the State stands from byte 3 on
copy_of : (a e : List ℕ) → length a ≡ 3 → part (tlv 0x5F44 a ++ e) 3 3 ≡ a
unfolding tag_bytes length_bytes
copy_of a e h = rw h at (object_value 0x5F44 a e)

copy-at_3 : (v : Values stamp_form) → length v.0 ≡ 3 → part (encode stamp_form v) 3 3 ≡ v.0
unfolding encode
copy-at_3 v h = copy_of v.0 _ h

optional : (c : Chars) (lo hi : ℕ) (o : Perhaps) → SizedP lo hi o → allows_all c (value_of o) ≡ true → Optional c lo hi o
optional c lo hi absent z e = tt
optional c lo hi (present a) z e = record { least = z.0; most = z.1; chars = e }

-- values of the sizes and contents of the table
module _ (w : List ℕ) (v : Values stamp_form) (z : Sized stamp_form v) (e : w ≡ encode stamp_form v) (each : (k : ℕ) → k < 13 → fits w k (get_or (fields_of (fields v)) k []) ≡ true) where
  chars : (k : ℕ) → k < 13 → allows_all (chars_of k) (get_or (fields_of (fields v)) k []) ≡ true
  chars k h = and_left _ _ (each k h)

  states : v.1.0.0 ≡ v.0
  unfolding Sized
  states =
      let a = z.0 in
      let b = z.1 in
      let c = z.2.0.0 in
      let d = z.2.0.1 in
      let n : length v.1.0.0 ≡ 3 = omega arith in
      let s = same_equal _ _ (and_right (allows_all (chars_of 1) v.1.0.0) _ (each 1 (omega arith))) in
      s ∙ rw (n, e) (copy-at_3 v (omega arith))

  lawful-of : Lawful (fields v)
  unfolding Sized chars_of
  lawful-of =
      let i = z.2.0 in
      let j = i.2.1 in
      let k = j.2.2.2.2 in
      let l = z.2.1 in
      record {
        copy = record { least = z.0; most = z.1; chars = chars 0 (omega arith) };
        state = record { least = i.0; most = i.1; chars = chars 1 (omega arith) };
        same = states;
        visas = optional Text 1 50 (fields v).visas i.2.0 (chars 2 (omega arith));
        date = record { least = j.0; most = j.1; chars = chars 3 (omega arith) };
        authority = record { least = j.2.0; most = j.2.1; chars = chars 4 (omega arith) };
        location = record { least = j.2.2.0; most = j.2.2.1; chars = chars 5 (omega arith) };
        inspector = record { least = j.2.2.2.0; most = j.2.2.2.1; chars = chars 6 (omega arith) };
        result = optional Text 1 50 (fields v).result k.0 (chars 7 (omega arith));
        mode = optional Letters 1 1 (fields v).mode k.1.0 (chars 8 (omega arith));
        duration = optional Binary 1 2 (fields v).duration k.1.1.0 (chars 9 (omega arith));
        conditions = optional Text 1 50 (fields v).conditions k.1.1.1.0 (chars 10 (omega arith));
        signature = record { least = l.0; most = l.1; chars = chars 11 (omega arith) };
        reference = record { least = l.2.0; most = l.2.1; chars = chars 12 (omega arith) };
      }

-- what is right is the writing of a stamp that Table 11 allows
pub stamp_sound : (s : List ℕ) → AllBytes s → stamp_finding s ≡ Ok tt → (x : Stamp) × Lawful x × (s ≡ stamp_data x)
unfolding stamp_finding
stamp_sound s b e =
    let q = read_all stamp_form s in
    let t = told-first (content_ok s) (empty s) stamp_form s small flat few ∙ e in
    let o = all_sound stamp_form proper few s b (tells-clean (content_ok s) (empty s) q 13 0 t) in
    let v = o.values in
    let n : Noted s q (fields_of (fields v)) = rw (← o.bytes, leaves_are (fields v)) at (all_complete stamp_form proper few flat v o.sized o.sayable) in
    let c : (k : ℕ) → k < 13 → fits s k (get_or (fields_of (fields v)) k []) ≡ true =
    λ k h. sym (content-is s q (fields_of (fields v)) n k h) ∙ tells-each (content_ok s) q 13 0 t k (omega arith) (omega arith) in
    (fields v, lawful-of s v o.sized o.bytes c, o.bytes ∙ encoded (fields v))

-- ---- every writing

optional_size : (c : Chars) (lo hi : ℕ) (o : Perhaps) → Optional c lo hi o → SizedP lo hi o
optional_size c lo hi absent f = tt
optional_size c lo hi (present a) f = (f.least, f.most)

optional_chars : (c : Chars) (lo hi : ℕ) (o : Perhaps) → Optional c lo hi o → allows_all c (value_of o) ≡ true
unfolding allows_all
optional_chars c lo hi absent f = refl
optional_chars c lo hi (present a) f = f.chars

-- each value is of its characters
abbrev Contents : List Chars → List (List ℕ) → Type 0
Contents [] vs = Unit {0}
Contents (c ∷ cs) [] = Unit {0}
Contents (c ∷ cs) (v ∷ vs) = (allows_all c v ≡ true) × Contents cs vs

content-at : (cs : List Chars) (vs : List (List ℕ)) → Contents cs vs → (k : ℕ) → k < length cs → k < length vs → allows_all (get_or cs k Letters) (get_or vs k []) ≡ true
content-at [] vs a k g h = absurd (omega arith)
content-at (c ∷ cs) [] a k g h = absurd (omega arith)
content-at (c ∷ cs) (v ∷ vs) a zero g h = a.0
content-at (c ∷ cs) (v ∷ vs) a (suc k) g h = content-at cs vs a.1 k (omega arith) (omega arith)

module _ (x : Stamp) (a : Lawful x) where
  sized : Sized stamp_form (values x)
  unfolding Sized
  sized = (
    a.copy.least,
    a.copy.most,
    (
      (
        a.state.least,
        a.state.most,
        (
          optional_size _ 1 50 x.visas a.visas,
          (
            a.date.least,
            a.date.most,
            (
              a.authority.least,
              a.authority.most,
              (
                a.location.least,
                a.location.most,
                (
                  a.inspector.least,
                  a.inspector.most,
                  (
                    optional_size _ 1 50 x.result a.result,
                    (
                      optional_size _ 1 1 x.mode a.mode,
                      (
                        optional_size _ 1 2 x.duration a.duration,
                        (
                          optional_size _ 1 50 x.conditions a.conditions,
                          tt,
                        ),
                      ),
                    ),
                  ),
                ),
              ),
            ),
          ),
        ),
      ),
      (
        a.signature.least,
        a.signature.most,
        (a.reference.least, a.reference.most, tt),
      ),
    ),
  )

  contents : Contents table_chars (fields_of x)
  contents = (
    a.copy.chars,
    (
      a.state.chars,
      (
        optional_chars Text 1 50 x.visas a.visas,
        (
          a.date.chars,
          (
            a.authority.chars,
            (
              a.location.chars,
              (
                a.inspector.chars,
                (
                  optional_chars Text 1 50 x.result a.result,
                  (
                    optional_chars Letters 1 1 x.mode a.mode,
                    (
                      optional_chars Binary 1 2 x.duration a.duration,
                      (optional_chars Text 1 50 x.conditions a.conditions, (a.signature.chars, (a.reference.chars, tt))),
                    ),
                  ),
                ),
              ),
            ),
          ),
        ),
      ),
    ),
  )

  -- "the longest stamp": 391 bytes
  pub stamp_most : length (stamp_data x) ≤ 391
  stamp_most = let l = encode-most stamp_form (values x) sized in let e = ap length (encoded x) in let m = longest in omega arith

  state-same : same_bytes x.state (part (stamp_data x) 3 (length x.state)) ≡ true
  state-same =
      let b = a.state.least in
      let c = a.state.most in
      let n : length x.state ≡ 3 = omega arith in
      let d = a.copy.least in
      let g = a.copy.most in
      rw (n, ← encoded x, copy-at_3 (values x) (omega arith), a.same) (same_refl x.copy)

  fitting : (k : ℕ) → k < 13 → fits (stamp_data x) k (get_or (fields_of x) k []) ≡ true
  unfolding chars_of
  fitting k h =
      rw (content-at table_chars (fields_of x) contents k h h)
      (by_cases (eqb k 1) (λ e. simp e (rw (eqb-true k 1 e) state-same)) (λ e. simp e))

  short : length (encode stamp_form (values x)) < 65536
  short = let e = ap length (encoded x) in let l = stamp_most in omega arith

  -- nothing is wrong with the writing of a stamp that Table 11 allows
  pub stamp_complete : stamp_finding (stamp_data x) ≡ Ok tt
  unfolding stamp_finding
  stamp_complete =
      let s = stamp_data x in
      let q = read_all stamp_form s in
      let n : Noted s q (fields_of x) = rw (encoded x, leaves_are x) at (all_complete stamp_form proper few flat (values x) sized (short_sayable stamp_form (values x) short)) in
      sym (told-first (content_ok s) (empty s) stamp_form s small flat few)
      ∙ tells-right (content_ok s) q 13 0 n.clean (λ k h. content-is s q (fields_of x) n k (omega arith) ∙ fitting k (omega arith))

  -- and the places noted are those of its fields
  pub stamp_noted : place_pairs (read_all stamp_form (stamp_data x)).places 13 ≡ stamp_places x
  stamp_noted = rw (encoded x, thirteen, places_are x) at (all_places stamp_form proper few flat (values x) sized (short_sayable stamp_form (values x) short))

  -- and other fields have another writing
  pub stamp_unique : (y : Stamp) → stamp_data x ≡ stamp_data y → x ≡ y
  stamp_unique y e =
      ap fields (encode_unique stamp_form proper (values x) (values y) short (encoded x ∙ e ∙ sym (encoded y)))

-- ---- the first fault

-- what is told is the first of everything that is wrong, and nothing else is
pub stamp_first : (s : List ℕ) → IsFirst (stamp_finding s) (StampFaults s)
unfolding stamp_finding
stamp_first s = fault_first (content_ok s) stamp_form 0 0 s

pub stamp_only : (s : List ℕ) (v : Finding) → IsFirst v (StampFaults s) → v ≡ stamp_finding s
stamp_only s v x = first_unique v (stamp_finding s) (StampFaults s) x (stamp_first s)

near_is : reach stamp_form < 4294967296
unfolding reach
near_is = omega arith

-- a fault stands near the copy-at_3, however long the record is
pub stamp_near : (s : List ℕ) (r : Reason) (at : ℕ) → AllBytes s → stamp_finding s ≡ Err (r, at) → at < 4294967296
unfolding stamp_finding
stamp_near s r at b e = let k = fault_near (content_ok s) stamp_form 0 0 s r at b e in let n = near_is in omega arith
