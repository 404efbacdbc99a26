-- What reading a stamp writes into the list, and what it answers. Read before: specs/Read.antt. Exports `pairs_turn` (one turn of
-- the loop that writes), `small_places`, `read_right`, `read_wrong`, `read_short`, `into_stamp`, `into_kept`, `places-length`.
use Prim.Native.Nat.{ℕ, zero, suc, ◌+◌, ◌*◌, ◌≤◌, ◌<◌}
use mathlib.Core.Path.{◌≡◌, refl, sym, ap, ◌∙◌}
use mathlib.Core.List.{List, [], ◌∷◌}
use native.Mathlib.Omega.{arith}
use lib.ListN.{length, get_or, drop, set, length-append}
use lib.Seq.{sets, length-sets}
use lib.Dec.{ltb}
use borrow.Author.Tests.{lt-ltb, le-ltb}
use Rattle.base.specs.Bytes.{AllBytes}
use Rattle.base.proofs.Cases.{by_cases}
use Rattle.base.proofs.Runs.{sets-append, drop-sets_past}
use Rattle.objects_reader.specs.Form.{nowhere, read_all}
use Rattle.objects_reader.specs.Places.{place_pairs, span_at}
use Rattle.objects_reader.specs.declared.reader.Reading.{Reading}
use Rattle.objects_reader.specs.declared.reader.Span.{Span}
use Rattle.objects_reader.proofs.Within.{all_within}
use Rattle.objects_stamp.specs.declared.Reason.{Reason}
use Rattle.std.specs.Prelude.{Ok, Err}
use Rattle.objects_stamp.specs.declared.StampFault.TheVariants.{ShortList, Wrong}
use Rattle.objects_stamp.specs.Stamp.{Stamp, Lawful, stamp_data, stamp_places}
use Rattle.objects_stamp.specs.Rules.{stamp_form}
use Rattle.objects_stamp.specs.FirstFault.{Finding, stamp_finding}
use Rattle.objects_stamp.specs.Read.{read_stamp, places_written, read_stamp_into}
use Rattle.objects_stamp.proofs.Stamps.{stamp_sound, stamp_complete, stamp_noted, stamp_most}

module _ (ps : List Span) where
  abbrev nth : ℕ → Span
  nth k = get_or ps k nowhere

  pairs-length : (k : ℕ) → length (place_pairs ps k) ≡ 2 * k
  unfolding place_pairs
  pairs-length zero = refl
  pairs-length (suc k) = omega (arith, length-append (place_pairs ps k) ((nth k).at ∷ (nth k).len ∷ []), pairs-length k)

  -- two numbers more
  pairs-step : (k : ℕ) (l : List ℕ) → sets l 0 (place_pairs ps (suc k)) ≡ set (set (sets l 0 (place_pairs ps k)) (2 * k) (nth k).at) (suc (2 * k)) (nth k).len
  unfolding place_pairs
  pairs-step k l =
      sets-append l 0 (place_pairs ps k) ((nth k).at ∷ (nth k).len ∷ [])
      ∙ ap (λ (n : ℕ). set (set (sets l 0 (place_pairs ps k)) n (nth k).at) (suc n) (nth k).len) (let n = pairs-length k in omega arith)

  pub pairs_turn : (k : ℕ) (l m : List ℕ) → m ≡ sets l 0 (place_pairs ps k)
      → set (set m (2 * k) (nth k).at) (2 * k + 1) (nth k).len ≡ sets l 0 (place_pairs ps (k + 1))
  pairs_turn k l m e =
      let a : k + 1 ≡ suc k = omega arith in
      let b : 2 * k + 1 ≡ suc (2 * k) = omega arith in
      rw (a, b, e) (sym (pairs-step k l))

-- the reader's places q of a record s, of which v is told
module _ (s : List ℕ) {v : Finding} {q : Reading} (a : v ≡ stamp_finding s) (b : q ≡ read_all stamp_form s) where
  -- the places of a stamp are small
  pub small_places : AllBytes s → v ≡ Ok tt → ((k : ℕ) → (span_at q k).at < 4294967296) × ((k : ℕ) → (span_at q k).len < 4294967296)
  small_places g e =
      let x = stamp_sound s g (sym a ∙ e) in
      let l = stamp_most x.0 x.1 in
      let m = ap length x.2 in
      let i = (all_within stamp_form s).each in
      rw b ((λ k. let j = i k in omega arith), λ k. let j = i k in omega arith)

  module _ (ps : List ℕ) (n : 26 ≤ length ps) where
    pub read_right : {m : List ℕ} → v ≡ Ok tt → m ≡ sets ps 0 (place_pairs q.places 13) → (Ok tt ≡ read_stamp s ps) × (m ≡ read_stamp_into s ps)
    unfolding read_stamp read_stamp_into
    read_right {m} e f =
        let t = le-ltb (length ps) 26 n in
        let u = sym a ∙ e in
        (rw (t, u) refl, f ∙ rw (t, u, ← b) refl)

    pub read_wrong : {r : Reason} {at : ℕ} → v ≡ Err (r, at) → (Err (Wrong r at) ≡ read_stamp s ps) × (ps ≡ read_stamp_into s ps)
    unfolding read_stamp read_stamp_into
    read_wrong e =
        let t = le-ltb (length ps) 26 n in
        let u = sym a ∙ e in
        (rw (t, u) refl, rw (t, u) refl)

pub read_short : (s ps : List ℕ) → length ps < 26 → (Err ShortList ≡ read_stamp s ps) × (ps ≡ read_stamp_into s ps)
unfolding read_stamp read_stamp_into
read_short s ps n = let t = lt-ltb (length ps) 26 n in (rw t refl, rw t refl)

-- of the writing of a stamp the list gets the places of its fields
pub into_stamp : (x : Stamp) → Lawful x → (ps : List ℕ) → 26 ≤ length ps → read_stamp_into (stamp_data x) ps ≡ sets ps 0 (stamp_places x)
unfolding read_stamp_into
into_stamp x a ps n = rw (le-ltb (length ps) 26 n, stamp_complete x a, stamp_noted x a) refl

pub places-length : (x : Stamp) → Lawful x → length (stamp_places x) ≡ 26
places-length x a = rw (← stamp_noted x a) (pairs-length _ 13)

-- the list keeps its size, and its entries behind the 26
module _ (ps : List ℕ) where
  written_kept : (f : Finding) (q : Reading) → (drop 26 (places_written f q ps) ≡ drop 26 ps) × (length (places_written f q ps) ≡ length ps)
  written_kept (Ok _) q =
      let v = place_pairs q.places 13 in
      (drop-sets_past 26 ps 0 v (let l = pairs-length q.places 13 in omega arith), length-sets ps 0 v)
  written_kept (Err (r, at)) q = (refl, refl)

  pub into_kept : (s : List ℕ) → (drop 26 (read_stamp_into s ps) ≡ drop 26 ps) × (length (read_stamp_into s ps) ≡ length ps)
  unfolding read_stamp_into
  into_kept s = by_cases (ltb (length ps) 26) (λ e. rw e (refl, refl)) (λ e. rw e (written_kept (stamp_finding s) (read_all stamp_form s)))
