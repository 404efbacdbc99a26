-- A reading by a form ends clean exactly on the form's writings, and then notes the place of each value. Read before: specs/Encoding.antt,
-- specs/Places.antt, Sayable.antt. Exports `all_complete`, `all_places`, `all_sound`, `read_complete`, `read_sound`, and `bytes_drop`,
-- `bytes_take`, `none_left`.
use Prim.Native.Nat.{ℕ, zero, suc, ◌+◌, ◌-◌, ◌≤◌, ◌<◌}
use mathlib.Core.Path.{◌≡◌, refl, sym, ap, ap₂, ◌∙◌}
use mathlib.Core.List.{List, [], ◌∷◌, ◌++◌, append_assoc, append-nil}
use mathlib.Core.Bool.{true}
use mathlib.Core.Logic.{◌⊎◌, inl, inr, ⊎_elim}
use native.Mathlib.Omega.{arith}
use lib.ListN.{length, take, drop, set, length-set, length-drop, length-take, length-append, take-append-drop, get_or-append, get_or-eq_default}
use lib.Seq.{drop-drop, drop_at, take_at, get_or-drop, get_or-take, get_or-set_same, get_or-set_other, get_or-append_seam, length-take-le}
use lib.Dec.{ltb, eqb, lit<}
use borrow.Author.Tests.{lt-ltb, le-ltb, ne_eqb, ltb-true, ltb-false, eqb-true, eqb-false}
use Rattle.base.specs.Bytes.{AllBytes}
use Rattle.base.specs.Choice.{if_else}
use Rattle.base.proofs.Cases.{by_cases, false-true}
use Rattle.objects_writer.specs.Writing.{length_bytes, tag_bytes, tlv}
use Rattle.objects_reader.specs.Head.{head_of, Head}
use Rattle.objects_reader.specs.Form.{Form, done, plain, maybe, nested, is_clean, nowhere, fresh, spoilt, noted, on_head, of_size, on_value, read_form, read_all, read_by}
use Rattle.objects_reader.specs.Encoding.{Perhaps, absent, present, perhaps, Values, encode, value_of, SizedP, Sized, leaves, place_of, places_at, leaf_count, deep, Follows, Proper}
use Rattle.objects_reader.specs.Places.{place_pairs, Placed, Noted, Parsed}
use Rattle.objects_reader.specs.declared.head.HeadFault.TheVariants.{NoTag, NoLength}
use Rattle.std.specs.Prelude.{Ok, Err}
use Rattle.objects_reader.specs.declared.reader.Fault.TheVariants.{Tag, Length}
use Rattle.objects_reader.specs.declared.reader.Reading.{Reading}
use Rattle.objects_reader.specs.declared.reader.Span.{Span}
use Rattle.objects_reader.proofs.Heads.{head_size, Begins, head_of_sound}
use Rattle.objects_reader.proofs.Sayable.{AllSayable, short_sayable}
use Rattle.objects_reader.proofs.Unique.{length-tlv, object_head, object_value, object_rest, follows_head}

-- ---- every writing is read, and the places of its values are noted

-- e stands in s at base
record Stands (s : List ℕ) (base : ℕ) (e : List ℕ) : Type 0 where
  pre : List ℕ
  post : List ℕ
  whole : s ≡ pre ++ (e ++ post)
  at : length pre ≡ base

module _ {s : List ℕ} {base : ℕ} (t : ℕ) (a e : List ℕ) (w : Stands s base (tlv t a ++ e)) where
  stands-value : Stands s (base + head_size t (length a)) a
  unfolding tlv
  stands-value =
      let h = tag_bytes t ++ length_bytes (length a) in
      let k = w.at in
      record {
        pre = w.pre ++ h;
        post = e ++ w.post;
        whole = w.whole ∙ simp append_assoc;
        at = omega (arith, length-append w.pre h, length-append (tag_bytes t) (length_bytes (length a)));
      }

  stands-rest : Stands s (base + (head_size t (length a) + length a)) e
  stands-rest =
      let k = w.at in
      record {
        pre = w.pre ++ tlv t a;
        post = w.post;
        whole = w.whole ∙ simp append_assoc;
        at = omega (arith, length-append w.pre (tlv t a), length-tlv t a);
      }

placed : {s : List ℕ} {base : ℕ} {a : List ℕ} → Stands s base a → Placed s base (length a) a
placed {s} {base} {a} w =
    let l : length s ≡ length w.pre + (length a + length w.post) = ap length w.whole ∙ simp length-append in
    let k = w.at in
    record {
      inside = omega arith;
      size = refl;
      is = rw (w.whole, drop_at w.pre (a ++ w.post) base k) (take_at a w.post (length a) refl);
    }

placed-none : (s : List ℕ) → Placed s 0 0 []
placed-none s = record { inside = omega arith; size = refl; is = refl }

-- a place that is noted behind the first k is none of them
pairs_set : (ps : List Span) (n : ℕ) (p : Span) (k : ℕ) → k ≤ n → place_pairs (set ps n p) k ≡ place_pairs ps k
unfolding place_pairs
pairs_set ps n p zero h = refl
pairs_set ps n p (suc k) h = simp (pairs_set ps n p k (omega arith), get_or-set_other ps n k p nowhere (omega arith))

-- r notes the values vs, and ps are all the places that it notes
record NotedAt (s : List ℕ) (r : Reading) (vs : List (List ℕ)) (ps : List ℕ) : Type 0 where
  is : Noted s r vs
  at : place_pairs r.places r.n ≡ ps

note_at : {s : List ℕ} {r : Reading} {vs : List (List ℕ)} {ps : List ℕ} (start len : ℕ) → length vs < 13 → NotedAt s r vs ps
    → place_pairs (noted r start len).places (noted r start len).n ≡ ps ++ (start ∷ len ∷ [])
unfolding place_pairs
note_at {s} {r} {vs} {ps} start len h m =
    let c = m.is.count in
    let a = m.is.places in
    let p : Span = record { at = start; len = len } in
    let e : r.n + 1 ≡ suc r.n = omega arith in
    simp (lt-ltb r.n 13 (omega arith))
    (rw (e, pairs_set r.places r.n p r.n (omega arith), get_or-set_same r.places r.n p nowhere (omega arith), m.at) refl)

note_one : {s : List ℕ} {r : Reading} {vs : List (List ℕ)} {start len : ℕ} {v : List ℕ} → length vs < 13 → Noted s r vs → Placed s start len v → Noted s (noted r start len) (vs ++ (v ∷ []))
note_one {s} {r} {vs} {start} {len} {v} h m p =
    let c = m.count in
    let a = m.places in
    let q : Span = record { at = start; len = len } in
    let e = length-append vs (v ∷ []) in
    let t = lt-ltb r.n 13 (omega arith) in
    record {
      clean = simp t m.clean;
      count = simp t (omega arith);
      places = simp (t, length-set) a;
      each = λ k i. simp t
          (by_cases (ltb k (length vs))
          (λ f. let l = ltb-true k (length vs) f in
          simp (get_or-set_other r.places r.n k q nowhere (omega arith), get_or-append vs (v ∷ []) [] k l) (m.each k l))
          (λ f. let l = ltb-false k (length vs) f in
          let n : k ≡ r.n = omega arith in
          let n' : r.n ≡ length vs = c in
          rw n (simp (get_or-set_same r.places r.n q nowhere (omega arith)) (rw n' (simp (get_or-append_seam vs v [] []) p)))));
    }

note_next : {s : List ℕ} {r : Reading} {vs : List (List ℕ)} {ps : List ℕ} {start len : ℕ} {v : List ℕ} → length vs < 13 → NotedAt s r vs ps → Placed s start len v
    → NotedAt s (noted r start len) (vs ++ (v ∷ [])) (ps ++ (start ∷ len ∷ []))
note_next {start = start} {len = len} h m p = record { is = note_one h m.is p; at = note_at start len h m }

-- what is to be shown of a form's writing at a depth
abbrev Complete : (f : Form) → Values f → ℕ → Type 0
Complete f v d = (base : ℕ) (r : Reading) (s : List ℕ) (us : List (List ℕ)) (ps : List ℕ) → Stands s base (encode f v) → length us + length (leaves f v) ≤ 13 → NotedAt s r us ps
    → NotedAt s (read_form f d base (encode f v) r) (us ++ leaves f v) (ps ++ places_at f v base)

complete_value : (t lo hi : ℕ) (f : Form) (d : ℕ) (a : List ℕ) (v : Values f) → t < 65536 → 1 ≤ d → lo ≤ length a → length a ≤ hi → length a < 65536
    → Complete f v d → (base : ℕ) (r none : Reading) (s : List ℕ) (us : List (List ℕ)) (ps : List ℕ) → Stands s base (tlv t a ++ encode f v) → length us + suc (length (leaves f v)) ≤ 13 → NotedAt s r us ps
    → NotedAt s (on_value t lo hi d base (tlv t a ++ encode f v) r (read_form f d) none) (us ++ (a ∷ leaves f v)) (ps ++ (place_of base t (present a) ++ places_at f v (base + length (tlv t a))))
complete_value t lo hi f d a v p q x y z ih base r none s us ps w h m =
    let e = encode f v in
    let l = length-append us (a ∷ []) in
    let k = ih _ (noted r (base + head_size t (length a)) (length a)) s (us ++ (a ∷ [])) (ps ++ place_of base t (present a)) (stands-rest t a e w) (omega arith) (note_next (omega arith) m (placed (stands-value t a e w))) in
    simp (ne_eqb d 0 (omega arith), object_head t a e p z, le-ltb (length a) lo x, le-ltb hi (length a) y, object_rest t a e, length-tlv t a) (simp append_assoc at k)

complete_maybe : (t lo hi : ℕ) (f : Form) (d : ℕ) (o : Perhaps) (v : Values f) → t < 65536 → Follows t f → 1 ≤ d → SizedP lo hi o → length (value_of o) < 65536
    → Complete f v d → Complete (maybe t lo hi f) (o, v) d
unfolding read_form encode perhaps leaves places_at
complete_maybe t lo hi f d absent v p g q y z ih base r s us ps w h m =
    let l = length-append us ([] ∷ []) in
    let b : base + 0 ≡ base = omega arith in
    let k = ih base (noted r 0 0) s (us ++ ([] ∷ [])) (ps ++ (0 ∷ 0 ∷ [])) w (omega arith) (note_next (omega arith) m (placed-none s)) in
    simp (ne_eqb d 0 (omega arith), follows_head t f v g, b) (simp append_assoc at k)
complete_maybe t lo hi f d (present a) v p g q y z ih base r s us ps w h m =
    complete_value t lo hi f d a v p q y.0 y.1 z ih base r _ s us ps w h m

complete : (f : Form) (v : Values f) (d : ℕ) → Proper f → deep f ≤ d → Sized f v → AllSayable f v → Complete f v d
unfolding read_form encode leaves places_at Proper deep Sized AllSayable
complete done v d p q x z base r s us ps w h m = simp append-nil m
complete (plain t lo hi f) v d p q x z base r s us ps w h m =
    complete_value t lo hi f d v.0 v.1 p.0 (omega arith) x.0 x.1 z.0 (complete f v.1 d p.1 (omega arith) x.2 z.1) base r _ s us ps w h m
complete (maybe t lo hi f) v d p q x z base r s us ps w h m =
    complete_maybe t lo hi f d v.0 v.1 p.0 p.1 (omega arith) x.0 z.0 (complete f v.1 d p.2 (omega arith) x.1 z.1) base r s us ps w h m
complete (nested t g f) v d p q x z base r s us ps w h m =
    let a = encode g v.0 in
    let e = encode f v.1 in
    let l = length-append (leaves g v.0) (leaves f v.1) in
    let l' = length-append us (leaves g v.0) in
    let i = complete g v.0 (d - 1) p.1 (omega arith) x.0 z.1 (base + head_size t (length a)) r s us ps (stands-value t a e w) (omega arith) m in
    let j = complete f v.1 d p.2 (omega arith) x.1 z.2 (base + (head_size t (length a) + length a)) _ s (us ++ leaves g v.0) (ps ++ places_at g v.0 (base + head_size t (length a))) (stands-rest t a e w) (omega arith) i in
    simp (ne_eqb d 0 (omega arith), object_head t a e p.0 z.0, object_value t a e, object_rest t a e, i.is.clean, length-tlv t a) (simp append_assoc at j)

-- ---- what is read clean is a writing

-- parts of bytes are bytes
pub bytes_drop : (n : ℕ) (l : List ℕ) → AllBytes l → AllBytes (drop n l)
unfolding AllBytes
bytes_drop n l b i = rw get_or-drop (b (n + i))

pub bytes_take : (n : ℕ) (l : List ℕ) → AllBytes l → AllBytes (take n l)
unfolding AllBytes
bytes_take n l b i =
    by_cases (ltb i n)
    (λ e. rw (get_or-take n l i 0 (ltb-true i n e)) (b i))
    (λ e. let h = ltb-false i n e in
    rw (get_or-eq_default (take n l) 0 {n = i} (simp length-take (omega arith))) (lit< tt))

-- s is an object and what follows it
module _ (t : ℕ) (s : List ℕ) (k n : ℕ) (w : Begins (tag_bytes t ++ length_bytes n) s k n) where
  value-size : length (take n (drop k s)) ≡ n
  value-size = let i = w.inside in length-take-le n (drop k s) (simp length-drop (omega arith))

  split : s ≡ tlv t (take n (drop k s)) ++ drop (k + n) s
  unfolding tlv
  split =
      w.bytes ∙ rw (value-size, ← drop-drop n k s, append_assoc (tag_bytes t ++ length_bytes n) (take n (drop k s)) (drop n (drop k s)), take-append-drop n (drop k s)) refl

-- what a clean reading of s by f at a depth shows
pub record Found (f : Form) (d : ℕ) (s : List ℕ) : Type 0 where
  pub values : Values f
  pub bytes : s ≡ encode f values
  pub sized : Sized f values
  pub sayable : AllSayable f values
  pub within : deep f ≤ d

pub none_left : (s : List ℕ) → length s ≡ 0 → s ≡ []
none_left [] e = refl
none_left (a ∷ s) e = absurd (omega arith)

abbrev Sound : Form → ℕ → Type 0
Sound f d = (base : ℕ) (s : List ℕ) (r : Reading) → AllBytes s → is_clean (read_form f d base s r).fault ≡ true → Found f d s

-- a plain value first, and the rest by f
record Value (t lo hi : ℕ) (f : Form) (d : ℕ) (s : List ℕ) : Type 0 where
  value : List ℕ
  least : lo ≤ length value
  most : length value ≤ hi
  short : length value < 65536
  values : Values f
  bytes : s ≡ tlv t value ++ encode f values
  sized : Sized f values
  sayable : AllSayable f values
  within : deep f ≤ d

module _ (t lo hi : ℕ) (f : Form) (d : ℕ) (ih : Sound f d) (base : ℕ) (s : List ℕ) (r none : Reading) (b : AllBytes s) where
  sound-head : (h : Head) → head_of t s ≡ h
      → is_clean (on_head h (λ start len. of_size lo hi len (read_form f d (base + (start + len)) (drop (start + len) s) (noted r (base + start) len)) (spoilt r Length base)) none (spoilt r Length base)).fault ≡ true
      → (is_clean none.fault ≡ true) ⊎ Value t lo hi f d s
  sound-head (Err NoTag) e c = inl c
  sound-head (Err NoLength) e c = false-true c
  sound-head (Ok (k, n)) e c =
      by_cases (ltb n lo) (λ x. false-true (simp x at c)) (λ x.
      by_cases (ltb hi n) (λ y. false-true (simp (x, y) at c)) (λ y.
      let w = head_of_sound t s k n b e in
      let l = value-size t s k n w in
      let g = w.short in
      let x' = ltb-false n lo x in
      let y' = ltb-false hi n y in
      let o = ih (base + (k + n)) (drop (k + n) s) (noted r (base + k) n) (bytes_drop (k + n) s b) (simp (x, y) at c) in
      inr (record {
        value = take n (drop k s);
        least = omega arith;
        most = omega arith;
        short = omega arith;
        values = o.values;
        bytes = split t s k n w ∙ ap (λ (u : List ℕ). tlv t (take n (drop k s)) ++ u) o.bytes;
        sized = o.sized;
        sayable = o.sayable;
        within = o.within;
      })))

  sound-value : is_clean (on_value t lo hi d base s r (read_form f d) none).fault ≡ true → (1 ≤ d) × ((is_clean none.fault ≡ true) ⊎ Value t lo hi f d s)
  sound-value c =
      by_cases (eqb d 0) (λ e. false-true (simp e at c))
      (λ e. let n = eqb-false d 0 e in (omega arith, sound-head (head_of t s) refl (simp e at c)))

sound_nested : (t : ℕ) (g f : Form) (d : ℕ) → Sound g (d - 1) → Sound f d → (base : ℕ) (s : List ℕ) (r : Reading) → AllBytes s → 1 ≤ d → (h : Head) → head_of t s ≡ h
    → is_clean (on_head h (λ start len. let q = read_form g (d - 1) (base + start) (take len (drop start s)) r in
    if_else (is_clean q.fault) (read_form f d (base + (start + len)) (drop (start + len) s) q) q) (spoilt r Tag base) (spoilt r Length base)).fault ≡ true → Found (nested t g f) d s
unfolding encode deep Sized AllSayable
sound_nested t g f d ig ih base s r b m (Err NoTag) e c = false-true c
sound_nested t g f d ig ih base s r b m (Err NoLength) e c = false-true c
sound_nested t g f d ig ih base s r b m (Ok (k, n)) e c =
    let a = take n (drop k s) in
    let q = read_form g (d - 1) (base + k) a r in
    by_cases (is_clean q.fault)
    (λ x.
    let w = head_of_sound t s k n b e in
    let p = ig (base + k) a r (bytes_take n (drop k s) (bytes_drop k s b)) x in
    let o = ih (base + (k + n)) (drop (k + n) s) q (bytes_drop (k + n) s b) (simp x at c) in
    let u = o.within in
    let v = p.within in
    let l = value-size t s k n w in
    let y = w.short in
    let z = ap length p.bytes in
    record {
      values = (p.values, o.values);
      bytes = split t s k n w ∙ ap₂ (λ (x y : List ℕ). tlv t x ++ y) p.bytes o.bytes;
      sized = (p.sized, o.sized);
      sayable = (omega arith, p.sayable, o.sayable);
      within = omega arith;
    })
    (λ x. false-true (simp x at c))

sound : (f : Form) (d : ℕ) → Sound f d
unfolding read_form encode perhaps deep Sized AllSayable
sound done d base s r b c =
    by_cases (eqb (length s) 0)
    (λ e. record { values = tt; bytes = none_left s (eqb-true (length s) 0 e); sized = tt; sayable = tt; within = omega arith })
    (λ e. false-true (simp e at c))
sound (plain t lo hi f) d base s r b c =
    let x = sound-value t lo hi f d (sound f d) base s r _ b c in
    let m = x.0 in
    ⊎_elim (λ y. false-true y)
    (λ y. let u = y.within in record { values = (y.value, y.values); bytes = y.bytes; sized = (y.least, y.most, y.sized); sayable = (y.short, y.sayable); within = omega arith })
    x.1
sound (maybe t lo hi f) d base s r b c =
    let x = sound-value t lo hi f d (sound f d) base s r _ b c in
    let m = x.0 in
    ⊎_elim
    (λ y. let o = sound f d base s (noted r 0 0) b y in let u = o.within in record { values = (absent, o.values); bytes = o.bytes; sized = (tt, o.sized); sayable = (lit< tt, o.sayable); within = omega arith })
    (λ y. let u = y.within in record { values = (present y.value, y.values); bytes = y.bytes; sized = ((y.least, y.most), y.sized); sayable = (y.short, y.sayable); within = omega arith })
    x.1
sound (nested t g f) d base s r b c =
    by_cases (eqb d 0) (λ e. false-true (simp e at c))
    (λ e. let n = eqb-false d 0 e in sound_nested t g f d (sound g (d - 1)) (sound f d) base s r b (omega arith) (head_of t s) refl (simp e at c))

-- ---- the reader

count-leaves : (f : Form) (v : Values f) → length (leaves f v) ≡ leaf_count f
unfolding leaves leaf_count
count-leaves done v = refl
count-leaves (plain t lo hi f) v = ap suc (count-leaves f v.1)
count-leaves (maybe t lo hi f) v = ap suc (count-leaves f v.1)
count-leaves (nested t g f) v = length-append (leaves g v.0) (leaves f v.1) ∙ cc (count-leaves g v.0, count-leaves f v.1)

fresh_notes : (s : List ℕ) → Noted s fresh []
fresh_notes s = record { clean = refl; count = refl; places = refl; each = λ k h. absurd (omega arith) }

module _ (f : Form) (p : Proper f) (few : leaf_count f ≤ 13) where
  -- every writing is read clean, and its values are noted, where they stand
  module _ (q : deep f ≤ 4) (v : Values f) (x : Sized f v) (z : AllSayable f v) where
    all-at : NotedAt (encode f v) (read_all f (encode f v)) (leaves f v) (places_at f v 0)
    unfolding place_pairs
    all-at =
        let e = encode f v in
        let n = count-leaves f v in
        complete f v 4 p q x z 0 fresh e [] [] (record { pre = []; post = []; whole = sym (append-nil e); at = refl }) (omega arith) (record { is = fresh_notes e; at = refl })

    pub all_complete : Noted (encode f v) (read_all f (encode f v)) (leaves f v)
    all_complete = all-at.is

    pub all_places : place_pairs (read_all f (encode f v)).places (leaf_count f) ≡ places_at f v 0
    all_places =
        let r = read_all f (encode f v) in
        rw (← (all-at.is.count ∙ count-leaves f v)) all-at.at

  pub read_complete : deep f ≤ 4 → (v : Values f) → Sized f v → length (encode f v) < 65536 → Noted (encode f v) (read_by f (encode f v)) (leaves f v)
  unfolding read_by
  read_complete q v x z = simp (le-ltb 65535 (length (encode f v)) (omega arith)) (all_complete q v x (short_sayable f v z))

  -- what is read clean is a writing
  pub all_sound : (s : List ℕ) → AllBytes s → is_clean (read_all f s).fault ≡ true → Found f 4 s
  all_sound s b c = sound f 4 0 s fresh b c

  -- of at most 65,535 bytes, and its values are noted
  pub read_sound : (s : List ℕ) → AllBytes s → is_clean (read_by f s).fault ≡ true → Parsed f s (read_by f s)
  unfolding read_by
  read_sound s b c =
      by_cases (ltb 65535 (length s)) (λ e. false-true (simp e at c))
      (λ e.
      let o = all_sound s b (simp e at c) in
      let l : length s < 65536 = let k = ltb-false 65535 (length s) e in omega arith in
      let k = ap length o.bytes in
      let n = read_complete o.within o.values o.sized (omega arith) in
      record { values = o.values; bytes = o.bytes; sized = o.sized; short = l; noted = rw (← o.bytes) at n })
