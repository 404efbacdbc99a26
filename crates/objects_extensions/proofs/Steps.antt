-- The definitions step by step, as the code goes. Read before: specs/Read.antt.
use Prim.Native.Nat.{ℕ, zero, suc, ◌+◌, ◌≤◌, ◌<◌}
use mathlib.Core.Path.{◌≡◌, refl, sym, ap, subst, ◌∙◌}
use mathlib.Core.Bool.{Bool, true, false, not}
use mathlib.Core.List.{List, [], ◌∷◌}
use native.Mathlib.Omega.{arith}
use lib.ListN.{length, get_or, drop, length-drop}
use lib.Dec.{ltb, eqb}
use lib.Bits.{bit_or, or_lt}
use borrow.Author.Tests.{eq-eqb, ne_eqb}
use Rattle.base.specs.Bytes.{same_bytes, part, put}
use Rattle.base.proofs.Cases.{if_else_ind}
use Rattle.objects_reader.specs.Head.{head_of, past_by, length_of, Head}
use Rattle.objects_reader.specs.Form.{is_clean, read_all}
use Rattle.objects_reader.specs.Places.{span_at}
use Rattle.objects_reader.specs.declared.head.HeadFault.TheVariants.{NoTag, NoLength}
use Rattle.objects_reader.specs.declared.reader.Reading.{Reading}
use Rattle.objects_reader.proofs.Lengths.{HeadIn, head_of_in}
use Rattle.objects_reader.proofs.Exact.{none_left}
use Rattle.objects_reader.specs.declared.head.HeadFault.{HeadFault}
use Rattle.std.specs.Option.{is_some}
use Rattle.objects_extensions.specs.declared.Known.{Known}
use Rattle.objects_extensions.specs.declared.Known.TheVariants.{Travel, Visa, Biometrics}
use Rattle.objects_extensions.specs.declared.ExtensionFault.{ExtensionFault}
use Rattle.objects_extensions.specs.declared.ExtensionFault.TheVariants.{Malformed, Twice}
use Rattle.std.specs.Prelude.{Ok, Err}
use Rattle.objects_extensions.specs.Extensions.{identifier_of, size_of, flag_of}
use Rattle.objects_extensions.specs.Read.{RunRead, RunResult, whole, faulty, on_whole, rights_place, has_flag, keeps_known, keeps, extension_form, extension_on, on_front, run_in, run_on}
use Rattle.objects_extensions.proofs.Runs.{run_end}

-- the answer n and the bytes d are those of r
abbrev pub Gave : RunResult → RunRead → List ℕ → Type 0
Gave r n d = (n ≡ r.read) × (d ≡ r.bytes)

pub gave : {r : RunResult} {n : RunRead} {d : List ℕ} → r ≡ record { read = n; bytes = d } → Gave r n d
gave e = (sym (ap (λ (q : RunResult). q.read) e), sym (ap (λ (q : RunResult). q.bytes) e))

pub of_gave : {r : RunResult} {n : RunRead} {d : List ℕ} → Gave r n d → r ≡ record { read = n; bytes = d }
of_gave {r} {n} {d} g = let a = g.0 in let b = g.1 in rw (a, b) refl

-- ---- a known extension

flag_range : (k : Known) → (0 < flag_of k) × (flag_of k < 256)
flag_range Travel = (omega arith, omega arith)
flag_range Visa = (omega arith, omega arith)
flag_range Biometrics = (omega arith, omega arith)

-- the flag can be divided by, and flags with it are a byte
module _ (k : Known) {y : ℕ} (e : y ≡ flag_of k) where
  pub flag_divides : 0 < y
  flag_divides = rw e (flag_range k).0

  pub flag_set : {x : ℕ} → x < 256 → bit_or x y < 256
  flag_set {x} h = rw e (or_lt 8 x (flag_of k) h (flag_range k).1)

module _ (k : Known) (c v : List ℕ) {n : ℕ} (e : n ≡ size_of k) where
  pub keep_size : (length v ≡ n → ⊥) → keeps_known k c v ≡ faulty Malformed c
  unfolding keeps_known
  keep_size h = simp (ne_eqb (length v) (size_of k) (rw e at h))

  module _ (h : length v ≡ n) {t : Bool} (f : t ≡ has_flag k c) where
    pub keep_twice : t ≡ true → keeps_known k c v ≡ faulty Twice c
    unfolding keeps_known
    keep_twice j = simp (eq-eqb (length v) (size_of k) (h ∙ e), sym f ∙ j)

    pub keep_put : {x z p : ℕ} {d g : List ℕ} → t ≡ false → x ≡ get_or c 0 0 → z ≡ flag_of k → d ≡ put c 0 (bit_or x z ∷ []) → p ≡ rights_place k → g ≡ put d p v → keeps_known k c v ≡ whole g
    unfolding keeps_known
    keep_put j i m a q b = simp (eq-eqb (length v) (size_of k) (h ∙ e), sym f ∙ j) (rw (b, q, a, m, i) refl)

-- ---- any extension

pub gave_as : {r q : RunResult} {n : RunRead} {d : List ℕ} → r ≡ q → Gave q n d → Gave r n d
gave_as e g = rw e g

module _ (c id v : List ℕ) {x : Bool} (a : x ≡ same_bytes id (identifier_of Travel)) where
  abbrev kept : RunResult
  kept = keeps c (record { identifier = id; rights = v })

  pub keep_travel : x ≡ true → kept ≡ keeps_known Travel c v
  unfolding keeps
  keep_travel i = simp (sym a ∙ i)

  module _ (i : x ≡ false) {y : Bool} (b : y ≡ same_bytes id (identifier_of Visa)) where
    pub keep_visa : y ≡ true → kept ≡ keeps_known Visa c v
    unfolding keeps
    keep_visa j = simp (sym a ∙ i, sym b ∙ j)

    module _ (j : y ≡ false) {z : Bool} (e : z ≡ same_bytes id (identifier_of Biometrics)) where
      pub keep_biometrics : z ≡ true → kept ≡ keeps_known Biometrics c v
      unfolding keeps
      keep_biometrics k = simp (sym a ∙ i, sym b ∙ j, sym e ∙ k)

      pub keep_unknown : z ≡ false → kept ≡ whole c
      unfolding keeps
      keep_unknown k = simp (sym a ∙ i, sym b ∙ j, sym e ∙ k)

-- ---- the bytes of an extension

module _ (c t : List ℕ) {q : Reading} {r : Bool} (e : q ≡ read_all extension_form t) (f : r ≡ is_some q.fault) where
  pub extension_refused : r ≡ true → extension_on c t ≡ faulty Malformed c
  unfolding extension_on
  extension_refused h = let n : is_clean (read_all extension_form t).fault ≡ false = rw (← e) (ap not (sym f ∙ h)) in simp n

  pub extension_accepted : r ≡ false → {a b : List ℕ} {n : RunRead} {d : List ℕ} → a ≡ part t (span_at q 0).at (span_at q 0).len → b ≡ part t (span_at q 1).at (span_at q 1).len
      → Gave (keeps c (record { identifier = a; rights = b })) n d → Gave (extension_on c t) n d
  unfolding extension_on
  extension_accepted h i j g = let y : is_clean (read_all extension_form t).fault ≡ true = rw (← e) (ap not (sym f ∙ h)) in simp y (rw (← e) (rw (i, j) at g))

-- ---- the walk

abbrev Starts : Head → Type 0
Starts (Ok (start, len)) = 1 ≤ start
Starts (Err NoTag) = Unit {0}
Starts (Err NoLength) = Unit {0}

past_starts : (h : Head) → Starts (past_by 1 h)
past_starts (Ok (start, len)) = omega arith
past_starts (Err NoTag) = tt
past_starts (Err NoLength) = tt

head-starts : (s : List ℕ) → Starts (head_of 0x73 s)
unfolding head_of
head-starts s = if_else_ind Starts (ltb (length s) 1) (λ e. tt) (λ e. if_else_ind Starts (eqb (get_or s 0 0) 0x73) (λ f. past_starts (length_of (drop 1 s))) (λ f. tt))

-- the run s, put into c₀, gives what its rest gives, put into c
pub record Walking (c₀ s c rest : List ℕ) : Type 0 where
  pub fuel : ℕ
  pub enough : length rest ≤ fuel
  pub same : run_on c₀ s ≡ run_in fuel c rest

pub walk_start : (c s : List ℕ) → Walking c s c s
unfolding run_on
walk_start c s = record { fuel = length s; enough = omega arith; same = refl }

pub walk_end : {c₀ s c rest : List ℕ} → Walking c₀ s c rest → length rest ≡ 0 → run_on c₀ s ≡ whole c
walk_end {c₀} {s} {c} {rest} w h = w.same ∙ rw (none_left rest h) (run_end w.fuel c)

-- one turn more is left
record Turning (c₀ s c rest : List ℕ) : Type 0 where
  less : ℕ
  enough : length rest ≤ suc less
  same : run_on c₀ s ≡ on_front (head_of 0x73 rest) (λ start len. on_whole (extension_on c (part rest 0 (start + len))) (λ d. run_in less d (drop (start + len) rest))) (faulty Malformed c)

turning : {c₀ s c rest : List ℕ} (k : ℕ) → length rest ≤ k → run_on c₀ s ≡ run_in k c rest → (length rest ≡ 0 → ⊥) → Turning c₀ s c rest
unfolding run_in
turning zero e f h = absurd (h (omega arith))
turning {c₀} {s} {c} {rest} (suc k) e f h = record { less = k; enough = e; same = f ∙ simp (ne_eqb (length rest) 0 h) }

module _ {c₀ s c rest : List ℕ} (w : Walking c₀ s c rest) (h : length rest ≡ 0 → ⊥) {f : Head} (ef : f ≡ head_of 0x73 rest) where
  turn : Turning c₀ s c rest
  turn = turning w.fuel w.enough w.same h

  pub walk_bad : {g : HeadFault} → f ≡ Err g → run_on c₀ s ≡ faulty Malformed c
  walk_bad e = turn.same ∙ rw (sym ef ∙ e) refl

  module _ {start len : ℕ} (e : f ≡ Ok (start, len)) where
    walk-starts : 1 ≤ start
    walk-starts = subst Starts (sym ef ∙ e) (head-starts rest)

    pub walk_within : start + len ≤ length rest
    walk_within = let i : HeadIn 5 (length rest) (Ok (start, len)) = subst (HeadIn 5 (length rest)) (sym ef ∙ e) (head_of_in 0x73 rest) in i.1

    -- the measure falls
    pub walk_less : {l : List ℕ} → l ≡ drop (start + len) rest → length l < length rest
    walk_less {l} q = let a = walk-starts in let b = walk_within in let m = length-drop (start + len) rest in rw q (omega arith)

    front_same : run_on c₀ s ≡ on_whole (extension_on c (part rest 0 (start + len))) (λ d. run_in turn.less d (drop (start + len) rest))
    front_same = turn.same ∙ rw (sym ef ∙ e) refl

    module _ {p d : List ℕ} {n : RunRead} (ep : p ≡ part rest 0 (start + len)) (g : Gave (extension_on c p) n d) where
      extension-is : extension_on c (part rest 0 (start + len)) ≡ record { read = n; bytes = d }
      extension-is = rw (← ep) (of_gave g)

      pub walk_stop : {v : ExtensionFault} → n ≡ Err v → run_on c₀ s ≡ faulty v d
      walk_stop z = front_same ∙ rw (extension-is, z) refl

      pub walk_next : n ≡ Ok tt → {l : List ℕ} → l ≡ drop (start + len) rest → Walking c₀ s d l
      walk_next z q =
          let a = walk-starts in
          let b = turn.enough in
          let m = length-drop (start + len) rest in
          rw q (record { fuel = turn.less; enough = omega arith; same = front_same ∙ rw (extension-is, z) refl })
