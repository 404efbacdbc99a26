-- The places that a reading notes, and what stands there.
use Rattle.std.specs.Prelude.{ℕ, zero, suc, ◌+◌, ◌≤◌, ◌<◌, ◌≡◌, List, [], ◌∷◌, ◌++◌, true, length, take, get_or}
use Rattle.base.specs.Choice.{if_else}
use Rattle.base.specs.Bytes.{part}
use Rattle.objects_writer.specs.Number.{big}
use Rattle.objects_reader.specs.Form.{Form, is_clean, nowhere, read_by}
use Rattle.objects_reader.specs.Encoding.{Values, encode, Sized, leaves}
use Rattle.objects_reader.specs.declared.reader.Reading.{Reading}
use Rattle.objects_reader.specs.declared.reader.Span.{Span}

-- the k-th place that r notes [D9]
abbrev pub span_at : Reading → ℕ → Span
span_at r k = get_or r.places k nowhere

-- the number that a value of up to eight bytes is, the highest byte first; of a longer one, that of its first eight bytes [D6]
unfoldable pub number_in : List ℕ → ℕ
number_in v = big (take 8 v)

-- the number that stands at the k-th place that r notes [D6]
abbrev pub number_at : List ℕ → Reading → ℕ → ℕ
number_at s r k = let p = span_at r k in number_in (part s p.at p.len)

-- what is answered for data by a form: what the values found ask for, or a refusal [D5] [O6]
abbrev pub read_as : {A : Type 0} → Form → List ℕ → (Reading → A) → A → A
read_as f s answer refused = let r = read_by f s in if_else (is_clean r.fault) (answer r) refused

-- the first n places as one list: of each the start and the length [D9]
unfoldable pub place_pairs : List Span → ℕ → List ℕ
place_pairs ps zero = []
place_pairs ps (suc n) = let p = get_or ps n nowhere in place_pairs ps n ++ (p.at ∷ p.len ∷ [])

-- each place that r notes lies within n bytes [D9]
pub record Within (n : ℕ) (r : Reading) : Type 0 where
  pub places : length r.places ≡ 13
  pub each : (k : ℕ) → (span_at r k).at + (span_at r k).len ≤ n

-- the len bytes of s from start on are v [D11]
pub record Placed (s : List ℕ) (start len : ℕ) (v : List ℕ) : Type 0 where
  pub inside : start + len ≤ length s
  pub size : len ≡ length v
  pub is : part s start len ≡ v

-- r is clean and notes the values vs in s, in order [D9] [D11]
pub record Noted (s : List ℕ) (r : Reading) (vs : List (List ℕ)) : Type 0 where
  pub clean : is_clean r.fault ≡ true
  pub count : r.n ≡ length vs
  pub places : length r.places ≡ 13
  pub each : (k : ℕ) → k < length vs → Placed s (span_at r k).at (span_at r k).len (get_or vs k [])

-- s is a writing of the form's objects, of the sizes that it says, and r notes each value [D11]
pub record Parsed (f : Form) (s : List ℕ) (r : Reading) : Type 0 where
  pub values : Values f
  pub bytes : s ≡ encode f values
  pub sized : Sized f values
  pub short : length s < 65536
  pub noted : Noted s r (leaves f values)
