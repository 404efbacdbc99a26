-- The reply of a search, as it is written, and its length. Read specs/Found.antt before. Exports `listed-turn` for the loop,
-- `reply-whole`, `reply-length`, `reply_accepted`, `reply-refused`, `found_bound`.
use Prim.Native.Nat.{ℕ, ◌+◌, ◌*◌, ◌≤◌, ◌<◌}
use mathlib.Core.Path.{◌≡◌, refl, sym, ap, ap₂, ◌∙◌}
use mathlib.Core.Bool.{true}
use mathlib.Core.List.{List, [], ◌∷◌, ◌++◌, append_assoc}
use native.Mathlib.Omega.{arith}
use native.Mathlib.Numerals.{add-one}
use lib.ListN.{length, get_or, take, length-append}
use lib.Seq.{sets, length-sets, take-suc, length-take-le}
use lib.Dec.{lit≤, leb}
use borrow.Author.Tests.{le-leb, lt-leb}
use Rattle.base.specs.Bytes.{put}
use Rattle.base.proofs.Runs.{sets-append, put_accepted}
use Rattle.objects_writer.specs.Writing.{tag_bytes, length_bytes, tlv}
use Rattle.objects_writer.specs.Writer.{head_bytes, put_end}
use Rattle.objects_writer.proofs.Writings.{put-none as nothing, head_bytes-value}
use Rattle.machine_reply_search.specs.Found.{listed, found_data, reply}
use Rattle.machine_reply_search.specs.Loops.{inner_length, found_length}
use Rattle.objects_writer.proofs.Storing.{Wrote, wrote_none, wrote_run, wrote_put, wrote_after, wrote_all, wrote_length, wrote_refused}
use Rattle.objects_writer.proofs.Sizes.{length-tlv_parts, length-tlv_small, length-length_bytes-short, length-length_bytes-one, length-length_bytes_two, length-length_bytes-most}

-- ---- the numbers

pub listed-length : (ns : List ℕ) → length (listed ns) ≡ 3 * length ns
unfolding listed tlv tag_bytes length_bytes
listed-length [] = refl
listed-length (n ∷ ns) = let l = listed-length ns in omega arith

listed_snoc : (ns : List ℕ) (x : ℕ) → listed (ns ++ (x ∷ [])) ≡ listed ns ++ (0x02 ∷ 0x01 ∷ x ∷ [])
unfolding listed tlv tag_bytes length_bytes
listed_snoc [] x = refl
listed_snoc (n ∷ ns) x = ap (λ (l : List ℕ). 0x02 ∷ 0x01 ∷ n ∷ l) (listed_snoc ns x)

pub listed-turn : (out now last : List ℕ) (at : ℕ) (ns : List ℕ) (i : ℕ) → i < length ns → at + 3 * length ns ≤ length out → now ≡ sets out at (listed (take i ns))
    → last ≡ put now (at + 3 * i) (0x02 ∷ 0x01 ∷ get_or ns i 0 ∷ []) → last ≡ sets out at (listed (take (i + 1) ns))
listed-turn out now last at ns i h r e p =
    let b : List ℕ = 0x02 ∷ 0x01 ∷ get_or ns i 0 ∷ [] in
    let A : List ℕ = listed (take i ns) in
    let k : length A ≡ 3 * i = listed-length (take i ns) ∙ ap (λ (x : ℕ). 3 * x) (length-take-le i ns (omega arith)) in
    let n = length-sets out at A in
    let room : at + 3 * i + 3 ≤ length now = omega (arith, ap length e) in
    p
    ∙ put_accepted now (at + 3 * i) b room
    ∙ ap₂ (λ (l : List ℕ) (x : ℕ). sets l (at + x) b) e (sym k)
    ∙ sym (sets-append out at A b)
    ∙ ap (sets out at) (sym (ap (λ (x : ℕ). listed (take x ns)) (add-one i) ∙ ap listed (take-suc ns i 0 h) ∙ listed_snoc (take i ns) (get_or ns i 0)))

-- ---- the length of the whole

module _ (file ns : List ℕ) (p : length file ≤ 127) where
  pub inner-length : length (tlv 0x51 file ++ listed ns) ≡ 2 + length file + 3 * length ns
  inner-length =
      omega (arith, length-append (tlv 0x51 file) (listed ns), listed-length ns, length-tlv_small 0x51 file (lit≤ tt) (omega arith))

  pub found-size : length (found_data file ns) ≡ 2 + length (length_bytes (2 + length file + 3 * length ns)) + (2 + length file + 3 * length ns)
  unfolding found_data tag_bytes
  found-size = length-tlv_parts 0x7F76 (tlv 0x51 file ++ listed ns) ∙ ap (λ (k : ℕ). 2 + length (length_bytes k) + k) inner-length

-- for given sizes of a file reference and of the numbers
module _ (file n : ℕ) where
  pub sizes_short : inner_length file n < 0x80 → 3 + inner_length file n ≡ found_length file n
  unfolding found_length
  sizes_short h = omega (arith, length-length_bytes-short (inner_length file n) h)

  pub sizes_one : 0x80 ≤ inner_length file n → inner_length file n < 0x100 → 4 + inner_length file n ≡ found_length file n
  unfolding found_length
  sizes_one l h = omega (arith, length-length_bytes-one (inner_length file n) l h)

  pub sizes_two : 0x100 ≤ inner_length file n → 5 + inner_length file n ≡ found_length file n
  unfolding found_length
  sizes_two l = omega (arith, length-length_bytes_two (inner_length file n) l)

-- the length does not depend on the bytes
pub found-length : (file ns : List ℕ) → length file ≤ 127 → found_length (length file) (length ns) ≡ length (found_data file ns)
unfolding found_length
found-length file ns p = sym (found-size file ns p)

-- ---- the whole, as it is stored

-- whether the reply fits
pub reply-fits-long : (file ns : List ℕ) (ne : ℕ) → 127 < length file → true ≡ leb (length (reply file ns)) ne
unfolding reply
reply-fits-long file ns ne h = simp (lt-leb (length file) 127 h) (sym (le-leb 0 ne (omega arith)))

pub reply-whole : (file ns : List ℕ) → length file ≤ 127 → reply file ns ≡ found_data file ns
unfolding reply
reply-whole file ns p = simp (le-leb (length file) 127 p)

-- its length, known before it is written
pub reply-length : (file ns : List ℕ) → length file ≤ 127 → found_length (length file) (length ns) ≡ length (reply file ns)
reply-length file ns p = found-length file ns p ∙ sym (ap length (reply-whole file ns p))

module _ (out file ns : List ℕ) where
  pub reply-long : 127 < length file → (0 ≡ put_end out 0 (reply file ns)) × (out ≡ put out 0 (reply file ns))
  unfolding reply
  reply-long h = simp (lt-leb (length file) 127 h) (nothing out 0)

  module _ (p : length file ≤ 127) (q : length ns ≤ 254) (len : ℕ) (e : len ≡ found_length (length file) (length ns)) where
    size : len ≡ length (reply file ns)
    size = e ∙ reply-length file ns p

    pub reply-refused : length out < len → (0 ≡ put_end out 0 (reply file ns)) × (out ≡ put out 0 (reply file ns))
    reply-refused h = wrote_refused out (reply file ns) (omega (arith, size))

    abbrev pub outer : List ℕ
    outer = head_bytes 0x7F76 (2 + length file + 3 * length ns)

    abbrev pub inner : List ℕ
    inner = head_bytes 0x51 (length file)

    parts : outer ++ inner ++ file ++ listed ns ≡ reply file ns
    unfolding found_data
    parts =
        let v = tlv 0x51 file ++ listed ns in
        let l = inner-length file ns p in
        append_assoc (outer ++ inner) file (listed ns)
        ∙ append_assoc outer inner (file ++ listed ns)
        ∙ ap (λ (x : List ℕ). outer ++ x) (sym (append_assoc inner file (listed ns)) ∙ ap (λ (x : List ℕ). x ++ listed ns) (head_bytes-value 0x51 file (lit≤ tt) (omega arith)))
        ∙ ap (λ (k : ℕ). head_bytes 0x7F76 k ++ v) (sym l)
        ∙ head_bytes-value 0x7F76 v (lit≤ tt) (omega arith)
        ∙ sym (reply-whole file ns p)

    module _ (h : len ≤ length out) {k₁ k₂ : ℕ} {o₁ o₂ o₃ : List ℕ}
        (a : (k₁ ≡ put_end out 0 outer) × (o₁ ≡ put out 0 outer))
        (b : (k₂ ≡ put_end o₁ k₁ inner) × (o₂ ≡ put o₁ k₁ inner))
        (d : o₃ ≡ put o₂ k₂ file) where
      all : length outer + length inner + length file + length (listed ns) ≡ len
      all =
          omega (arith, ap length parts, size, length-append (outer ++ inner ++ file) (listed ns), length-append (outer ++ inner) file, length-append outer inner)

      before : Wrote out (outer ++ inner ++ file) (k₂ + length file) o₃
      before =
          let m = all in
          let l₁ = length-append outer inner in
          let l₂ = length-append (outer ++ inner) file in
          wrote_put out (outer ++ inner) file (omega arith)
          (wrote_after out outer inner (omega arith) (wrote_after out [] outer (omega arith) (wrote_none out) a) b) d

      -- the numbers' room
      pub reply-room : k₂ + length file + 3 * length ns ≤ length o₃
      reply-room =
          omega (arith, all, before.place, wrote_length out _ before, listed-length ns, length-append (outer ++ inner) file, length-append outer inner)

      pub reply_accepted : (last : List ℕ) → last ≡ sets o₃ (k₂ + length file) (listed ns) → (len ≡ put_end out 0 (reply file ns)) × (last ≡ put out 0 (reply file ns))
      reply_accepted last f =
          let w = wrote_run out (outer ++ inner ++ file) (listed ns) before f in
          let g = wrote_all out _ (reply file ns) parts (omega (arith, size)) w in
          (omega (arith, g.0, w.place, ap length parts, size), g.1)

-- every reply is short enough for a response: a file reference of at most 2 bytes, and at most as many numbers as a file has records
pub found_bound : (file ns : List ℕ) → length file ≤ 2 → length ns ≤ 254 → length (found_data file ns) ≤ 2048
found_bound file ns p q =
    omega (arith, found-size file ns (omega arith), length-length_bytes-most (2 + length file + 3 * length ns))
