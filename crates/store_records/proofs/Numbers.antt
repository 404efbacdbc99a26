-- Little-endian numbers: past the end, in lists that agree, in a part, and written and read back.
-- Read before: specs/Little.antt. Exports: `le16-…` and `le32-…` (-small, -past, -agree, -part, -bytes, -stored, -set), `length-bytes16`,
-- `length-bytes32`.
use Prim.Native.Nat.{ℕ, ◌+◌, ◌*◌, ◌/◌, ◌%◌, ◌≤◌, ◌<◌}
use mathlib.Core.Path.{◌≡◌, refl, sym, ap, ap₂, ◌∙◌}
use mathlib.Core.List.{List, ◌++◌}
use native.Mathlib.Omega.{arith}
use native.Mathlib.Nat.{add-zero, div-div-eq-div-mul}
use lib.ListN.{length, get_or, set, length-set, get_or-eq_default}
use lib.Seq.{sets, get_or-set_same, get_or-set_other}
use Rattle.base.specs.Bytes.{part, AllBytes}
use Rattle.base.proofs.Parts.{Agree, get_d_part}
use Rattle.base.proofs.Runs.{part-sets}
use Rattle.store_records.specs.Little.{le16, le32, bytes16, bytes32}

-- two bytes are below 65,536
pub le16_small : (xs : List ℕ) (i : ℕ) → AllBytes xs → le16 xs i < 65536
unfolding le16 AllBytes
le16_small xs i b = let l = b i in let h = b (i + 1) in omega arith

-- ---- past the end

pub le16_past : (xs : List ℕ) (i : ℕ) → length xs ≤ i → le16 xs i ≡ 0
unfolding le16
le16_past xs i h =
    let a = get_or-eq_default xs 0 h in
    let b = get_or-eq_default xs 0 {n = i + 1} (omega arith) in
    omega arith

pub le32_past : (xs : List ℕ) (i : ℕ) → length xs ≤ i → le32 xs i ≡ 0
unfolding le32
le32_past xs i h = let a = le16_past xs i h in let b = le16_past xs (i + 2) (omega arith) in omega arith

-- ---- in a list that agrees, and in a part

pub le16_agree : (xs ys : List ℕ) (a e p : ℕ) → Agree xs ys a e → a ≤ p → p + 2 ≤ e → le16 ys p ≡ le16 xs p
unfolding le16 Agree
le16_agree xs ys a e p g h k = simp (g p h (omega arith), g (p + 1) (omega arith) (omega arith))

pub le32_agree : (xs ys : List ℕ) (a e p : ℕ) → Agree xs ys a e → a ≤ p → p + 4 ≤ e → le32 ys p ≡ le32 xs p
unfolding le32
le32_agree xs ys a e p g h k = simp (le16_agree xs ys a e p g h (omega arith), le16_agree xs ys a e (p + 2) g (omega arith) (omega arith))

pub le16-part : (xs : List ℕ) (a n i : ℕ) → i + 2 ≤ n → le16 (part xs a n) i ≡ le16 xs (a + i)
unfolding le16
le16-part xs a n i h =
    ap₂ (λ (x y : ℕ). x + 256 * y)
    (get_d_part xs a n i (omega arith))
    (get_d_part xs a n (i + 1) (omega arith) ∙ ap (λ (k : ℕ). get_or xs k 0) (omega arith))

pub le32-part : (xs : List ℕ) (a n i : ℕ) → i + 4 ≤ n → le32 (part xs a n) i ≡ le32 xs (a + i)
unfolding le32
le32-part xs a n i h =
    ap₂ (λ (x y : ℕ). x + 65536 * y)
    (le16-part xs a n i (omega arith))
    (le16-part xs a n (i + 2) (omega arith) ∙ ap (le16 xs) (omega arith))

-- ---- written and read back

pub le16-bytes : (n : ℕ) (d : List ℕ) → n < 65536 → le16 (bytes16 n ++ d) 0 ≡ n
unfolding le16 bytes16
le16-bytes n d h = omega arith

four : (a b c d n q : ℕ) → a + 256 * b + 65536 * q ≡ n → c + 256 * d ≡ q → a + 256 * b + 65536 * (c + 256 * d) ≡ n
four a b c d n q e f = omega arith

pub le32-bytes : (n : ℕ) → n < 4294967296 → le32 (bytes32 n) 0 ≡ n
unfolding le32 le16 bytes32
le32-bytes n h =
    let small : n / 16777216 % 256 ≡ n / 16777216 = omega arith in
    let top : n / 16777216 % 256 ≡ n / 65536 / 256 = small ∙ sym (div-div-eq-div-mul n 65536 256) in
    four (n % 256) (n / 256 % 256) (n / 65536 % 256) (n / 16777216 % 256) n (n / 65536) (omega arith)
    (ap (λ (x : ℕ). n / 65536 % 256 + 256 * x) top ∙ halves (n / 65536))
  where
    halves : (q : ℕ) → q % 256 + 256 * (q / 256) ≡ q
    halves q = omega arith

pub length-bytes16 : (n : ℕ) → length (bytes16 n) ≡ 2
unfolding bytes16
length-bytes16 n = refl

pub length-bytes32 : (n : ℕ) → length (bytes32 n) ≡ 4
unfolding bytes32
length-bytes32 n = refl

pub le32-stored : (xs : List ℕ) (p n : ℕ) → p + 4 ≤ length xs → n < 4294967296 → le32 (sets xs p (bytes32 n)) p ≡ n
le32-stored xs p n h k =
    let l = length-bytes32 n in
    ap (le32 (sets xs p (bytes32 n))) (sym (add-zero p))
    ∙ sym (le32-part (sets xs p (bytes32 n)) p (length (bytes32 n)) 0 (omega arith))
    ∙ ap (λ (y : List ℕ). le32 y 0) (part-sets xs p (bytes32 n) (omega arith))
    ∙ le32-bytes n k

-- the high byte stored at 1 and then the low byte at 0
pub le16-set : (l : List ℕ) (n : ℕ) → 2 ≤ length l → n < 65536 → le16 (set (set l 1 (n / 256 % 256)) 0 (n % 256)) 0 ≡ n
unfolding le16
le16-set l n h k =
    let m : List ℕ = set l 1 (n / 256 % 256) in
    let e : length m ≡ length l = length-set l 1 (n / 256 % 256) in
    let lo : get_or (set m 0 (n % 256)) 0 0 ≡ n % 256 = get_or-set_same m 0 (n % 256) 0 (omega arith) in
    let hi : get_or (set m 0 (n % 256)) 1 0 ≡ n / 256 % 256 = get_or-set_other m 0 1 (n % 256) 0 (λ e. omega arith) ∙ get_or-set_same l 1 (n / 256 % 256) 0 (omega arith) in
    omega arith
