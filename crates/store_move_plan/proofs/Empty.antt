-- A room with nothing in it: it is right for its kind by its length alone.
-- Read before: specs/Rooms.antt. Exports: `empty_count`, `empty_state`, `empty_written`, `empty_records`, `empty_biometrics`.
use Prim.Native.Nat.{ℕ, ◌+◌, ◌-◌, ◌*◌, ◌≤◌}
use mathlib.Core.Path.{◌≡◌, ap₂}
use mathlib.Core.Bool.{and-true}
use native.Mathlib.Omega.{arith}
use lib.ListN.{length, get_or, length-replicate, get_or-replicate, get_or-eq_default}
use lib.Dec.{leb, ltb}
use borrow.Author.Tests.{le-leb, ltb-true, ltb-false}
use Rattle.base.specs.Choice.{all_of}
use Rattle.base.proofs.Cases.{by_cases}
use Rattle.store_records.specs.Little.{le16, le32}
use Rattle.store_records.specs.Body.{count, ok_to, body_ok}
use Rattle.store_kinds.specs.Biometrics.{state, written, room, largest_room, bio_ok}
use Rattle.store_move_plan.specs.Rooms.{zeros}

zero-byte : (n i : ℕ) → get_or (zeros n) i 0 ≡ 0
zero-byte n i =
    by_cases (ltb i n)
    (λ y. get_or-replicate n i 0 0 (ltb-true i n y))
    (λ f. get_or-eq_default (zeros n) 0 (let l : length (zeros n) ≡ n = length-replicate n 0 in omega (arith, ltb-false i n f)))

zero16 : (n i : ℕ) → le16 (zeros n) i ≡ 0
unfolding le16
zero16 n i = ap₂ (λ (x y : ℕ). x + 256 * y) (zero-byte n i) (zero-byte n (i + 1))

zero32 : (n i : ℕ) → le32 (zeros n) i ≡ 0
unfolding le32
zero32 n i = ap₂ (λ (x y : ℕ). x + 65536 * y) (zero16 n i) (zero16 n (i + 2))

pub empty_count : (n : ℕ) → count (zeros n) ≡ 0
unfolding count
empty_count n = zero16 n 0

pub empty_state : (n : ℕ) → state (zeros n) ≡ 0
unfolding state
empty_state n = zero-byte n 0

pub empty_written : (n : ℕ) → written (zeros n) ≡ 0
unfolding written
empty_written n = zero32 n 1

-- a record file has room for its count
pub empty_records : (L M n : ℕ) → body_ok L M (zeros n) ≡ leb 2 n
unfolding body_ok ok_to all_of
empty_records L M n = let l : length (zeros n) ≡ n = length-replicate n 0 in simp (empty_count n, l, le-leb 0 M (omega arith), and-true)

-- a biometrics file has room for its state and its length, and no more than there may be for what is written
pub empty_biometrics : (n : ℕ) → 5 ≤ n → bio_ok (zeros n) ≡ leb (n - 5) largest_room
unfolding bio_ok all_of room
empty_biometrics n h =
    let l : length (zeros n) ≡ n = length-replicate n 0 in
    simp (l, empty_state n, empty_written n, le-leb 5 n h, le-leb 0 1 (omega arith), le-leb 0 (n - 5) (omega arith), and-true)
