-- How many bytes of the file a READ BINARY with the odd INS returns. Read before: specs/ReadBinaryOdd.antt. Exports `odd_count` and what is known of
-- it (`OddBounds`, `odd_bounds`).
use Prim.Native.Nat.{ℕ, ◌+◌, ◌-◌, ◌≤◌, ◌<◌, min}
use mathlib.Core.Path.{◌≡◌}
use mathlib.Core.Bool.{true}
use mathlib.Core.List.{List}
use native.Mathlib.Omega.{arith}
use lib.ListN.{length}
use lib.Dec.{ltb, leb}
use borrow.Author.Tests.{ltb-true, leb-true}
use Rattle.store_files.specs.Files.{file_bytes}
use Rattle.store_files.specs.declared.Transparent.{Transparent}
use Rattle.objects_writer.specs.Fitting.{object_length, longest_within}
use Rattle.objects_writer.proofs.Fitting.{longest_within-most, longest_within-fits, longest_within_longest, longest_within-some}

abbrev pub odd_count : List ℕ → ℕ → ℕ → Transparent → ℕ
odd_count img offset ne t = longest_within (min ne 2048) (length (file_bytes img t) - offset)

-- a byte at least; within the file and the limit; no more would be
pub record OddBounds (img : List ℕ) (offset ne : ℕ) (t : Transparent) (n : ℕ) : Type 0 where
  pub some : 1 ≤ n
  pub inside : offset + n ≤ length (file_bytes img t)
  pub fits : object_length n ≤ min ne 2048
  pub short : object_length n ≤ 2048
  pub longest : (m : ℕ) → n < m → offset + m ≤ length (file_bytes img t) → min ne 2048 < object_length m

pub odd_bounds : (img : List ℕ) (offset ne : ℕ) (t : Transparent) → ltb offset (length (file_bytes img t)) ≡ true → leb 3 ne ≡ true → OddBounds img offset ne t (odd_count img offset ne t)
odd_bounds img offset ne t e d =
    let a = ltb-true offset (length (file_bytes img t)) e in
    let b = leb-true 3 ne d in
    let limit : ℕ = min ne 2048 in
    let left : ℕ = length (file_bytes img t) - offset in
    let s = longest_within-some limit left (omega arith) (omega arith) in
    let f = longest_within-fits limit left s in
    record {
      some = s;
      inside = omega (arith, longest_within-most limit left);
      fits = f;
      short = omega (arith, f);
      longest = λ m h k. longest_within_longest limit left m h (omega arith);
    }
