-- `store_cut::make_record` meets its contract.
use native.Mathlib.Omega.{arith}
use Prim.Native.Nat.{ℕ, ◌+◌, ◌≤◌}
use mathlib.Core.Path.{ap}
use mathlib.Core.List.{List}
use lib.ListN.{length, get_or}
use Rattle.store_records.proofs.Appending.{Appendable, appendable_facts}
use Rattle.store_cut.proofs.Making.{make-record}
use Rattle.store_cut.proofs.make_record.Goals as goal
use Rattle.store_cut.proofs.make_record.Goals.{Start}

facts : (c : Start) → Appendable c.args.body.now (length c.args.«data».now)
facts c = appendable_facts _ _ c.requires.2

-- the record and its length fit behind the first `at` bytes
room : (c : Start) → c.args.at + 2 + length c.args.«data».now ≤ length c.args.body.now
room c = omega (arith, c.requires.0, (facts c).room)

pub overflow_add-n : goal.overflow_add-n
overflow_add-n c = omega (arith, (facts (goal.at.overflow_add-n c).Start).few, c.requires.1)

pub make_one-behind_low-requires : goal.make_one-behind_low-requires
make_one-behind_low-requires c = omega (arith, room (goal.at.make_one-behind_low-requires c).Start)

pub overflow_add-at : goal.overflow_add-at
overflow_add-at c = omega (arith, room (goal.at.overflow_add-at c).Start)

pub make_one-behind_length-requires : goal.make_one-behind_length-requires
make_one-behind_length-requires c = let k = c.make_one-behind_low.auto.body in omega (arith, room (goal.at.make_one-behind_length-requires c).Start)

pub overflow_add-at-2 : goal.overflow_add-at-2
overflow_add-at-2 c = omega (arith, room (goal.at.overflow_add-at-2 c).Start)

pub make_run-behind_data-requires : goal.make_run-behind_data-requires
make_run-behind_data-requires c = let k = c.make_one-behind_length.auto.body in let k' = c.make_one-behind_low.auto.body in omega (arith, room (goal.at.make_run-behind_data-requires c).Start)

pub make_one-behind_high-requires : goal.make_one-behind_high-requires
make_one-behind_high-requires c = let k = c.make_run-behind_data.auto.body in let k' = c.make_one-behind_length.auto.body in let k'' = c.make_one-behind_low.auto.body in omega (arith, room (goal.at.make_one-behind_high-requires c).Start)

pub make_one-requires : goal.make_one-requires
make_one-requires c = let k = c.make_one-behind_high.auto.body in let k' = c.make_run-behind_data.auto.body in let k'' = c.make_one-behind_length.auto.body in let k''' = c.make_one-behind_low.auto.body in omega (arith, room (goal.at.make_one-requires c).Start)

pub overflow_cast-data : goal.overflow_cast-data
overflow_cast-data c = omega (arith, (facts (goal.at.overflow_cast-data c).Start).short)

pub overflow_cast-n : goal.overflow_cast-n
overflow_cast-n c = omega (arith, (facts (goal.at.overflow_cast-n c).Start).few, c.requires.1)

-- the bytes of the length and of the count, as they are numbers
pub returns : goal.returns
returns c =
    let l = c.to_le_bytes-length.ensures in
    let n = c.to_le_bytes-count.ensures in
    make-record _ _ _ _ c.args.k c.requires.0 c.requires.1 _ _ _ _ _ _ _ _ _ _ _ _ _
    (ap (λ (b : List ℕ). get_or b 0 0) l) (ap (λ (b : List ℕ). get_or b 1 0) l) (ap (λ (b : List ℕ). get_or b 1 0) n) (ap (λ (b : List ℕ). get_or b 0 0) n)
    c.make_one-behind_low.ensures c.make_one-behind_length.ensures c.make_run-behind_data.ensures c.make_one-behind_high.ensures c.make_one.ensures.1
