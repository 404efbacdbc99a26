-- The two heads, the reference and the numbers are stored where there is room for all of them.
use native.Mathlib.Omega.{arith}
use Prim.Native.Nat.{◌+◌, ◌*◌, ◌≤◌}
use lib.ListN.{length}
use Rattle.machine_reply_search.proofs.Listing.{reply-long, reply-refused, reply-room, reply_accepted}
use Rattle.machine_reply_search.proofs.put_reply.Goals as goal
use Rattle.machine_reply_search.proofs.put_reply.Goals.{After-put_numbers-arg-1}

-- the numbers have room behind the reference
room : (c : After-put_numbers-arg-1)
    → let a = c.args in
    c.put_head-reference.result + length a.file.now + 3 * length a.numbers.now ≤ length c.put.new.dst
room c =
    reply-room c.args.out.now c.args.file.now c.args.numbers.now c.if-file-gt127.false c.requires _ c.found_length-len.ensures
    c.if-out-len.false c.put_head-inside.ensures c.put_head-reference.ensures c.put.ensures.1

pub returns-then-file-gt127 : goal.returns-then-file-gt127
returns-then-file-gt127 c = reply-long _ _ _ c.if-file-gt127.true

pub returns-then-out-len : goal.returns-then-out-len
returns-then-out-len c = reply-refused _ _ _ c.if-file-gt127.false c.requires _ c.found_length-len.ensures c.if-out-len.true

pub overflow_add-reference : goal.overflow_add-reference
overflow_add-reference c =
    omega (arith, room (goal.at.overflow_add-reference c).After-put_numbers-arg-1, c.put_head-inside.auto.out, c.put_head-reference.auto.out, c.put.auto.dst)

pub put_numbers-requires : goal.put_numbers-requires
put_numbers-requires c = room (goal.at.put_numbers-requires c).After-put_numbers-arg-1

pub returns : goal.returns
returns c =
    reply_accepted c.args.out.now c.args.file.now c.args.numbers.now c.if-file-gt127.false c.requires _ c.found_length-len.ensures
    c.if-out-len.false c.put_head-inside.ensures c.put_head-reference.ensures c.put.ensures.1 _ c.put_numbers.ensures
