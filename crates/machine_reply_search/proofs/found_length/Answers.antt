-- `machine_reply_search::found_length` meets its contract: the length of the outer length decides.
use Rattle.machine_reply_search.proofs.Listing.{sizes_short, sizes_one, sizes_two}
use Rattle.machine_reply_search.proofs.found_length.Goals as goal

pub returns-then-inner-lt128 : goal.returns-then-inner-lt128
returns-then-inner-lt128 c = sizes_short _ _ c.if-inner-lt128.true

pub returns-then-inner-lt256 : goal.returns-then-inner-lt256
returns-then-inner-lt256 c = sizes_one _ _ c.if-inner-lt128.false c.if-inner-lt256.true

pub returns : goal.returns
returns c = sizes_two _ _ c.if-inner-lt256.false
