-- `machine_reply_search::reply_fits` meets its contract.
use Prim.Native.Nat.{ℕ}
use mathlib.Core.Path.{ap, ◌∙◌}
use lib.ListN.{length, take}
use lib.Dec.{leb}
use Rattle.machine_reply_search.specs.Loops.{found_length}
use Rattle.machine_reply_search.proofs.Listing.{reply-fits-long, reply-length}
use Rattle.machine_reply_search.proofs.reply_fits.Goals as goal

pub returns-then-file-gt127 : goal.returns-then-file-gt127
returns-then-file-gt127 c = reply-fits-long _ _ _ c.if-file-gt127.true

pub returns : goal.returns
returns c =
    let file = c.args.file.now in
    ap (λ (x : ℕ). leb x c.args.ne)
    (c.found_length.ensures
    ∙ ap (λ ns. found_length (length file) (length ns)) c.numbers.ensures
    ∙ reply-length file (take c.args.h.n c.args.h.numbers) c.if-file-gt127.false)
