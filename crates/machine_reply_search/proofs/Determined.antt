-- Every public function of this crate has one outcome: its contract leaves nothing open. Read before: specs/Determined.antt of base.
use mathlib.Core.Path.{sym, ◌∙◌}
use Rattle.base.specs.Determined.{Determined}
use Rattle.machine_reply_search.proofs.search.Kinds as search-kinds
use Rattle.machine_reply_search.proofs.search.Reads as search-reads
use Rattle.machine_reply_search.proofs.put_found.Kinds as put-found-kinds
use Rattle.machine_reply_search.proofs.put_found.Reads as put-found-reads
use Rattle.machine_reply_search.proofs.reply_fits.Kinds as reply-fits-kinds
use Rattle.machine_reply_search.proofs.reply_fits.Reads as reply-fits-reads
use Rattle.machine_reply_search.proofs.first.Kinds as first-kinds
use Rattle.machine_reply_search.proofs.first.Reads as first_reads

pub search_determined : Determined search-kinds.ps search-kinds.r search-reads.Post
search_determined κs a e f p q i = (record { n = (p.1 ∙ sym q.1) i; numbers = (p.2 ∙ sym q.2) i }, e.1)

pub put-found_determined : Determined put-found-kinds.ps put-found-kinds.r put-found-reads.Post
put-found_determined κs a e f p q i = ((p.0 ∙ sym q.0) i, ((p.1 ∙ sym q.1) i, (tt, (tt, tt))))

pub reply-fits_determined : Determined reply-fits-kinds.ps reply-fits-kinds.r reply-fits-reads.Post
reply-fits_determined κs a e f p q i = ((p ∙ sym q) i, e.1)

pub first_determined : Determined first-kinds.ps first-kinds.r first_reads.Post
first_determined κs a e f p q i = ((p ∙ sym q) i, e.1)
