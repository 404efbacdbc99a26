-- Every public function of this crate that answers something has one outcome; the others print, and `read_full` reads. Read before:
-- specs/Determined.antt of base.
use mathlib.Core.Path.{sym, ◌∙◌}
use Rattle.base.specs.Determined.{Determined}
use Rattle.program_console.proofs.room.Kinds as room-kinds
use Rattle.program_console.proofs.room.Reads as room-reads
use Rattle.program_console.proofs.buffer.Kinds as buffer-kinds
use Rattle.program_console.proofs.buffer.Reads as buffer-reads
use Rattle.program_console.proofs.large_buffer.Kinds as large-buffer-kinds
use Rattle.program_console.proofs.large_buffer.Reads as large-buffer-reads
use Rattle.program_console.proofs.cases.next.Kinds as next-kinds
use Rattle.program_console.proofs.cases.next.Reads as next-reads
use Rattle.program_console.proofs.result.refusal.Kinds as result-refusal-kinds
use Rattle.program_console.proofs.result.refusal.Reads as result-refusal-reads
use Rattle.program_console.proofs.result.status.Kinds as result-status-kinds
use Rattle.program_console.proofs.result.status.Reads as result-status-reads
use Rattle.program_console.proofs.result.length.Kinds as length-kinds
use Rattle.program_console.proofs.result.length.Reads as length-reads
use Rattle.program_console.proofs.result.stores.Kinds as stores-kinds
use Rattle.program_console.proofs.result.stores.Reads as stores-reads
use Rattle.program_console.proofs.result.moved_length.Kinds as moved-length-kinds
use Rattle.program_console.proofs.result.moved_length.Reads as moved-length-reads
use Rattle.program_console.proofs.result.file_place.Kinds as file-place-kinds
use Rattle.program_console.proofs.result.file_place.Reads as file-place-reads
use Rattle.program_console.proofs.result.file_length.Kinds as file-length-kinds
use Rattle.program_console.proofs.result.file_length.Reads as file-length-reads
use Rattle.program_console.proofs.result.certificate_which.Kinds as certificate-which-kinds
use Rattle.program_console.proofs.result.certificate_which.Reads as certificate-which-reads
use Rattle.program_console.proofs.result.certificate_place.Kinds as certificate-place-kinds
use Rattle.program_console.proofs.result.certificate_place.Reads as certificate-place-reads
use Rattle.program_console.proofs.result.certificate_length.Kinds as certificate-length-kinds
use Rattle.program_console.proofs.result.certificate_length.Reads as certificate-length-reads
use Rattle.program_console.proofs.result.stamp_reason.Kinds as stamp-reason-kinds
use Rattle.program_console.proofs.result.stamp_reason.Reads as stamp-reason-reads
use Rattle.program_console.proofs.result.stamp_offset.Kinds as stamp-offset-kinds
use Rattle.program_console.proofs.result.stamp_offset.Reads as stamp-offset-reads

pub room_determined : Determined room-kinds.ps room-kinds.r room-reads.Post
room_determined κs a e f p q i = ((p ∙ sym q) i, e.1)

pub buffer_determined : Determined buffer-kinds.ps buffer-kinds.r buffer-reads.Post
buffer_determined κs a e f p q i = ((p ∙ sym q) i, e.1)

pub large-buffer_determined : Determined large-buffer-kinds.ps large-buffer-kinds.r large-buffer-reads.Post
large-buffer_determined κs a e f p q i = ((p ∙ sym q) i, e.1)

pub next_determined : Determined next-kinds.ps next-kinds.r next-reads.Post
next_determined κs a e f p q i = ((p.0 ∙ sym q.0) i, e.1)

pub result-refusal_determined : Determined result-refusal-kinds.ps result-refusal-kinds.r result-refusal-reads.Post
result-refusal_determined κs a e f p q i = ((p ∙ sym q) i, e.1)

pub result-status_determined : Determined result-status-kinds.ps result-status-kinds.r result-status-reads.Post
result-status_determined κs a e f p q i = ((p ∙ sym q) i, e.1)

pub length_determined : Determined length-kinds.ps length-kinds.r length-reads.Post
length_determined κs a e f p q i = ((p ∙ sym q) i, e.1)

pub stores_determined : Determined stores-kinds.ps stores-kinds.r stores-reads.Post
stores_determined κs a e f p q i = ((p ∙ sym q) i, e.1)

pub moved-length_determined : Determined moved-length-kinds.ps moved-length-kinds.r moved-length-reads.Post
moved-length_determined κs a e f p q i = ((p ∙ sym q) i, e.1)

pub file-place_determined : Determined file-place-kinds.ps file-place-kinds.r file-place-reads.Post
file-place_determined κs a e f p q i = ((p ∙ sym q) i, e.1)

pub file-length_determined : Determined file-length-kinds.ps file-length-kinds.r file-length-reads.Post
file-length_determined κs a e f p q i = ((p ∙ sym q) i, e.1)

pub certificate_which_determined : Determined certificate-which-kinds.ps certificate-which-kinds.r certificate-which-reads.Post
certificate_which_determined κs a e f p q i = ((p ∙ sym q) i, e.1)

pub certificate-place_determined : Determined certificate-place-kinds.ps certificate-place-kinds.r certificate-place-reads.Post
certificate-place_determined κs a e f p q i = ((p ∙ sym q) i, e.1)

pub certificate-length_determined : Determined certificate-length-kinds.ps certificate-length-kinds.r certificate-length-reads.Post
certificate-length_determined κs a e f p q i = ((p ∙ sym q) i, e.1)

pub stamp_reason_determined : Determined stamp-reason-kinds.ps stamp-reason-kinds.r stamp-reason-reads.Post
stamp_reason_determined κs a e f p q i = ((p ∙ sym q) i, e.1)

pub stamp_offset_determined : Determined stamp-offset-kinds.ps stamp-offset-kinds.r stamp-offset-reads.Post
stamp_offset_determined κs a e f p q i = ((p ∙ sym q) i, e.1)
