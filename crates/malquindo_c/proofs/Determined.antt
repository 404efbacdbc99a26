-- Every exported function has one outcome: its contract leaves nothing open. Read before: specs/Determined.antt of base.
use mathlib.Core.Path.{ap, sym, ◌∙◌}
use Rattle.base.specs.Determined.{Determined}
use Rattle.malquindo_c.proofs.malquindo_session_len.Kinds as malquindo-session-len-kinds
use Rattle.malquindo_c.proofs.malquindo_session_len.Reads as malquindo-session-len-reads
use Rattle.malquindo_c.proofs.malquindo_open.Kinds as malquindo-open-kinds
use Rattle.malquindo_c.proofs.malquindo_open.Reads as malquindo-open-reads
use Rattle.malquindo_c.proofs.malquindo_command.Kinds as malquindo-command-kinds
use Rattle.malquindo_c.proofs.malquindo_command.Reads as malquindo-command-reads
use Rattle.malquindo_c.proofs.malquindo_move.Kinds as malquindo-move-kinds
use Rattle.malquindo_c.proofs.malquindo_move.Reads as malquindo-move-reads
use Rattle.malquindo_c.proofs.malquindo_file.Kinds as malquindo-file-kinds
use Rattle.malquindo_c.proofs.malquindo_file.Reads as malquindo-file-reads
use Rattle.malquindo_c.proofs.malquindo_certificate.Kinds as malquindo-certificate-kinds
use Rattle.malquindo_c.proofs.malquindo_certificate.Reads as malquindo-certificate-reads
use Rattle.malquindo_c.proofs.malquindo_index_build.Kinds as malquindo-index-build-kinds
use Rattle.malquindo_c.proofs.malquindo_index_build.Reads as malquindo-index-build-reads
use Rattle.malquindo_c.proofs.malquindo_index_extend.Kinds as malquindo-index-extend-kinds
use Rattle.malquindo_c.proofs.malquindo_index_extend.Reads as malquindo-index-extend-reads
use Rattle.malquindo_c.proofs.malquindo_index_read.Kinds as malquindo-index-read-kinds
use Rattle.malquindo_c.proofs.malquindo_index_read.Reads as malquindo-index-read-reads
use Rattle.malquindo_c.proofs.malquindo_cut.Kinds as malquindo-cut-kinds
use Rattle.malquindo_c.proofs.malquindo_cut.Reads as malquindo-cut-reads
use Rattle.malquindo_c.proofs.malquindo_stamp_read.Kinds as malquindo-stamp-read-kinds
use Rattle.malquindo_c.proofs.malquindo_stamp_read.Reads as malquindo-stamp-read-reads
use Rattle.malquindo_c.proofs.malquindo_rights.Kinds as malquindo-rights-kinds
use Rattle.malquindo_c.proofs.malquindo_rights.Reads as malquindo-rights-reads

pub malquindo_session_len_determined : Determined malquindo-session-len-kinds.ps malquindo-session-len-kinds.r malquindo-session-len-reads.Post
malquindo_session_len_determined κs a e f p q i = ((p ∙ sym q) i, e.1)

pub malquindo_open_determined : Determined malquindo-open-kinds.ps malquindo-open-kinds.r malquindo-open-reads.Post
malquindo_open_determined κs a e f p q i = ((p.0 ∙ sym q.0) i, (tt, ((p.1 ∙ sym q.1) i, tt)))

pub malquindo_command_determined : Determined malquindo-command-kinds.ps malquindo-command-kinds.r malquindo-command-reads.Post
malquindo_command_determined κs a e f p q = ap (λ o. (o.result, (o.image, (o.session, (tt, (o.response, tt)))))) (p ∙ sym q)

pub malquindo_cut_determined : Determined malquindo-cut-kinds.ps malquindo-cut-kinds.r malquindo-cut-reads.Post
malquindo_cut_determined κs a e f p q = ap (λ o. (o.result, (o.image, (tt, (tt, (tt, tt)))))) (p ∙ sym q)

pub malquindo_move_determined : Determined malquindo-move-kinds.ps malquindo-move-kinds.r malquindo-move-reads.Post
malquindo_move_determined κs a e f p q i = ((p.0 ∙ sym q.0) i, (tt, (tt, ((p.1 ∙ sym q.1) i, tt))))

pub malquindo_file_determined : Determined malquindo-file-kinds.ps malquindo-file-kinds.r malquindo-file-reads.Post
malquindo_file_determined κs a e f p q i = ((p ∙ sym q) i, e.1)

pub malquindo_certificate_determined : Determined malquindo-certificate-kinds.ps malquindo-certificate-kinds.r malquindo-certificate-reads.Post
malquindo_certificate_determined κs a e f p q i = ((p ∙ sym q) i, e.1)

pub malquindo_index_build_determined : Determined malquindo-index-build-kinds.ps malquindo-index-build-kinds.r malquindo-index-build-reads.Post
malquindo_index_build_determined κs a e f p q i = ((p.0 ∙ sym q.0) i, (tt, (tt, ((p.1 ∙ sym q.1) i, tt))))

pub malquindo_index_extend_determined : Determined malquindo-index-extend-kinds.ps malquindo-index-extend-kinds.r malquindo-index-extend-reads.Post
malquindo_index_extend_determined κs a e f p q i = ((p.0 ∙ sym q.0) i, (tt, (tt, ((p.1 ∙ sym q.1) i, (tt, tt)))))

pub malquindo_index_read_determined : Determined malquindo-index-read-kinds.ps malquindo-index-read-kinds.r malquindo-index-read-reads.Post
malquindo_index_read_determined κs a e f p q i = ((p ∙ sym q) i, e.1)

pub malquindo_stamp_read_determined : Determined malquindo-stamp-read-kinds.ps malquindo-stamp-read-kinds.r malquindo-stamp-read-reads.Post
malquindo_stamp_read_determined κs a e f p q i = ((p.0 ∙ sym q.0) i, (tt, ((p.1 ∙ sym q.1) i, tt)))

pub malquindo_rights_determined : Determined malquindo-rights-kinds.ps malquindo-rights-kinds.r malquindo-rights-reads.Post
malquindo_rights_determined κs a e f p q i = ((p.0 ∙ sym q.0) i, (tt, (tt, (tt, ((p.1 ∙ sym q.1) i, tt)))))
