-- Every public function of this crate has one outcome: its contract leaves nothing open. Read before: specs/Determined.antt of base.
use mathlib.Core.Path.{sym, ◌∙◌}
use Rattle.base.specs.Determined.{Determined}
use Rattle.machine_binary.proofs.activate.activate_file.Kinds as activate-file-kinds
use Rattle.machine_binary.proofs.activate.activate_file.Reads as activate-file-reads
use Rattle.machine_binary.proofs.read_binary.read_binary.Kinds as read-binary-kinds
use Rattle.machine_binary.proofs.read_binary.read_binary.Reads as read-binary-reads
use Rattle.machine_binary.proofs.read_binary_odd.read_binary_odd.Kinds as read-binary-odd-kinds
use Rattle.machine_binary.proofs.read_binary_odd.read_binary_odd.Reads as read-binary-odd-reads
use Rattle.machine_binary.proofs.update_binary.update_binary.Kinds as update-binary-kinds
use Rattle.machine_binary.proofs.update_binary.update_binary.Reads as update-binary-reads
use Rattle.machine_binary.proofs.read_binary.p1_fits.Kinds as p1-fits-kinds
use Rattle.machine_binary.proofs.read_binary.p1_fits.Reads as p1-fits-reads

pub activate-file_determined : Determined activate-file-kinds.ps activate-file-kinds.r activate-file-reads.Post
activate-file_determined κs a e f p q i = ((p ∙ sym q) i, e.1)

pub read_binary_determined : Determined read-binary-kinds.ps read-binary-kinds.r read-binary-reads.Post
read_binary_determined κs a e f p q i = ((p ∙ sym q) i, e.1)

pub read_binary_odd_determined : Determined read-binary-odd-kinds.ps read-binary-odd-kinds.r read-binary-odd-reads.Post
read_binary_odd_determined κs a e f p q i = ((p ∙ sym q) i, e.1)

pub update_binary_determined : Determined update-binary-kinds.ps update-binary-kinds.r update-binary-reads.Post
update_binary_determined κs a e f p q i = ((p ∙ sym q) i, e.1)

pub p1-fits_determined : Determined p1-fits-kinds.ps p1-fits-kinds.r p1-fits-reads.Post
p1-fits_determined κs a e f p q i = ((p ∙ sym q) i, e.1)
