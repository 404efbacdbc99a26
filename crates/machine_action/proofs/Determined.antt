-- Every public function of this crate has one outcome: its contract leaves nothing open. Read before: specs/Determined.antt of base.
use mathlib.Core.Path.{sym, ◌∙◌}
use Rattle.base.specs.Determined.{Determined}
use Rattle.machine_action.proofs.tests.lc_only.Kinds as lc-only-kinds
use Rattle.machine_action.proofs.tests.lc_only.Reads as lc-only-reads
use Rattle.machine_action.proofs.tests.le_only.Kinds as le-only-kinds
use Rattle.machine_action.proofs.tests.le_only.Reads as le-only-reads
use Rattle.machine_action.proofs.tests.lc_and_le.Kinds as lc-and-le-kinds
use Rattle.machine_action.proofs.tests.lc_and_le.Reads as lc-and-le-reads
use Rattle.machine_action.proofs.tests.neither.Kinds as neither-kinds
use Rattle.machine_action.proofs.tests.neither.Reads as neither-reads
use Rattle.machine_action.proofs.tests.all_le.Kinds as all-le-kinds
use Rattle.machine_action.proofs.tests.all_le.Reads as all-le-reads
use Rattle.machine_action.proofs.tests.be16.Kinds as be16-kinds
use Rattle.machine_action.proofs.tests.be16.Reads as be16-reads
use Rattle.machine_action.proofs.tests.or_current.Kinds as or-current-kinds
use Rattle.machine_action.proofs.tests.or_current.Reads as or-current-reads
use Rattle.machine_action.proofs.tests.id_or_current.Kinds as id-or-current-kinds
use Rattle.machine_action.proofs.tests.id_or_current.Reads as id-or-current-reads
use Rattle.machine_action.proofs.tests.id_in.Kinds as id-in-kinds
use Rattle.machine_action.proofs.tests.id_in.Reads as id-in-reads

pub lc-only_determined : Determined lc-only-kinds.ps lc-only-kinds.r lc-only-reads.Post
lc-only_determined κs a e f p q i = ((p ∙ sym q) i, e.1)

pub le-only_determined : Determined le-only-kinds.ps le-only-kinds.r le-only-reads.Post
le-only_determined κs a e f p q i = ((p ∙ sym q) i, e.1)

pub lc-and-le_determined : Determined lc-and-le-kinds.ps lc-and-le-kinds.r lc-and-le-reads.Post
lc-and-le_determined κs a e f p q i = ((p ∙ sym q) i, e.1)

pub neither_determined : Determined neither-kinds.ps neither-kinds.r neither-reads.Post
neither_determined κs a e f p q i = ((p ∙ sym q) i, e.1)

pub all_le_determined : Determined all-le-kinds.ps all-le-kinds.r all-le-reads.Post
all_le_determined κs a e f p q i = ((p ∙ sym q) i, e.1)

pub be16_determined : Determined be16-kinds.ps be16-kinds.r be16-reads.Post
be16_determined κs a e f p q i = ((p.0 ∙ sym q.0) i, e.1)

pub or_current_determined : Determined or-current-kinds.ps or-current-kinds.r or-current-reads.Post
or_current_determined κs a e f p q i = ((p ∙ sym q) i, e.1)

pub id_or_current_determined : Determined id-or-current-kinds.ps id-or-current-kinds.r id-or-current-reads.Post
id_or_current_determined κs a e f p q i = ((p ∙ sym q) i, e.1)

pub id_in_determined : Determined id-in-kinds.ps id-in-kinds.r id-in-reads.Post
id_in_determined κs a e f p q i = ((p ∙ sym q) i, e.1)
