-- By the three kinds of transparent files.
use mathlib.Core.Path.{sym, ap, ◌∙◌}
use lib.ListN.{length}
use Rattle.store_kinds.specs.Biometrics.{room}
use Rattle.store_image.specs.Image.{body}
use Rattle.store_files.specs.Files.{file_bytes}
use Rattle.store_files.specs.declared.Transparent.{Transparent}
use Rattle.machine_reply_fmm.specs.Report.{transparent_total}
use Rattle.machine_reply_fmm.proofs.transparent_total.Goals as goal

pub returns-in-Info : goal.returns-in-Info
unfolding transparent_total
returns-in-Info c = c.size.ensures ∙ ap (λ (t : Transparent). length (file_bytes c.args.image.now t)) c.in-Info.is ∙ sym (ap (transparent_total _) c.in-Info.is)

pub returns-in-Dir : goal.returns-in-Dir
unfolding transparent_total
returns-in-Dir c = c.size-in-Dir.ensures ∙ ap (λ (t : Transparent). length (file_bytes c.args.image.now t)) c.in-Dir.is ∙ sym (ap (transparent_total _) c.in-Dir.is)

pub returns-in-Biometrics : goal.returns-in-Biometrics
unfolding transparent_total
returns-in-Biometrics c = c.room.ensures ∙ ap room (c.body.ensures ∙ ap (body _) c.biometrics_kind.ensures) ∙ sym (ap (transparent_total _) c.in-Biometrics.is)
