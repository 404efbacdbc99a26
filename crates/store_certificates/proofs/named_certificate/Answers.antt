-- `store_certificates::named_certificate` meets its contract: one case for each answer of `locate`.
use mathlib.Core.Path.{sym, ◌∙◌}
use Rattle.store_certificates.proofs.Locating.{card_part, desk_part}
use Rattle.store_certificates.proofs.named_certificate.Goals as goal

pub returns-in-Card : goal.returns-in-Card
returns-in-Card c = card_part _ _ _ _ _ (sym c.locate.ensures ∙ c.in-Card.is) c.whole_part.ensures

pub returns-in-Desk : goal.returns-in-Desk
returns-in-Desk c = desk_part _ _ _ _ _ (sym c.locate.ensures ∙ c.in-Desk.is) c.whole_part-in-Desk.ensures
