-- `store_move::write_section` meets its contract.
use Rattle.std.proofs.Common.{rules}
use Rattle.store_move.proofs.Writing.{section-written}
use Rattle.store_move.proofs.write_section.Goals as goal

pub returns : goal.returns
returns c = section-written _ _ _ _ _ _ c.requires.0 c.requires.1 c.put.ensures.1 c.put-2.ensures.1 (c.fill.ensures.after (λ y same. search rules))
