-- `machine_reply_search::search` meets its contract. Invariant: i records are passed, `at` is the place of the next, and the numbers begin with
-- those of the passed ones that match. A match adds i + 1, any other record adds nothing.
use Rattle.machine_reply_search.proofs.Searching.{Sought}
use Rattle.machine_reply_search.proofs.search.Given as goal

abbrev pub invariant-loop-i : goal.invariant-loop-i
invariant-loop-i l = Sought l.body l.offset l.number l.text l.one l.end l.numbers l.n l.at l.i
