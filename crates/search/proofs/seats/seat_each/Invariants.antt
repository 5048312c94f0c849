use Rattle.std.proofs.Common.{map}
use Rattle.table.specs.Sets.{standing}
use Rattle.search.proofs.Outcomes.{Past}
use Rattle.search.proofs.seats.seat_each.Given as goal

abbrev pub invariant-loop-descriptor : goal.invariant-loop-descriptor
invariant-loop-descriptor g l = Past (g.J.Judge.covers l.judge) (standing l.table) (map g.R.Row.asks l.rows) l.descriptor-index
