use Rattle.bounded.specs.Items.{items}
use Rattle.matching.specs.Calls.{at}
use Rattle.table.specs.Rows.{sets_of}
use Rattle.table.specs.Sets.{entries_of}
use Rattle.search.proofs.Pairs.{Paired}
use Rattle.search.proofs.Seated.{Held}
use Rattle.search.proofs.seats.seats_of.Given as goal

abbrev pub invariant-loop-place : goal.invariant-loop-place
invariant-loop-place g l =
    Paired (Held g.R.ByNumber.key g.R.Row.asks (g.J.Judge.covers l.judge) (entries_of l.table) (sets_of l.descriptor) (at l.holders) l.rows) l.rows l.place (items l.seats)
