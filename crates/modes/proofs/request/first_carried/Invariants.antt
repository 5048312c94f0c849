use Rattle.std.proofs.Common.{length}
use Rattle.records.specs.Reads.{says}
use Rattle.table.specs.Sets.{standing}
use Rattle.modes.specs.Modes.{modes_in}
use Rattle.modes.proofs.Turns.{Seen}
use Rattle.modes.proofs.request.first_carried.Given as goal

abbrev pub invariant-loop-said : goal.invariant-loop-said
invariant-loop-said g l = Seen (g.J.Judge.covers l.judge) (standing l.table) (modes_in (says l.message)) l.place (modes_in (says l.left))

abbrev pub decreases-loop-said : goal.decreases-loop-said
decreases-loop-said g l = length (says l.left)
