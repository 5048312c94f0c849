use Rattle.std.proofs.Common.{◌≡◌, ◌++◌, length}
use Rattle.bounded.specs.Items.{items}
use Rattle.records.specs.Reads.{says}
use Rattle.modes.specs.Modes.{elements_in}
use Rattle.modes.specs.Elements.{rows_from}
use Rattle.modes.proofs.element.elements_after.Given as goal

abbrev pub invariant-loop-proposal : goal.invariant-loop-proposal
invariant-loop-proposal l = items l.list ++ rows_from (length (items l.list)) (elements_in (says l.left)) ≡ rows_from 0 (elements_in (says l.message))

abbrev pub decreases-loop-proposal : goal.decreases-loop-proposal
decreases-loop-proposal l = length (says l.left)
