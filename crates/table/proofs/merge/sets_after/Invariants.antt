use Rattle.std.proofs.Common.{◌≡◌, ◌++◌, ◌-◌, map, take, length}
use Rattle.bounded.specs.Items.{items}
use Rattle.records.specs.Reads.{says}
use Rattle.table.specs.Message.{following}
use Rattle.table.specs.Rows.{members_of}
use Rattle.table.proofs.merge.sets_after.Given as goal

abbrev pub invariant-loop-members : goal.invariant-loop-members
invariant-loop-members l = map members_of (items l.list) ++ take (16 - length (items l.list)) (following (says l.left)) ≡ take 16 (following (says l.message))

abbrev pub decreases-loop-members : goal.decreases-loop-members
decreases-loop-members l = length (says l.left)
