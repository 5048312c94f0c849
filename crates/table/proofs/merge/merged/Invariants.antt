use Rattle.std.proofs.Common.{length}
use Rattle.bounded.specs.Items.{items}
use Rattle.bounded.specs.Numbers.{holds}
use Rattle.records.specs.Reads.{says}
use Rattle.keyed.specs.Merge.{keeping}
use Rattle.table.specs.Turns.{Places}
use Rattle.table.proofs.merge.merged.Given as goal

abbrev pub invariant-loop-said : goal.invariant-loop-said
invariant-loop-said g l =
    Places g.T.ByNumber.key (goal.F-post g l.item) (says l.message) (keeping g.T.ByNumber.key (holds l.named) (items l.standing)) (says l.left) (items l.list)

abbrev pub decreases-loop-said : goal.decreases-loop-said
decreases-loop-said g l = length (says l.left)
