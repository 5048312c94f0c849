use Rattle.std.proofs.Common.{length}
use Rattle.bounded.specs.Items.{items}
use Rattle.matching.specs.Calls.{at}
use Rattle.matching.proofs.Steps.{placed_carry}
use Rattle.table.specs.Rows.{sets_of}
use Rattle.table.specs.Sets.{entries_of}
use Rattle.search.specs.Settling.{meets_at}
use Rattle.search.proofs.settle.settle.Goals as goal

pub returns : goal.returns
returns c =
    let covers = items c.args.covers.now in
    placed_carry (meets_at (entries_of c.args.table.now) (sets_of c.args.descriptor.now) covers) (length covers) (length (sets_of c.args.descriptor.now)) (at c.in_ok-arrange.field-0.now) c.in_ok-arrange.ensures.1
