use Rattle.bounded.specs.Items.{items}
use Rattle.table.specs.Rows.{members_of}
use Rattle.table.specs.Sets.{entries_of}
use Rattle.search.specs.Filling.{Placing}
use Rattle.search.proofs.Pairs.{Paired}
use Rattle.search.proofs.fill.resolve.Given as goal

abbrev pub invariant-loop-set : goal.invariant-loop-set
invariant-loop-set l = Paired (λ _ set mask. Placing (entries_of l.table) (members_of set) mask) l.set-items l.set-index (items l.places)
