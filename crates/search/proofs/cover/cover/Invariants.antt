use Rattle.bounded.specs.Items.{items}
use Rattle.table.specs.Sets.{entries_of}
use Rattle.search.specs.Filling.{Covering}
use Rattle.search.proofs.Pairs.{Paired}
use Rattle.search.proofs.cover.cover.Given as goal

abbrev pub invariant-loop-row : goal.invariant-loop-row
invariant-loop-row g l = Paired (λ _ row mask. Covering (g.J.Judge.covers l.judge) (entries_of l.table) (g.R.Row.asks row) mask) l.rows l.row-index (items l.masks)
