use Rattle.std.proofs.Common.{rules}
use Rattle.bounded.specs.Items.{items}
use Rattle.table.specs.Rows.{entry_row}
use Rattle.keyed.proofs.Views.{found_at}
use Rattle.table.proofs.standing.Table.entry.Goals as goal

pub returns : goal.returns
returns c = rw (found_at entry_row (items c.args.self.now.entries) c.args.number, ← c.deref.ensures.0, ← c.find.ensures) (search rules)
