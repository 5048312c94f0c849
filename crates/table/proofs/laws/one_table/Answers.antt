use Rattle.table.proofs.Judged.{one_after}
use Rattle.table.proofs.laws.one_table.Goals as goal

pub returns : goal.returns
returns c = one_after
