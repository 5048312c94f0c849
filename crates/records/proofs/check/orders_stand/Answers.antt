use Rattle.records.proofs.Orders.{set_is, set_from, mode_is, mode_from}
use Rattle.records.proofs.check.orders_stand.Goals as goal

pub returns : goal.returns
returns c = ((set_is, set_from), (mode_is, mode_from))
