use Rattle.modes.proofs.OneMode.{one_mode}
use Rattle.modes.proofs.laws.one_mode.Goals as goal

pub returns : goal.returns
returns c = one_mode
