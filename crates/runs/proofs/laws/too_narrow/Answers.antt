use Rattle.runs.proofs.Words.{too_narrow}
use Rattle.runs.proofs.laws.too_narrow.Goals as goal

pub returns : goal.returns
returns g c = too_narrow g.J.Judge.lawful g.J.Judge.covers
