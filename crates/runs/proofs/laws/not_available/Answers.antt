use Rattle.runs.proofs.Words.{not_available}
use Rattle.runs.proofs.laws.not_available.Goals as goal

pub returns : goal.returns
returns g c = not_available g.J.Judge.lawful g.J.Judge.covers
