use Rattle.runs.proofs.Words.{mode_unavailable}
use Rattle.runs.proofs.laws.mode_unavailable.Goals as goal

pub returns : goal.returns
returns g c = mode_unavailable g.J.Judge.lawful g.J.Judge.covers
