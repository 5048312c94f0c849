use Rattle.runs.proofs.Runs.{law}
use Rattle.runs.proofs.laws.law_stands.Goals as goal

pub returns : goal.returns
returns g c = law g.J.Judge.lawful g.J.Judge.covers
