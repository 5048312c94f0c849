-- The theorem, from its proof.
use Rattle.cutting.proofs.Unique as unique
use Rattle.cutting.proofs.front.one_cutting.Goals as goal

pub returns : goal.returns
returns c = unique.one_cutting
