use Rattle.table.proofs.OneAnswer.{one_answer}
use Rattle.table.proofs.laws.one_answer.Goals as goal

pub returns : goal.returns
returns c = one_answer
