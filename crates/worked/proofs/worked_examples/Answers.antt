use Rattle.std.proofs.Common.{rules}
use Rattle.worked.proofs.Asked.{session}
use Rattle.worked.proofs.Seated.{seating}
use Rattle.worked.proofs.worked_examples.Goals as goal

pub returns : goal.returns
returns c = record { standard_judge = search rules; seating = seating; session = session }
