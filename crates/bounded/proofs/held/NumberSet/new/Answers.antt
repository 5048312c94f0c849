use Rattle.bounded.specs.Numbers.{holds}
use Rattle.bounded.proofs.Members.{none_within}
use Rattle.bounded.proofs.held.NumberSet.new.Goals as goal

pub returns : goal.returns
unfolding holds
returns c = λ n. none_within 1024 n
