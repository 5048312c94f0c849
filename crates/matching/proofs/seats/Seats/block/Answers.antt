use Rattle.std.proofs.Common.{arith}
use Rattle.matching.proofs.Turns.{sets_of}
use Rattle.matching.proofs.seats.Seats.block.Goals as goal

pub returns-clause-sets : goal.returns-clause-sets
returns-clause-sets c = sets_of c.args.self.now c.group-group.result c.reached.result (omega arith) c.reached.ensures
