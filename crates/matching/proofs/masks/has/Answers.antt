use Rattle.bounded.proofs.Mask.{test_is}
use Rattle.matching.proofs.masks.has.Goals as goal

pub returns : goal.returns
returns c = test_is c.args.mask c.args.s
