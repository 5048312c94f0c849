use Rattle.matching.proofs.Hall.{block_refutes}
use Rattle.matching.proofs.laws.blocks_refute.Goals as goal

pub returns : goal.returns
returns c = block_refutes
