-- What is printed of the octets left completes the text so far.
use Rattle.std.proofs.Common.{string_bytes}
use Rattle.cutting.specs.Pieces.{left}
use Rattle.replay.specs.Bench.{Step, Printed}
use Rattle.replay.proofs.Pass.{Ahead}
use Rattle.replay.proofs.whole.run.Given as goal

abbrev pub invariant-loop-piece : goal.invariant-loop-piece
invariant-loop-piece l = Ahead Step (Printed l.input) (string_bytes l.out) l.table (left l.piece-iterator)
