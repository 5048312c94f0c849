use Rattle.std.proofs.Common.{◌≡◌, ℕ}
use Rattle.bounded.specs.Bit.{bit}
use Rattle.matching.specs.Board.{reach}
use Rattle.matching.specs.Masks.{can}
use Rattle.matching.proofs.seats.Seats.reached.Given as goal

abbrev pub invariant-loop-row : goal.invariant-loop-row
invariant-loop-row l = (s : ℕ) → bit l.sets s ≡ reach (can l.self.board.now) l.row (bit l.group) s
