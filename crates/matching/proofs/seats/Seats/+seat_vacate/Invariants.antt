use Rattle.std.proofs.Common.{◌+◌, ◌*◌}
use Rattle.matching.proofs.Moves.{unseen, Turned}
use Rattle.matching.proofs.seats.Seats.+seat_vacate.Given as goal

abbrev pub decreases-seat : goal.decreases-seat
decreases-seat l = 2 * unseen l.self.now + 1

abbrev pub decreases-vacate : goal.decreases-vacate
decreases-vacate l = 2 * unseen l.self.now + 2

abbrev pub invariant-seat-loop-set : goal.invariant-seat-loop-set
invariant-seat-loop-set l = Turned l.initial.self l.self

abbrev pub decreases-seat-loop-set : goal.decreases-seat-loop-set
decreases-seat-loop-set l = unseen l.self
