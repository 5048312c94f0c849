use Rattle.std.proofs.Common.{arith}
use Rattle.matching.proofs.seats.Seats.visit.Goals as goal

pub overflow_cast-self : goal.overflow_cast-self
overflow_cast-self c = omega (arith, c.with.ensures.fits 16 c.requires (omega arith))
