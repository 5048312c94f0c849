use Rattle.std.proofs.Common.{◌+◌, ◌≤◌, arith}
use Rattle.matching.proofs.Moves.{fallen, vacatable, seated, again, fell, unseen}
use Rattle.matching.proofs.seats.Seats.+seat_vacate.Goals as goal

pub seat-vacate-requires : goal.seat-vacate-requires
seat-vacate-requires t c =
    let f : unseen c.visit.new.self + 1 ≤ unseen c.args.self.now = fallen c.requires c.loop-set.invariant c.in-Some.ensures.1 c.visit.ensures in
    (omega (arith, c.decreases), vacatable c.requires c.loop-set.invariant c.in-Some.ensures.1 c.visit.ensures)

pub seat-returns-then-vacate-clause-won : goal.seat-returns-then-vacate-clause-won
seat-returns-then-vacate-clause-won t c = λ _.
    seated c.requires c.loop-set.invariant c.in-Some.ensures.1 c.visit.ensures c.vacate.new.self.holders.now c.vacate.ensures.same.long (c.vacate.ensures.won c.if-vacate.true)

pub seat-loop-set-smaller : goal.seat-loop-set-smaller
seat-loop-set-smaller t c =
    let f : unseen c.vacate.new.self + 1 ≤ unseen c.loop-set.self =
    fell c.requires c.loop-set.invariant c.in-Some.ensures.1 c.visit.ensures c.vacate.ensures.same (c.vacate.ensures.lost c.if-vacate.false) in
    omega arith

pub seat-loop-set-preserved : goal.seat-loop-set-preserved
seat-loop-set-preserved t c = again c.requires c.loop-set.invariant c.in-Some.ensures.1 c.visit.ensures c.vacate.ensures.same (c.vacate.ensures.lost c.if-vacate.false)
