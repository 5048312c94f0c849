use Rattle.std.proofs.Common.{refl}
use Rattle.matching.proofs.Turns.{further, held, inside, blocked}
use Rattle.matching.proofs.seats.Seats.seat_next.Goals as goal

pub block-requires-clause-held : goal.block-requires-clause-held
block-requires-clause-held c = held _ _ refl c.requires.row c.requires.below c.seat.ensures.same (c.seat.ensures.lost c.if-seat.false)

pub returns-then-seat-clause-ok : goal.returns-then-seat-clause-ok
returns-then-seat-clause-ok c = further _ _ refl c.requires.row c.requires.below c.seat.ensures.same (c.seat.ensures.won c.if-seat.true)

pub returns-else-seat-clause-err : goal.returns-else-seat-clause-err
returns-else-seat-clause-err c =
    let lost = c.seat.ensures.lost c.if-seat.false in (
      blocked _ _ refl c.requires.row c.requires.below c.seat.ensures.same lost c.block.ensures.group,
      inside _ _ refl c.requires.row c.requires.below c.seat.ensures.same lost c.block.ensures.group,
      c.block.ensures.sets,
    )
