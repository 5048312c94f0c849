-- A blocking group excludes a seating: its rows would sit on more sets than they can use.
use Rattle.std.proofs.Common.{◌≤◌, ◌&&◌, arith}
use Rattle.std.proofs.lemmas.Bool.{and_from}
use Rattle.matching.specs.Board.{count, reach, BlockRefutes}
use Rattle.matching.proofs.Count.{count_inj, any_from}

pub block_refutes : BlockRefutes
block_refutes can n m group b c =
    let big : count group n ≤ count (reach can n group) m =
    count_inj group (reach can n group) c.0 n m
    (λ r l g. ((c.1 r l).0, any_from (λ q. group q && can q (c.0 r)) n r l (and_from (group r) (can r (c.0 r)) g (c.1 r l).1)))
    (λ r q lr lq _ _. c.2 r q lr lq) in
    omega (arith, b.1)
