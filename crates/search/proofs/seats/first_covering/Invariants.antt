use Rattle.std.proofs.Common.{◌≡◌, drop}
use Rattle.keyed.specs.Keyed.{at}
use Rattle.table.specs.Sets.{entries_of}
use Rattle.search.specs.Carrying.{covering}
use Rattle.search.specs.Lists.{first_pass}
use Rattle.search.proofs.seats.first_covering.Given as goal

abbrev pub invariant-loop-m : goal.invariant-loop-m
invariant-loop-m g l =
    first_pass (λ m. covering (g.J.Judge.covers l.judge) l.proposal (at (entries_of l.table) m)) (drop l.m-index l.members)
    ≡ first_pass (λ m. covering (g.J.Judge.covers l.judge) l.proposal (at (entries_of l.table) m)) l.members
