use Rattle.std.proofs.Common.{◌^◌, ◌<◌}
use Rattle.matching.specs.Verdicts.{Grouped}
use Rattle.matching.proofs.seats.Seats.group.Given as goal

abbrev pub invariant-loop-set : goal.invariant-loop-set
invariant-loop-set l = record {
  group : Grouped l.self.holders.now l.self.visited l.row l.group l.set;
  fits : l.group < 2 ^ 32;
}
