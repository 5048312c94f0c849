use Rattle.matching.specs.Seats.{SameBoard, SeatedBelow}
use Rattle.matching.proofs.placing.place.Given as goal

abbrev pub invariant-loop-row : goal.invariant-loop-row
invariant-loop-row l = record {
  same : SameBoard l.initial.seats l.seats;
  below : SeatedBelow l.seats l.row;
}
