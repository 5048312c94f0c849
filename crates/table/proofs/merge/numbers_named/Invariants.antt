use Rattle.std.proofs.Common.{ℕ, List}
use Rattle.bounded.specs.Numbers.{holds}
use Rattle.records.specs.Layout.{Rec}
use Rattle.records.specs.Reads.{says}
use Rattle.table.specs.Turns.{Lists}
use Rattle.table.proofs.Marks.{Marked}
use Rattle.table.proofs.merge.numbers_named.Given as goal

abbrev pub invariant-loop-record : goal.invariant-loop-record
invariant-loop-record g l =
    (goal.iterator-loop-record g).can_next l.record-iterator ×
    (goal.iterator-loop-record g).is_finite l.record-iterator ×
    ((numbers : List Rec → List ℕ) → Lists (goal.F-post g l.number) numbers → Marked (holds l.named) (numbers (says l.record-iterator)) (numbers (says l.message)))
