use Rattle.std.proofs.Common.{◌≡◌}
use Rattle.records.specs.Stages.{rest}
use Rattle.records.specs.Reads.{rows, tags}
use Rattle.records.proofs.order.is_in_order.Given as goal

abbrev pub invariant-loop-record : goal.invariant-loop-record
invariant-loop-record l =
    (goal.iterator-loop-record).can_next l.record-iterator ×
    (goal.iterator-loop-record).is_finite l.record-iterator ×
    (rest l.stage (tags (rows l.record-iterator)) ≡ rest l.initial.stage (tags (rows l.message)))
