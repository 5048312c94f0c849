use Rattle.std.proofs.Common.{◌≡◌, map}
use Rattle.bounded.specs.Items.{items}
use Rattle.records.specs.Layout.{be16}
use Rattle.records.proofs.held.Record.members.Given as goal

abbrev pub invariant-loop-pair : goal.invariant-loop-pair
invariant-loop-pair l =
    (goal.iterator-loop-pair).can_next l.pair-iterator ×
    (goal.iterator-loop-pair).is_finite l.pair-iterator ×
    (items l.list ≡ map (λ p. be16 p 0) (map (λ y. y.now) l.yielded))
