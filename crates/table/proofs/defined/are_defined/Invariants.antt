use Rattle.std.proofs.Common.{◌≡◌, ℕ, ◌||◌, drop, is_some}
use Rattle.bounded.specs.Numbers.{holds}
use Rattle.keyed.specs.Keyed.{at}
use Rattle.table.specs.Rows.{entry_rows}
use Rattle.table.proofs.defined.are_defined.Given as goal

abbrev pub invariant-loop-entry : goal.invariant-loop-entry
invariant-loop-entry l = (n : ℕ) → (holds l.defined n || is_some (at (entry_rows (drop l.entry-index l.entries)) n)) ≡ is_some (at (entry_rows l.entries) n)
