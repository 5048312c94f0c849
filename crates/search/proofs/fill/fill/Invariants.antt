use Rattle.std.proofs.Common.{◌≡◌, ℕ, ◌<◌, not, eqb, get_or}
use lib.Bits.{bit_and}
use Rattle.bounded.specs.Items.{items}
use Rattle.matching.specs.Masks.{can}
use Rattle.search.specs.Lists.{passes_at}
use Rattle.search.proofs.fill.fill.Given as goal

abbrev pub invariant-loop-row : goal.invariant-loop-row
invariant-loop-row l = (q s : ℕ) → q < l.row → can l.board q s ≡ passes_at (λ x. not (eqb (bit_and x (get_or l.cover-items q 0)) 0)) (items l.places) s
