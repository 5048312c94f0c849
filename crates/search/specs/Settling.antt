-- What the seating answers of one descriptor.
use Rattle.std.specs.Prelude.{◌≡◌, ℕ, ◌<◌, Bool, true, List, length, Ok, Err, Result, slice_index}
use Rattle.std.specs.Borrow.{Bor}
use Rattle.bounded.specs.Bit.{bit}
use Rattle.judges.specs.declared.words.Capability.{Capability}
use Rattle.judges.specs.declared.words.Proposal.{Proposal}
use Rattle.matching.specs.Board.{count, reach, Carries, Blocks}
use Rattle.matching.specs.Calls.{at}
use Rattle.matching.specs.Steps.{Placed}
use Rattle.matching.specs.declared.block.Block.{Block}
use Rattle.keyed.specs.Keyed.{Numbered}
use Rattle.search.specs.Filling.{meeting}
use Rattle.search.specs.Carrying.{usable}
use Rattle.search.specs.Lists.{At, passes_at}

-- the set at place s names an entry that is marked in the mask at place r
abbrev pub meets_at : List (Numbered Capability) → List (List ℕ) → List ℕ → ℕ → ℕ → Bool
meets_at es sets masks r s = passes_at (λ S. meeting es S (slice_index masks r)) sets s

-- a group of the n rows blocks the m sets, and can use k of them
pub record BlockedBy (can : ℕ → ℕ → Bool) (n m g k : ℕ) : Type 0 where
  pub blocks : Blocks can n m (bit g)
  pub inside : (q : ℕ) → bit g q ≡ true → q < n
  pub sets : k ≡ count (reach can n (bit g)) m

-- the holders, one for each set, seat the rows; or a group blocks
abbrev pub Arranged : (ℕ → ℕ → Bool) → ℕ → ℕ → Result (Bor (List ℕ)) Block → Type 0
Arranged can n m (Ok holders) = (length holders.now ≡ m) × Placed can n m (at holders.now) n
Arranged can n m (Err b) = BlockedBy can n m b.group b.sets

-- each row has a set of its own, or a group blocks
abbrev pub Settled : (ℕ → ℕ → Bool) → ℕ → ℕ → Result (Unit {0}) Block → Type 0
Settled can n m (Ok _) = Carries can n m
Settled can n m (Err b) = BlockedBy can n m b.group b.sets

-- no set is held by the row at a place, or one that it cannot use
abbrev pub Standless : (Capability → Proposal → Bool) → List (Numbered Capability) → List (List ℕ) → (ℕ → ℕ) → Proposal → ℕ → Type 0
Standless covers es sets holders p place =
    ((s : ℕ) × (s < length sets) × (holders s ≡ place)) → ((s : ℕ) (S : List ℕ) → At S sets s → holders s ≡ place → usable covers es S p ≡ true) → ⊥
