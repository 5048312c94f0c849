-- What the matching answers.
use Rattle.std.specs.Prelude.{◌≡◌, ℕ, ◌<◌, true, ◌⊎◌, List, Result, Ok, Err}
use Rattle.bounded.specs.Bit.{bit}
use Rattle.matching.specs.Board.{count, reach, Blocks}
use Rattle.matching.specs.Calls.{tall, at}
use Rattle.matching.specs.Masks.{can}
use Rattle.matching.specs.Steps.{Placed}
use Rattle.matching.specs.declared.block.Block.{Block}

-- the group of rows that is named blocks m sets, and can use so many of them
abbrev pub Blocked : List ℕ → ℕ → Block → Type 0
Blocked board m b =
    Blocks (can board) (tall board) m (bit b.group) × ((q : ℕ) → bit b.group q ≡ true → q < tall board) × (b.sets ≡ count (reach (can board) (tall board) (bit b.group)) m)

-- the holders seat every row of the board at one of m sets; or a group of rows blocks
abbrev pub Judged : List ℕ → ℕ → List ℕ → Result (Unit {0}) Block → Type 0
Judged board m holder (Ok _) = Placed (can board) (tall board) m (at holder) (tall board)
Judged board m holder (Err b) = Blocked board m b

-- g has row r, and the rows that hold a visited set below i, and no other
pub record Grouped (holder : List ℕ) (visited r g i : ℕ) : Type 0 where
  pub root : bit g r ≡ true
  pub rows : (s : ℕ) → s < i → bit visited s ≡ true → bit g (at holder s) ≡ true
  pub back : (q : ℕ) → bit g q ≡ true → (q ≡ r) ⊎ ((s : ℕ) × (s < i) × (bit visited s ≡ true) × (at holder s ≡ q))
