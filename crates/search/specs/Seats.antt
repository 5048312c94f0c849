-- The seats of rows on the sets of a descriptor.
use Rattle.std.specs.Prelude.{◌≡◌, ℕ, Bool, ◌⊎◌, List, [], map, length, Some, None, Option, ◌≢◌}
use Rattle.bounded.specs.Items.{items}
use Rattle.judges.specs.declared.words.Capability.{Capability}
use Rattle.judges.specs.declared.words.Proposal.{Proposal}
use Rattle.keyed.specs.Keyed.{Numbered, at}
use Rattle.table.specs.Sets.{Standing}
use Rattle.search.specs.declared.seat.Seat.{Seat}
use Rattle.search.specs.declared.seat.Seating.{Seating}
use Rattle.search.specs.Answers.{Smallest, NoneCarries}
use Rattle.search.specs.Carrying.{covering}
use Rattle.search.specs.Lists.{At, first_pass}

-- `named` and `asks` give a row's number and its proposal
module _ {R : Type 0} (named : R → ℕ) (asks : R → Proposal) (covers : Capability → Proposal → Bool) where
  module _ (entries : List (Numbered Capability)) (sets : List (List ℕ)) where
    -- a row's seat: its number, a set's place, and the first member of that set that covers its proposal
    pub record Sits (row : R) (w : Seat) : Type 0 where
      pub number : w.number ≡ named row
      pub members : List ℕ
      pub stands : At members sets w.set
      pub entry : first_pass (λ m. covering covers (asks row) (at entries m)) members ≡ Some w.entry

    -- A seat for each row, in their order, each on a set of its own.
    pub record Seats (rows : List R) (seats : List Seat) : Type 0 where
      pub long : length seats ≡ length rows
      pub each : (r : ℕ) (row : R) (w : Seat) → At row rows r → At w seats r → Sits row w
      pub own : (r q : ℕ) (v w : Seat) → At v seats r → At w seats q → v.set ≡ w.set → r ≡ q

  -- The seats of rows on the smallest descriptor that carries them.
  pub record Seated (t : Standing) (rows : List R) (s : Seating) : Type 0 where
    pub smallest : Smallest covers t (map asks rows) s.descriptor
    pub seats : Seats t.entries smallest.descriptor.value rows (items s.seats)

  -- None where there are no rows, or no standing descriptor carries them.
  abbrev pub SeatingOf : Standing → List R → Option Seating → Type 0
  SeatingOf t rows (Some s) = (rows ≢ []) × Seated t rows s
  SeatingOf t rows None = (rows ≡ []) ⊎ NoneCarries covers t (map asks rows)
