-- What `seat` and `vacate` ask and promise.
use Rattle.std.specs.Prelude.{◌≡◌, ℕ, ◌<◌, ◌≢◌, Bool, true, ◌&&◌, not, length}
use Rattle.bounded.specs.Bit.{bit}
use Rattle.matching.specs.Calls.{tall, at}
use Rattle.matching.specs.Masks.{can}
use Rattle.matching.specs.Steps.{Free, Sound, Seated, Refused, Placed}
use Rattle.matching.specs.declared.seats.Seats.{Seats}

-- the rows below r are seated, each at a set of its own that it can use, and no others
abbrev pub SeatedBelow : Seats → ℕ → Type 0
SeatedBelow seats r = Placed (can seats.board.now) (tall seats.board.now) (length seats.holders.now) (at seats.holders.now) r

-- row r asks for a seat at a set that is not visited, and has none
pub record Seatable (seats : Seats) (r : ℕ) : Type 0 where
  pub row : r < tall seats.board.now
  pub sound : Sound (can seats.board.now) (tall seats.board.now) (length seats.holders.now) (bit seats.visited) (at seats.holders.now)
  pub free : Free (length seats.holders.now) (bit seats.visited) (at seats.holders.now) r

-- set s is asked for, which is visited
pub record Vacatable (seats : Seats) (s : ℕ) : Type 0 where
  pub here : s < length seats.holders.now
  pub sound : Sound (can seats.board.now) (tall seats.board.now) (length seats.holders.now) (bit seats.visited) (at seats.holders.now)
  pub free : at seats.holders.now s < tall seats.board.now → Free (length seats.holders.now) (bit seats.visited) (at seats.holders.now) (at seats.holders.now s)

-- the board is the same, and so are the places for the holders
pub record SameBoard (old new : Seats) : Type 0 where
  pub board : new.board.now ≡ old.board.now
  pub places : new.holders.ghost_name ≡ old.holders.ghost_name
  pub long : length new.holders.now ≡ length old.holders.now

-- set s was visited, and nothing else changed
pub record Visits (old new : Seats) (s : ℕ) : Type 0 where
  pub here : bit new.visited s ≡ true
  pub other : (t : ℕ) → (t ≢ s) → bit new.visited t ≡ bit old.visited t
  pub same : SameBoard old new
  pub holders : new.holders.now ≡ old.holders.now

-- row r can use set s, which is not visited
abbrev pub fresh : Seats → ℕ → ℕ → Bool
fresh seats r s = can seats.board.now r s && not (bit seats.visited s)

-- each visited set is held by a row
abbrev pub VisitedHeld : Seats → Type 0
VisitedHeld seats = (s : ℕ) → s < length seats.holders.now → bit seats.visited s ≡ true → at seats.holders.now s < tall seats.board.now

-- row r is seated as well
abbrev pub Won : Seats → Seats → ℕ → Type 0
Won old new r = Seated (can old.board.now) (tall old.board.now) (length old.holders.now) (bit old.visited) (at old.holders.now) (at new.holders.now) r

-- nothing moved, and the visited sets show why
abbrev pub Lost : Seats → Seats → ℕ → Type 0
Lost old new r =
    (new.holders.now ≡ old.holders.now)
    × Refused (can old.board.now) (tall old.board.now) (length old.holders.now) (bit old.visited) (bit new.visited) (at old.holders.now) r
