-- The octets that the matching works in.
use Rattle.std.specs.Prelude.{◌≡◌, ℕ, ◌/◌, ◌<◌, ◌≤◌, true, List, length, slice_index}
use Rattle.matching.specs.Masks.{can}

-- how many rows the board has: two octets each
abbrev pub tall : List ℕ → ℕ
tall board = length board / 2

-- the row that holds set s, or a number from `tall` on where it is free
abbrev pub at : List ℕ → ℕ → ℕ
at holder s = slice_index holder s

-- at most 17 rows and 16 sets, and no row can use a set that is not there
pub record Shaped (board holder : List ℕ) : Type 0 where
  pub rows : tall board ≤ 17
  pub sets : length holder ≤ 16
  pub within : (r s : ℕ) → r < tall board → can board r s ≡ true → s < length holder
