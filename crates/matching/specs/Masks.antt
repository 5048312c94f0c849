-- Masks in the octets of a board.
use Rattle.std.specs.Prelude.{ℕ, ◌+◌, ◌*◌, Bool, List, slice_index}
use Rattle.bounded.specs.Bit.{bit}

-- the mask at place r: two octets, the low one first
abbrev pub row_mask : List ℕ → ℕ → ℕ
row_mask board r = slice_index board (2 * r) + slice_index board (2 * r + 1) * 256

-- row r of the board can use set s
abbrev pub can : List ℕ → ℕ → ℕ → Bool
can board r s = bit (row_mask board r) s
