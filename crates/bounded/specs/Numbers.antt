-- What a set of numbers holds.
use Rattle.std.specs.Prelude.{ℕ, ◌/◌, ◌%◌, Bool, slice_index}
use Rattle.bounded.specs.declared.held.NumberSet.{NumberSet}
use Rattle.bounded.specs.Bit.{bit}

-- 64 numbers to a word
unfoldable pub holds : NumberSet → ℕ → Bool
holds s n = bit (slice_index s.words (n / 64)) (n % 64)
