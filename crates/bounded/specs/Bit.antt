-- The bits of a number.
use Rattle.std.specs.Prelude.{ℕ, ◌/◌, ◌%◌, ◌^◌, Bool, ◌==◌}

unfoldable pub bit : ℕ → ℕ → Bool
bit x s = x / 2 ^ s % 2 == 1
