-- The scratch memory that a call is lent.
use Rattle.std.specs.Prelude.{ℕ, ◌≤◌, cond, List, [], ◌∷◌, ◌++◌, length, drop, replicate, nat_lt}
use Rattle.refusals.specs.declared.refusal.Refusal.TheVariants.{Scratch}
use Rattle.refusals.specs.Checks.{Check, check}

-- the first 512 octets zero, the others as they were
unfoldable pub cleared : List ℕ → List ℕ
cleared xs = replicate 512 0 ++ drop 512 xs

-- As every call leaves it: one under 512 octets as it was, any other cleared.
abbrev pub left_over : List ℕ → List ℕ
left_over xs = cond (nat_lt (length xs) 512) xs (cleared xs)

-- at least 512 octets
abbrev pub scratch_checks : List ℕ → List Check
scratch_checks xs = check Scratch (512 ≤ length xs) ∷ []
