-- What is printed of an input, for any state and any step from state to state.
use Rattle.std.specs.Prelude.{◌≡◌, ℕ, List, [], ◌∷◌, ◌++◌}
use Rattle.cutting.specs.Cut.{Portion, Pieces}
use Rattle.lines.specs.declared.line.Line.{Line}
use Rattle.lines.specs.Text.{ended}

-- the octets of the lines, each with its line feed
abbrev pub printed : List Line → List ℕ
printed [] = []
printed (l ∷ ls) = ended l ++ printed ls

-- Step s p l t: the piece p leads from the state s to t, and l is its line
module _ {S : Type 0} (Step : S → Portion → Line → S → Type 0) where
  -- the lines of the pieces, in order, from the state s on
  abbrev pub Told : S → List Portion → List Line → Type 0
  Told s [] ls = ls ≡ []
  Told s (p ∷ ps) [] = ⊥
  Told s (p ∷ ps) (l ∷ ls) = (t : S) × (Step s p l t × Told t ps ls)

  -- The input xs is cut into pieces, and out is their lines from the state s on.
  pub record Prints (s : S) (xs out : List ℕ) : Type 0 where
    pub pieces : List Portion
    pub spoken : List Line
    pub cut : Pieces xs pieces
    pub told : Told s pieces spoken
    pub shown : out ≡ printed spoken
