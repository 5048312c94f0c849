-- The elements of a mode, as rows of the search.
use Rattle.std.specs.Prelude.{ℕ, suc, List, [], ◌∷◌}
use Rattle.judges.specs.declared.words.Proposal.{Proposal}
use Rattle.modes.specs.declared.element.Element.{Element}

-- a row for each proposal, with its place, counted from k
abbrev pub rows_from : ℕ → List Proposal → List Element
rows_from k [] = []
rows_from k (p ∷ ps) = record { place = k; proposal = p } ∷ rows_from (suc k) ps
