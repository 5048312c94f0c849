-- What the search over the descriptors finds, for whatever proposals the masks stand for.
use Rattle.std.specs.Prelude.{◌≡◌, ℕ, Bool, true, List}
use Rattle.judges.specs.declared.words.Capability.{Capability}
use Rattle.judges.specs.declared.words.Proposal.{Proposal}
use Rattle.keyed.specs.Keyed.{Numbered, rising, numbers}
use Rattle.search.specs.declared.found.Found.{Found}
use Rattle.search.specs.Answers.{Stands, Outcome}
use Rattle.search.specs.Filling.{Covered}

abbrev pub Searched : List (Numbered Capability) → List Stands → List ℕ → Found → Type 0
Searched es ds masks found =
    (covers : Capability → Proposal → Bool) (ps : List Proposal) → Covered covers es ps masks → rising 0 (numbers es) ≡ true → rising 0 (numbers ds) ≡ true
    → Outcome covers (record { entries = es; descriptors = ds }) ps found
