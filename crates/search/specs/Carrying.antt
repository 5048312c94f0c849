-- When a set can be used, when sets carry proposals, and when a group of proposals forbids it.
use Rattle.std.specs.Prelude.{◌≡◌, ℕ, suc, ◌<◌, Bool, true, false, cond, List, [], ◌∷◌, length, Some, None, Option}
use Rattle.judges.specs.declared.words.Capability.{Capability}
use Rattle.judges.specs.declared.words.Proposal.{Proposal}
use Rattle.keyed.specs.Keyed.{Numbered, at}
use Rattle.search.specs.Lists.{At, some_pass, how_many}

-- what stands at a number covers the proposal
abbrev pub covering : (Capability → Proposal → Bool) → Proposal → Option Capability → Bool
covering covers p None = false
covering covers p (Some c) = covers c p

-- A set can be used for a proposal if one of its members names an entry that covers it.
abbrev pub usable : (Capability → Proposal → Bool) → List (Numbered Capability) → List ℕ → Proposal → Bool
usable covers entries members p = some_pass (λ m. covering covers p (at entries m)) members

-- `can S p`: the set S can be used for the proposal p
module _ (can : List ℕ → Proposal → Bool) where
  -- Each proposal has a set of its own that it can use.
  pub record Carries (sets : List (List ℕ)) (ps : List Proposal) : Type 0 where
    pub seat : ℕ → ℕ
    pub fits : (r : ℕ) (p : Proposal) → At p ps r → (S : List ℕ) × At S sets (seat r) × (can S p ≡ true)
    pub own : (r q : ℕ) → r < length ps → q < length ps → seat r ≡ seat q → r ≡ q

  -- one of the proposals can use the set
  abbrev pub used_by : List Proposal → List ℕ → Bool
  used_by ps S = some_pass (can S) ps

-- the proposals at the places of a group
abbrev pub grouped : (ℕ → Bool) → List Proposal → List Proposal
grouped group [] = []
grouped group (p ∷ ps) = cond (group 0) (p ∷ grouped (λ k. group (suc k)) ps) (grouped (λ k. group (suc k)) ps)

-- A blocking group: it is not empty, its places are those of proposals, and fewer sets can be used by some of it than it has proposals.
pub record Blocks (can : List ℕ → Proposal → Bool) (sets : List (List ℕ)) (ps : List Proposal) (group : ℕ → Bool) : Type 0 where
  pub some : 0 < length (grouped group ps)
  pub inside : (q : ℕ) → group q ≡ true → q < length ps
  pub few : how_many (used_by can (grouped group ps)) sets < length (grouped group ps)

-- A blocking group and a seating exclude each other.
abbrev pub BlockRefutes : Type 0
BlockRefutes =
    (can : List ℕ → Proposal → Bool) (sets : List (List ℕ)) (ps : List Proposal) (group : ℕ → Bool) → Blocks can sets ps group → Carries can sets ps → ⊥
