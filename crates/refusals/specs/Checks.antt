-- The checks of a call, in their order, and the first that is not met.
use Rattle.std.specs.Prelude.{◌≡◌, List, [], ◌∷◌, ◌⊎◌}
use Rattle.refusals.specs.declared.refusal.Refusal.{Refusal}

-- A check: what it asks, and the refusal where that does not hold.
pub record Check : Type 1 where
  pub refusal : Refusal
  pub asks : Type 0

abbrev pub check : Refusal → Type 0 → Check
check k asks = record { refusal = k; asks = asks }

-- k is the refusal of the first check that is not met: each before it is.
abbrev pub First : List Check → Refusal → Type 0
First [] k = ⊥
First (c ∷ cs) k = ((k ≡ c.refusal) × (c.asks → ⊥)) ⊎ (c.asks × First cs k)

-- Each check is met.
abbrev pub Passed : List Check → Type 0
Passed [] = Unit {0}
Passed (c ∷ cs) = c.asks × Passed cs
