-- Lists by place.
use Rattle.std.specs.Prelude.{◌≡◌, ℕ, zero, suc, ◌+◌, ◌<◌, Bool, false, cond, ◌||◌, List, [], ◌∷◌, length, Some, None, Option, slice_index_or}

-- x stands at place k
abbrev pub At : {X : Type 0} → X → List X → ℕ → Type 0
At x xs k = (k < length xs) × (slice_index_or xs k x ≡ x)

-- x stands somewhere
abbrev pub In : {X : Type 0} → X → List X → Type 0
In x xs = (k : ℕ) × At x xs k

module _ {X : Type 0} (P : X → Bool) where
  -- one of them passes
  abbrev pub some_pass : List X → Bool
  some_pass [] = false
  some_pass (x ∷ xs) = P x || some_pass xs

  -- how many of them pass
  abbrev pub how_many : List X → ℕ
  how_many [] = 0
  how_many (x ∷ xs) = cond (P x) 1 0 + how_many xs

  -- the first of them that passes
  abbrev pub first_pass : List X → Option X
  first_pass [] = None
  first_pass (x ∷ xs) = cond (P x) (Some x) (first_pass xs)

  -- what stands at place k passes
  abbrev pub passes_at : List X → ℕ → Bool
  passes_at [] k = false
  passes_at (x ∷ xs) zero = P x
  passes_at (x ∷ xs) (suc k) = passes_at xs k
