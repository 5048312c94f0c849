-- What one call of the seating takes and leaves. `H s` is the row that holds set s, or a number from n on where s is free;
-- `V s` says that set s is visited. All but `kept` speaks of the sets that are not visited, since a call moves only those.
use Rattle.std.specs.Prelude.{◌≡◌, ℕ, ◌<◌, Bool, true, false, ◌⊎◌, ◌≢◌}

-- some unvisited set is held by row r
abbrev pub Holds : ℕ → (ℕ → Bool) → (ℕ → ℕ) → ℕ → Type 0
Holds m V H r = (u : ℕ) × (u < m) × (V u ≡ false) × (H u ≡ r)

-- no unvisited set is held by row r
abbrev pub Free : ℕ → (ℕ → Bool) → (ℕ → ℕ) → ℕ → Type 0
Free m V H r = (s : ℕ) → s < m → V s ≡ false → H s ≢ r

-- no row holds two unvisited sets, and each can use what it holds
pub record Sound (can : ℕ → ℕ → Bool) (n m : ℕ) (V : ℕ → Bool) (H : ℕ → ℕ) : Type 0 where
  pub own : (s t : ℕ) → s < m → t < m → V s ≡ false → V t ≡ false → H s < n → H s ≡ H t → s ≡ t
  pub fit : (s : ℕ) → s < m → V s ≡ false → H s < n → can (H s) s ≡ true

-- from the holders H to the holders K row r was seated as well, over sets not in V
pub record Seated (can : ℕ → ℕ → Bool) (n m : ℕ) (V : ℕ → Bool) (H K : ℕ → ℕ) (r : ℕ) : Type 0 where
  pub kept : (t : ℕ) → t < m → V t ≡ true → K t ≡ H t
  pub sound : Sound can n m V K
  pub still : (t : ℕ) → t < m → V t ≡ false → H t < n → Holds m V K (H t)
  pub here : r < n → Holds m V K r
  pub only : (t : ℕ) → t < m → V t ≡ false → K t < n → (K t ≡ r) ⊎ Holds m V H (K t)

-- the visited sets grew from V to W, and each new one is held by a row all of whose usable sets are among them
pub record Tried (can : ℕ → ℕ → Bool) (n m : ℕ) (V W : ℕ → Bool) (H : ℕ → ℕ) : Type 0 where
  pub more : (s : ℕ) → s < m → V s ≡ true → W s ≡ true
  pub held : (s : ℕ) → s < m → V s ≡ false → W s ≡ true → (H s < n) × ((t : ℕ) → t < m → can (H s) t ≡ true → W t ≡ true)

-- row r was refused: each set that it can use was visited in vain
pub record Refused (can : ℕ → ℕ → Bool) (n m : ℕ) (V W : ℕ → Bool) (H : ℕ → ℕ) (r : ℕ) : Type 0 where
  pub tried : Tried can n m V W H
  pub all : (s : ℕ) → s < m → can r s ≡ true → W s ≡ true

-- The rows below r are seated, each at a set of its own that it can use, and no others.
pub record Placed (can : ℕ → ℕ → Bool) (n m : ℕ) (H : ℕ → ℕ) (r : ℕ) : Type 0 where
  pub own : (s t : ℕ) → s < m → t < m → H s < n → H s ≡ H t → s ≡ t
  pub fit : (s : ℕ) → s < m → H s < n → can (H s) s ≡ true
  pub upto : (q : ℕ) → q < r → (u : ℕ) × (u < m) × (H u ≡ q)
  pub below : (s : ℕ) → s < m → H s < n → H s < r
