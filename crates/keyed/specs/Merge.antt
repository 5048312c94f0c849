-- How the lists after a set message are made: what is not mentioned is kept, then what shall stand is put at its place.
use Rattle.std.specs.Prelude.{ℕ, ◌+◌, Bool, cond, List, [], ◌∷◌, Some, None, Option, ◌==◌, nat_lt}
use Rattle.keyed.specs.Keyed.{Numbered, Mention, among, mentioned}

module _ {X : Type 0} (key : X → ℕ) where
  -- the first that has the number n
  abbrev pub find_in : List X → ℕ → Option X
  find_in [] n = None
  find_in (x ∷ xs) n = cond (key x == n) (Some x) (find_in xs n)

  abbrev pub keeping : (ℕ → Bool) → List X → List X
  keeping named [] = []
  keeping named (x ∷ xs) = cond (named (key x)) (keeping named xs) (x ∷ keeping named xs)

  -- how many stand before the first that is not below n
  abbrev pub place : List X → ℕ → ℕ
  place [] n = 0
  place (x ∷ xs) n = cond (nat_lt (key x) n) (place xs n + 1) 0

  abbrev pub putting : X → List X → List X
  putting y [] = y ∷ []
  putting y (x ∷ xs) = cond (nat_lt (key x) (key y)) (x ∷ putting y xs) (y ∷ x ∷ xs)

module _ {V : Type 0} where
  abbrev pub number_of : Numbered V → ℕ
  number_of x = x.number

  abbrev pub coming : ℕ → Option V → List (Numbered V) → List (Numbered V)
  coming n None xs = xs
  coming n (Some v) xs = putting number_of (record { number = n; value = v }) xs

  abbrev pub added : List (Mention V) → List (Numbered V) → List (Numbered V)
  added [] xs = xs
  added (m ∷ ms) xs = added ms (coming m.number m.shall xs)

  abbrev pub unnamed : List (Mention V) → List (Numbered V) → List (Numbered V)
  unnamed ms xs = keeping number_of (λ n. among n (mentioned ms)) xs

  abbrev pub merging : List (Mention V) → List (Numbered V) → List (Numbered V)
  merging ms xs = added ms (unnamed ms xs)
