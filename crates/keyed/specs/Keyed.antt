-- Values that stand at numbers, what is said of numbers, and what stands there afterwards.
use Rattle.std.specs.Prelude.{◌≡◌, ℕ, ◌+◌, Bool, true, false, cond, ◌&&◌, ◌||◌, List, [], ◌∷◌, map, Some, None, Option, ◌==◌, nat_le}

-- A value that stands at a number.
pub record Numbered (V : Type 0) : Type 0 where
  pub number : ℕ
  pub value : V

-- A number that is mentioned, with what shall stand there: none where what stands there goes.
pub record Mention (V : Type 0) : Type 0 where
  pub number : ℕ
  pub shall : Option V

-- What is said of one number: nothing, or what shall stand there.
pub data Word (V : Type 0) : Type 0 where
  silent : Word V
  said : Option V → Word V

-- numbers that rise, from a number on: so no two are equal
abbrev pub rising : ℕ → List ℕ → Bool
rising from [] = true
rising from (n ∷ ns) = nat_le from n && rising (n + 1) ns

-- n is one of the numbers
abbrev pub among : ℕ → List ℕ → Bool
among n [] = false
among n (k ∷ ks) = k == n || among n ks

-- one of the numbers stands there twice
abbrev pub repeats : List ℕ → Bool
repeats [] = false
repeats (n ∷ ns) = among n ns || repeats ns

module _ {V : Type 0} where
  -- what stands at the number n
  abbrev pub at : List (Numbered V) → ℕ → Option V
  at [] n = None
  at (x ∷ xs) n = cond (x.number == n) (Some x.value) (at xs n)

  abbrev pub numbers : List (Numbered V) → List ℕ
  numbers xs = map (λ x. x.number) xs

  abbrev pub mentioned : List (Mention V) → List ℕ
  mentioned ms = map (λ m. m.number) ms

  -- what is said of the number n
  abbrev pub said_of : List (Mention V) → ℕ → Word V
  said_of [] n = silent
  said_of (m ∷ ms) n = cond (m.number == n) (said m.shall) (said_of ms n)

  -- what stands at a number after what was said of it
  abbrev pub afterwards : Word V → Option V → Option V
  afterwards silent before = before
  afterwards (said o) before = o

-- The values after what was said: at each number what was said of it, else what stood there.
pub record After {V : Type 0} (before : List (Numbered V)) (ms : List (Mention V)) (after : List (Numbered V)) : Type 0 where
  pub stands : (n : ℕ) → at after n ≡ afterwards (said_of ms n) (at before n)
  pub order : rising 0 (numbers after) ≡ true
