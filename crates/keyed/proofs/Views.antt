-- A list by number and what it stands for: putting, keeping and looking up go through the view.
use Rattle.std.proofs.Common.{◌≡◌, ℕ, suc, ◌+◌, ◌≤◌, Bool, true, false, cond, eqb, ltb, List, [], ◌∷◌, map, length, Some, None, Option, sym, refl, ap, ◌∙◌, arith}
use Rattle.std.specs.Option.{option_map}
use Rattle.std.proofs.lemmas.Bool.{cond_both}
use Rattle.keyed.specs.Keyed.{Numbered, Mention, at, among, mentioned}
use Rattle.keyed.specs.Merge.{find_in, keeping, putting, number_of, coming, added, unnamed}

-- the same numbers are kept by the same test
keeping_same : {X : Type 0} (key : X → ℕ) (f g : ℕ → Bool) (xs : List X) → ((n : ℕ) → f n ≡ g n) → keeping key f xs ≡ keeping key g xs
keeping_same key f g [] e = refl
keeping_same key f g (x ∷ xs) e =
    ap (λ (b : Bool). cond b (keeping key f xs) (x ∷ keeping key f xs)) (e (key x)) ∙ ap (λ (u : List _). cond (g (key x)) u (x ∷ u)) (keeping_same key f g xs e)

-- what a function makes of either way is either way of what it makes
cond_map : {X Y : Type 0} (f : X → Y) (b : Bool) (x y : X) → f (cond b x y) ≡ cond b (f x) (f y)
cond_map f true x y = refl
cond_map f false x y = refl

module _ {X V : Type 0} (view : X → Numbered V) where
  abbrev key : X → ℕ
  key x = (view x).number

  pub map-putting : (y : X) (xs : List X) → map view (putting key y xs) ≡ putting number_of (view y) (map view xs)
  map-putting y [] = refl
  map-putting y (x ∷ xs) =
      cond_map (map view) (ltb (key x) (key y)) (x ∷ putting key y xs) (y ∷ x ∷ xs)
      ∙ ap (λ (u : List (Numbered V)). cond (ltb (key x) (key y)) (view x ∷ u) (view y ∷ view x ∷ map view xs)) (map-putting y xs)

  map-keeping : (named : ℕ → Bool) (xs : List X) → map view (keeping key named xs) ≡ keeping number_of named (map view xs)
  map-keeping named [] = refl
  map-keeping named (x ∷ xs) =
      cond_map (map view) (named (key x)) (keeping key named xs) (x ∷ keeping key named xs)
      ∙ ap (λ (u : List (Numbered V)). cond (named (key x)) u (view x ∷ u)) (map-keeping named xs)

  -- what the code keeps is what is not mentioned
  pub kept_unnamed : (ms : List (Mention V)) (held : ℕ → Bool) (xs ys : List X) → ((n : ℕ) → held n ≡ among n (mentioned ms)) → ys ≡ keeping key held xs → map view ys ≡ unnamed ms (map view xs)
  kept_unnamed ms held xs ys h e = ap (map view) (e ∙ keeping_same key held (λ n. among n (mentioned ms)) xs h) ∙ map-keeping (λ n. among n (mentioned ms)) xs

  -- what the code finds is what stands there
  pub found_at : (xs : List X) (n : ℕ) → at (map view xs) n ≡ option_map (λ x. (view x).value) (find_in key xs n)
  found_at [] n = refl
  found_at (x ∷ xs) n =
      ap (λ (o : Option V). cond (eqb (key x) n) (Some (view x).value) o) (found_at xs n)
      ∙ sym (cond_map (option_map (λ x. (view x).value)) (eqb (key x) n) (Some x) (find_in key xs n))

-- one more is put in
pub length-putting : {X : Type 0} (key : X → ℕ) (x : X) (xs : List X) → length (putting key x xs) ≡ length xs + 1
length-putting key x [] = refl
length-putting key x (y ∷ xs) =
    cond_both (ltb (key y) (key x)) (y ∷ putting key x xs) (x ∷ y ∷ xs) (λ u. length u ≡ suc (length xs) + 1)
    (λ t. omega (arith, length-putting key x xs)) (λ t. omega arith)

-- those that are kept are no more
pub length-keeping : {X : Type 0} (key : X → ℕ) (named : ℕ → Bool) (xs : List X) → length (keeping key named xs) ≤ length xs
length-keeping key named [] = omega arith
length-keeping key named (x ∷ xs) =
    cond_both (named (key x)) (keeping key named xs) (x ∷ keeping key named xs) (λ u. length u ≤ suc (length xs))
    (λ t. omega (arith, length-keeping key named xs)) (λ t. omega (arith, length-keeping key named xs))

module _ {V : Type 0} where
  length-coming : (n : ℕ) (o : Option V) (xs : List (Numbered V)) → length xs ≤ length (coming n o xs)
  length-coming n None xs = omega arith
  length-coming n (Some v) xs = omega (arith, length-putting number_of (record { number = n; value = v }) xs)

  -- more is added, and nothing lost
  pub length-added : (ms : List (Mention V)) (xs : List (Numbered V)) → length xs ≤ length (added ms xs)
  length-added [] xs = omega arith
  length-added (m ∷ ms) xs = omega (arith, length-coming m.number m.shall xs, length-added ms (coming m.number m.shall xs))
