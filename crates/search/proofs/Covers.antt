-- What stands at a place of a list, and of a mapped one.
use Rattle.std.proofs.Common.{◌≡◌, ℕ, zero, suc, ◌<◌, List, [], ◌∷◌, map, length, get_or, sym, refl, ap, ◌∙◌, subst, arith}
use Rattle.std.proofs.lemmas.List.{get_or_default}
use Rattle.search.specs.Lists.{At}

-- two that stand at one place are one
pub at_one : {X : Type 0} (xs : List X) (k : ℕ) (x y : X) → At x xs k → At y xs k → x ≡ y
at_one xs k x y a b = sym a.1 ∙ get_or_default xs k x y a.0 ∙ b.1

-- what stands in a mapped list
pub at_map : {X Y : Type 0} (f : X → Y) (xs : List X) (k : ℕ) (y : Y) → At y (map f xs) k → (x : X) × At x xs k × (f x ≡ y)
at_map f [] k y a = absurd (omega (arith, a.0))
at_map f (x ∷ xs) zero y a = (x, (omega arith, refl), a.1)
at_map f (x ∷ xs) (suc k) y a = let h = at_map f xs k y (omega (arith, a.0), a.1) in (h.0, (omega (arith, h.1.0), h.1.1), h.2)

pub at_mapped : {X Y : Type 0} (f : X → Y) (xs : List X) (k : ℕ) (x : X) → At x xs k → At (f x) (map f xs) k
at_mapped f [] k x a = absurd (omega (arith, a.0))
at_mapped f (y ∷ xs) zero x a = (omega arith, ap f a.1)
at_mapped f (y ∷ xs) (suc k) x a = let h = at_mapped f xs k x (omega (arith, a.0), a.1) in (omega (arith, h.0), h.1)

-- what is read at a place of the list that another stands for
pub at_read : {X Y : Type 0} (f : X → Y) (xs : List X) (ys : List Y) (k : ℕ) (x : X) → map f xs ≡ ys → k < length xs → x ≡ get_or xs k x → At (f x) ys k
at_read {Y = Y} f xs ys k x e l is = subst (λ (zs : List Y). At (f x) zs k) e (at_mapped f xs k x (l, sym is))
