-- The words of the merge as the library's own: what a look-up, a place and a keeping are.
use Rattle.std.proofs.Common.{◌≡◌, ℕ, ◌+◌, ◌<◌, ◌≤◌, Bool, cond, not, eqb, ltb, List, [], ◌∷◌, Some, Option, sym, refl, ap, ◌∙◌, inl, inr, add-one}
use Rattle.std.specs.List.{filter, find, insert}
use Rattle.std.proofs.lemmas.Bool.{lt-ltb, le-ltb, cond-true, cond-false, cases_Bool}
use Rattle.keyed.specs.Merge.{find_in, keeping, place, putting}

module _ {X : Type 0} (key : X → ℕ) where
  pub find_is : (xs : List X) (n : ℕ) → find_in key xs n ≡ find (λ x. eqb (key x) n) xs
  find_is [] n = refl
  find_is (x ∷ xs) n = ap (λ (o : Option X). cond (eqb (key x) n) (Some x) o) (find_is xs n)

  pub place_here : (n : ℕ) (x : X) (xs : List X) → n ≤ key x → place key (x ∷ xs) n ≡ 0
  place_here n x xs h = cond-false (ltb (key x) n) _ _ (le-ltb _ _ h)

  pub place_after : (n : ℕ) (x : X) (xs : List X) → key x < n → place key (x ∷ xs) n ≡ place key xs n + 1
  place_after n x xs h = cond-true (ltb (key x) n) _ _ (lt-ltb _ _ h)

  pub keeping_is : (named : ℕ → Bool) (xs : List X) → keeping key named xs ≡ filter (λ x. not (named (key x))) xs
  keeping_is named [] = refl
  keeping_is named (x ∷ xs) = elim (cases_Bool (named (key x))) [
    | inl t ↦ rw (t, keeping_is named xs) refl
    | inr t ↦ rw (t, keeping_is named xs) refl
  ]

  -- an insertion at the place is the putting
  pub inserted_place : (x : X) (xs : List X) → insert xs (place key xs (key x)) x ≡ putting key x xs
  inserted_place x [] = refl
  inserted_place x (y ∷ xs) =
      let b = ltb (key y) (key x) in
      elim (cases_Bool b) [
        | inl t ↦
            ap (λ (k : ℕ). insert (y ∷ xs) k x) (cond-true b (place key xs (key x) + 1) 0 t ∙ add-one (place key xs (key x)))
            ∙ ap (λ (u : List X). y ∷ u) (inserted_place x xs)
            ∙ sym (cond-true b (y ∷ putting key x xs) (x ∷ y ∷ xs) t)
        | inr t ↦
            ap (λ (k : ℕ). insert (y ∷ xs) k x) (cond-false b (place key xs (key x) + 1) 0 t)
            ∙ sym (cond-false b (y ∷ putting key x xs) (x ∷ y ∷ xs) t)
      ]
