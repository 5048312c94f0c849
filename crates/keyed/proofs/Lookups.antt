-- What stands at a number in a list by rising number, after one is put in or some are left out.
use Rattle.std.proofs.Common.{◌≡◌, ℕ, ◌+◌, ◌<◌, ◌≤◌, Bool, true, false, cond, eqb, ltb, List, [], ◌∷◌, Some, None, Option, sym, refl, ap, ◌∙◌, inl, inr, arith}
use Rattle.std.proofs.lemmas.Bool.{ltb-true, ltb-false, leb-true, eq-eqb, ne_eqb, le-leb, cond-true, cond-false, cases_Bool, and_from, and_parts, both_ways}
use Rattle.keyed.specs.Keyed.{Numbered, rising, at, numbers}
use Rattle.keyed.specs.Merge.{number_of, keeping, putting}

module _ {V : Type 0} where
  pub at_here : (x : Numbered V) (xs : List (Numbered V)) (n : ℕ) → x.number ≡ n → at (x ∷ xs) n ≡ Some x.value
  at_here x xs n e = cond-true (eqb x.number n) _ _ (eq-eqb _ _ e)

  pub at_next : (x : Numbered V) (xs : List (Numbered V)) (n : ℕ) → (x.number ≡ n → ⊥) → at (x ∷ xs) n ≡ at xs n
  at_next x xs n e = cond-false (eqb x.number n) _ _ (ne_eqb _ _ e)

  -- one more turn of a look-up over equal rests
  at_more : (x : Numbered V) (xs ys : List (Numbered V)) (n : ℕ) → at xs n ≡ at ys n → at (x ∷ xs) n ≡ at (x ∷ ys) n
  at_more x xs ys n e = ap (λ (o : Option V). cond (eqb x.number n) (Some x.value) o) e

  pub at_put_same : (y : Numbered V) (xs : List (Numbered V)) → at (putting number_of y xs) y.number ≡ Some y.value
  at_put_same y [] = at_here y [] y.number refl
  at_put_same y (x ∷ xs) = elim (cases_Bool (ltb x.number y.number)) [
    | inl t ↦
        ap (λ (u : List (Numbered V)). at u y.number) (cond-true (ltb x.number y.number) (x ∷ putting number_of y xs) (y ∷ x ∷ xs) t)
        ∙ at_next x (putting number_of y xs) y.number (λ e. omega (arith, ltb-true _ _ t)) ∙ at_put_same y xs
    | inr t ↦
        ap (λ (u : List (Numbered V)). at u y.number) (cond-false (ltb x.number y.number) (x ∷ putting number_of y xs) (y ∷ x ∷ xs) t)
        ∙ at_here y (x ∷ xs) y.number refl
  ]

  pub at_put_other : (y : Numbered V) (xs : List (Numbered V)) (n : ℕ) → (y.number ≡ n → ⊥) → at (putting number_of y xs) n ≡ at xs n
  at_put_other y [] n ne = at_next y [] n ne
  at_put_other y (x ∷ xs) n ne = elim (cases_Bool (ltb x.number y.number)) [
    | inl t ↦
        ap (λ (u : List (Numbered V)). at u n) (cond-true (ltb x.number y.number) (x ∷ putting number_of y xs) (y ∷ x ∷ xs) t)
        ∙ at_more x (putting number_of y xs) xs n (at_put_other y xs n ne)
    | inr t ↦
        ap (λ (u : List (Numbered V)). at u n) (cond-false (ltb x.number y.number) (x ∷ putting number_of y xs) (y ∷ x ∷ xs) t)
        ∙ at_next y (x ∷ xs) n ne
  ]

  pub at_keep_named : (named : ℕ → Bool) (xs : List (Numbered V)) (n : ℕ) → named n ≡ true → at (keeping number_of named xs) n ≡ None
  at_keep_named named [] n h = refl
  at_keep_named named (x ∷ xs) n h = elim (cases_Bool (named x.number)) [
    | inl t ↦ ap (λ (u : List (Numbered V)). at u n) (cond-true (named x.number) (keeping number_of named xs) (x ∷ keeping number_of named xs) t) ∙ at_keep_named named xs n h
    | inr t ↦
        ap (λ (u : List (Numbered V)). at u n) (cond-false (named x.number) (keeping number_of named xs) (x ∷ keeping number_of named xs) t)
        ∙ at_next x (keeping number_of named xs) n (λ e. both_ways (named x.number) t (ap named e ∙ h)) ∙ at_keep_named named xs n h
  ]

  pub at_keep_other : (named : ℕ → Bool) (xs : List (Numbered V)) (n : ℕ) → named n ≡ false → at (keeping number_of named xs) n ≡ at xs n
  at_keep_other named [] n h = refl
  at_keep_other named (x ∷ xs) n h = elim (cases_Bool (named x.number)) [
    | inl t ↦
        ap (λ (u : List (Numbered V)). at u n) (cond-true (named x.number) (keeping number_of named xs) (x ∷ keeping number_of named xs) t)
        ∙ at_keep_other named xs n h ∙ sym (at_next x xs n (λ e. both_ways (named x.number) (ap named e ∙ h) t))
    | inr t ↦
        ap (λ (u : List (Numbered V)). at u n) (cond-false (named x.number) (keeping number_of named xs) (x ∷ keeping number_of named xs) t)
        ∙ at_more x (keeping number_of named xs) xs n (at_keep_other named xs n h)
  ]

  -- nothing stands below where the numbers rise from
  pub at_below : (from : ℕ) (xs : List (Numbered V)) (n : ℕ) → rising from (numbers xs) ≡ true → n < from → at xs n ≡ None
  at_below from [] n r h = refl
  at_below from (x ∷ xs) n r h =
      let p = and_parts _ _ r in
      let k : from ≤ x.number = leb-true _ _ p.0 in
      at_next x xs n (λ e. omega arith) ∙ at_below (x.number + 1) xs n p.1 (omega arith)

pub rising_from : (f g : ℕ) (ns : List ℕ) → rising g ns ≡ true → f ≤ g → rising f ns ≡ true
rising_from f g [] r h = refl
rising_from f g (n ∷ ns) r h =
    let p = and_parts _ _ r in
    let k : g ≤ n = leb-true _ _ p.0 in
    and_from _ _ (le-leb _ _ (omega arith)) p.1

module _ {V : Type 0} where
  pub rising_keep : (named : ℕ → Bool) (from : ℕ) (xs : List (Numbered V)) → rising from (numbers xs) ≡ true → rising from (numbers (keeping number_of named xs)) ≡ true
  rising_keep named from [] r = refl
  rising_keep named from (x ∷ xs) r =
      let p = and_parts _ _ r in
      let k : from ≤ x.number = leb-true _ _ p.0 in
      elim (cases_Bool (named x.number)) [
        | inl t ↦
            ap (λ (u : List (Numbered V)). rising from (numbers u)) (cond-true (named x.number) (keeping number_of named xs) (x ∷ keeping number_of named xs) t)
            ∙ rising_keep named from xs (rising_from from (x.number + 1) (numbers xs) p.1 (omega arith))
        | inr t ↦
            ap (λ (u : List (Numbered V)). rising from (numbers u)) (cond-false (named x.number) (keeping number_of named xs) (x ∷ keeping number_of named xs) t)
            ∙ and_from _ _ p.0 (rising_keep named (x.number + 1) xs p.1)
      ]

module _ {V : Type 0} where
  pub rising_put : (y : Numbered V) (from : ℕ) (xs : List (Numbered V)) → rising from (numbers xs) ≡ true → at xs y.number ≡ None → from ≤ y.number → rising from (numbers (putting number_of y xs)) ≡ true
  rising_put y from [] r none h = and_from _ _ (le-leb _ _ h) refl
  rising_put y from (x ∷ xs) r none h =
      let p = and_parts _ _ r in
      let ne : x.number ≡ y.number → ⊥ = λ e. never x.value (sym (at_here x xs y.number e) ∙ none) in
      elim (cases_Bool (ltb x.number y.number)) [
        | inl t ↦
            ap (λ (u : List (Numbered V)). rising from (numbers u)) (cond-true (ltb x.number y.number) (x ∷ putting number_of y xs) (y ∷ x ∷ xs) t)
            ∙ and_from _ _ p.0 (rising_put y (x.number + 1) xs p.1 (sym (at_next x xs y.number ne) ∙ none) (omega (arith, ltb-true _ _ t)))
        | inr t ↦
            ap (λ (u : List (Numbered V)). rising from (numbers u)) (cond-false (ltb x.number y.number) (x ∷ putting number_of y xs) (y ∷ x ∷ xs) t)
            ∙ and_from _ _ (le-leb _ _ h) (and_from _ _ (le-leb _ _ (above x t ne)) p.1)
      ]
    where
      never : (v : V) → Some v ≡ None → ⊥
      never v e = let z : ◌≡◌ {A = ℕ} 0 1 = cc in omega arith

      above : (x : Numbered V) → ltb x.number y.number ≡ false → (x.number ≡ y.number → ⊥) → y.number + 1 ≤ x.number
      above x t ne = let g = ltb-false _ _ t in omega arith
