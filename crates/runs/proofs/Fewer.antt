-- Where channels are carried, fewer of them are.
use Rattle.std.proofs.Common.{◌≡◌, ℕ, zero, suc, ◌+◌, ◌<◌, Bool, true, cond, eqb, leb, List, [], ◌∷◌, length, Some, sym, refl, ap, ◌∙◌, subst, inl, inr, arith}
use Rattle.std.proofs.lemmas.List.{length-map}
use Rattle.std.proofs.lemmas.Bool.{cases_Bool, cond-true, cond-false, eqb-true, eqb-false, and_parts, cases_lt}
use Rattle.channels.specs.Holdings.{Holding, proposals}
use Rattle.judges.specs.declared.words.Capability.{Capability}
use Rattle.judges.specs.declared.words.Proposal.{Proposal}
use Rattle.keyed.specs.Keyed.{Numbered, at, rising, numbers}
use Rattle.keyed.proofs.Lookups.{at_here, at_next, at_below}
use Rattle.search.specs.Carrying.{Carries, usable}
use Rattle.search.specs.Lists.{At}
use Rattle.search.proofs.Bridge.{at_some}
use Rattle.search.proofs.Covers.{at_one, at_map, at_mapped}
use Rattle.session.specs.Rules.{Carried}
use Rattle.table.specs.Sets.{Standing}

-- a place of each proposal in a longer list
pub record PlacedIn (ps qs : List Proposal) : Type 0 where
  pub place : ℕ → ℕ
  pub same : (r : ℕ) (p : Proposal) → At p qs r → At p ps (place r)
  pub own : (r q : ℕ) → r < length qs → q < length qs → place r ≡ place q → r ≡ q

module _ (can : List ℕ → Proposal → Bool) (sets : List (List ℕ)) (ps qs : List Proposal) (at_place : PlacedIn ps qs) where
  pub carries_fewer : Carries can sets ps → Carries can sets qs
  carries_fewer c =
      record {
        seat = λ r. c.seat (at_place.place r);
        fits = λ r p a. c.fits (at_place.place r) p (at_place.same r p a);
        own = λ r q lr lq e.
            let a = at_some qs r lr in
            let b = at_some qs q lq in
            at_place.own r q lr lq (c.own (at_place.place r) (at_place.place q) (at_place.same r a.0 a.1).0 (at_place.same q b.0 b.1).0 e);
      }

-- the place at which a number stands
abbrev place_of : ℕ → List (Numbered Holding) → ℕ
place_of n [] = 0
place_of n (x ∷ xs) = cond (eqb x.number n) 0 (suc (place_of n xs))

place_at : (n : ℕ) (x : Holding) (xs : List (Numbered Holding)) → at xs n ≡ Some x → (y : Numbered Holding) × At y xs (place_of n xs) × (y.number ≡ n) × (y.value ≡ x)
place_at n x [] e = absurd (let z : ◌≡◌ {A = ℕ} 0 1 = cc in omega arith)
place_at n x (y ∷ ys) e = elim (cases_Bool (eqb y.number n)) [
  | inl t ↦
      let here : place_of n (y ∷ ys) ≡ 0 = cond-true (eqb y.number n) 0 (suc (place_of n ys)) t in
      let same : Some y.value ≡ Some x = sym (at_here y ys n (eqb-true _ _ t)) ∙ e in
      let value : y.value ≡ x = cc in
      (y, subst (At y (y ∷ ys)) (sym here) (omega arith, refl), eqb-true _ _ t, value)
  | inr t ↦
      let next : place_of n (y ∷ ys) ≡ suc (place_of n ys) = cond-false (eqb y.number n) 0 (suc (place_of n ys)) t in
      let (z, a, num, val) = place_at n x ys (sym (at_next y ys n (eqb-false _ _ t)) ∙ e) in
      (z, subst (At z (y ∷ ys)) (sym next) (omega (arith, a.0), a.1), num, val)
]

-- in a list by rising number, what stands at a place stands at its number
at_number : (f : ℕ) (xs : List (Numbered Holding)) → rising f (numbers xs) ≡ true → (r : ℕ) (x : Numbered Holding) → At x xs r → at xs x.number ≡ Some x.value
at_number f [] up r x a = absurd (omega (arith, a.0))
at_number f (y ∷ ys) up zero x a = at_here y ys x.number (ap (λ (z : Numbered Holding). z.number) a.1) ∙ ap (λ (z : Numbered Holding). Some z.value) a.1
at_number f (y ∷ ys) up (suc r) x a =
    let p = and_parts (leb f y.number) (rising (y.number + 1) (numbers ys)) up in
    let b : At x ys r = (omega (arith, a.0), a.1) in
    let rest = at_number (y.number + 1) ys p.1 r x b in
    at_next y ys x.number (λ e. elim (cases_lt x.number (y.number + 1)) [
      | inl l ↦ let none = at_below (y.number + 1) ys x.number p.1 l in let z : ◌≡◌ {A = ℕ} 0 1 = cc in omega arith
      | inr l ↦ omega arith
    ]) ∙ rest

module _ (xs ys : List (Numbered Holding)) (up : rising 0 (numbers xs) ≡ true) (rise : rising 0 (numbers ys) ≡ true)
    (among : (n : ℕ) (y : Holding) → at ys n ≡ Some y → (x : Holding) × (at xs n ≡ Some x) × (x.proposal ≡ y.proposal)) where
  -- the place in xs of the number at a place of ys
  number_at : ℕ → List (Numbered Holding) → ℕ
  number_at r [] = 0
  number_at zero (z ∷ zs) = z.number
  number_at (suc r) (z ∷ zs) = number_at r zs

  number_at_row : (r : ℕ) (zs : List (Numbered Holding)) (z : Numbered Holding) → At z zs r → number_at r zs ≡ z.number
  unfolding number_at
  number_at_row r [] z a = absurd (omega (arith, a.0))
  number_at_row zero (y ∷ zs) z a = ap (λ (v : Numbered Holding). v.number) a.1
  number_at_row (suc r) (y ∷ zs) z a = number_at_row r zs z (omega (arith, a.0), a.1)

  moves : ℕ → ℕ
  moves r = place_of (number_at r ys) xs

  -- the row of xs that stands where a row of ys is moved
  moved : (r : ℕ) (y : Numbered Holding) → At y ys r → (x : Numbered Holding) × At x xs (moves r) × (x.number ≡ y.number) × (x.value.proposal ≡ y.value.proposal)
  unfolding moves
  moved r y a =
      let (x, here, same) = among y.number y.value (at_number 0 ys rise r y a) in
      let (z, b, num, val) = place_at y.number x xs here in
      (z, subst (λ (k : ℕ). At z xs (place_of k xs)) (sym (number_at_row r ys y a)) b, num, ap (λ (v : Holding). v.proposal) val ∙ same)

  one_place : (r q : ℕ) (y z : Numbered Holding) → At y ys r → At z ys q → y.number ≡ z.number → r ≡ q
  one_place r q y z a b e = places 0 ys rise r q y z a b e
    where
      later : (f : ℕ) (v : Numbered Holding) (zs : List (Numbered Holding)) → rising f (numbers (v ∷ zs)) ≡ true → (q : ℕ) (y z : Numbered Holding) → At y (v ∷ zs) 0 → At z zs q → y.number ≡ z.number → ⊥
      later f v zs up q y z a b e =
          let p = and_parts (leb f v.number) (rising (v.number + 1) (numbers zs)) up in
          let first : v.number ≡ y.number = ap (λ (u : Numbered Holding). u.number) a.1 in
          elim (cases_lt z.number (v.number + 1)) [
            | inl l ↦ let none = at_below (v.number + 1) zs z.number p.1 l in let some = at_number (v.number + 1) zs p.1 q z b in let z : ◌≡◌ {A = ℕ} 0 1 = cc in omega arith
            | inr l ↦ omega arith
          ]

      places : (f : ℕ) (zs : List (Numbered Holding)) → rising f (numbers zs) ≡ true → (r q : ℕ) (y z : Numbered Holding) → At y zs r → At z zs q → y.number ≡ z.number → r ≡ q
      places f [] up r q y z a b e = absurd (omega (arith, a.0))
      places f (v ∷ zs) up zero zero y z a b e = refl
      places f (v ∷ zs) up zero (suc q) y z a b e = absurd (later f v zs up q y z a (omega (arith, b.0), b.1) e)
      places f (v ∷ zs) up (suc r) zero y z a b e = absurd (later f v zs up r z y b (omega (arith, a.0), a.1) (sym e))
      places f (v ∷ zs) up (suc r) (suc q) y z a b e =
          let p = and_parts (leb f v.number) (rising (v.number + 1) (numbers zs)) up in
          ap suc (places (v.number + 1) zs p.1 r q y z (omega (arith, a.0), a.1) (omega (arith, b.0), b.1) e)

  fewer : PlacedIn (proposals xs) (proposals ys)
  fewer =
      record {
        place = moves;
        same = λ r p a.
            let (y, b, is) = at_map (λ x. x.value.proposal) ys r p a in
            let (x, c, num, prop) = moved r y b in
            subst (λ (q : Proposal). At q (proposals xs) (moves r)) (prop ∙ is) (at_mapped (λ x. x.value.proposal) xs (moves r) x c);
        own = λ r q lr lq e.
            let (y, a) = at_some ys r (omega (arith, length-map ys (λ x. x.value.proposal))) in
            let (z, b) = at_some ys q (omega (arith, length-map ys (λ x. x.value.proposal))) in
            let (u, c, nu, _) = moved r y a in
            let (v, d, nv, _) = moved q z b in
            let both : u ≡ v = at_one xs (moves r) u v c (subst (At v xs) (sym e) d) in
            one_place r q y z a b (sym nu ∙ ap (λ (w : Numbered Holding). w.number) both ∙ nv);
      }

  -- channels among those that are carried are carried
  pub carried_fewer : (covers : Capability → Proposal → Bool) (t : Standing) → Carried covers t (proposals xs) → Carried covers t (proposals ys)
  carried_fewer covers t (inr (d, i, c)) = inr (d, i, carries_fewer (usable covers t.entries) d.value (proposals xs) (proposals ys) fewer c)
  carried_fewer covers t (inl e) = inl (none ys (λ n y h. empty xs e n (among n y h).0 (among n y h).1))
    where
      empty : (zs : List (Numbered Holding)) → proposals zs ≡ [] → (n : ℕ) (z : Holding) → at zs n ≡ Some z → ⊥
      empty [] e n z h = let q : ◌≡◌ {A = ℕ} 0 1 = cc in omega arith
      empty (v ∷ zs) e n z h = omega (arith, ap length e)

      none : (zs : List (Numbered Holding)) → ((n : ℕ) (y : Holding) → at zs n ≡ Some y → ⊥) → proposals zs ≡ []
      none [] h = refl
      none (v ∷ zs) h = absurd (h v.number v.value (at_here v zs v.number refl))
