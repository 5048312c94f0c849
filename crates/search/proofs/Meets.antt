-- Masks of entries meet where a set can be used.
use Rattle.std.proofs.Common.{◌≡◌, ℕ, zero, suc, ◌+◌, ◌<◌, ◌≤◌, Bool, true, false, not, ◌&&◌, eqb, leb, List, [], ◌∷◌, length, Some, None, Option, sym, refl, ap, ◌∙◌, inl, inr, arith}
use lib.Bits.{bit_and}
use Rattle.std.proofs.lemmas.Bool.Decides.{nat_tests}
use Rattle.std.proofs.lemmas.Bool.{cases_Bool, both_ways, and_parts, and_from, or_cases, or_left, or_right, eq-eqb, eqb-true, cond-true, cond-false}
use Rattle.bounded.specs.Bit.{bit}
use Rattle.bounded.proofs.Mask.{bit_zero}
use Rattle.judges.specs.declared.words.Capability.{Capability}
use Rattle.judges.specs.declared.words.Proposal.{Proposal}
use Rattle.matching.proofs.Bits.{bit_of_and, some_bit}
use Rattle.matching.proofs.Count.{any_from, any_some}
use Rattle.keyed.specs.Keyed.{Numbered, at, among, rising, numbers}
use Rattle.keyed.proofs.Lookups.{at_here}
use Rattle.search.specs.Carrying.{covering, usable}
use Rattle.search.specs.Filling.{Covering, Placing, meeting}
use Rattle.search.specs.Lists.{At, some_pass, passes_at}
use Rattle.search.proofs.Places.{pass_at, pass_some}

-- two tests that imply each other are one
pub same_test : (a b : Bool) → (a ≡ true → b ≡ true) → (b ≡ true → a ≡ true) → a ≡ b
same_test true b f g = sym (f refl)
same_test false true f g = g refl
same_test false false f g = refl

-- the masks have a bit in common where an entry is a member and is marked
pub meets : (es : List (Numbered Capability)) (members : List ℕ) (places cover : ℕ) → Placing es members places → not (eqb (bit_and places cover) 0) ≡ meeting es members cover
meets es members places cover h = same_test _ _ there back
  where
    there : not (eqb (bit_and places cover) 0) ≡ true → meeting es members cover ≡ true
    there e =
        let some : 0 < bit_and places cover = grind (arith, nat_tests) in
        let low = some_bit (bit_and places cover) some in
        let k = low.0 in
        let two = and_parts (bit places k) (bit cover k) (sym (bit_of_and places cover k) ∙ low.1) in
        let member = sym (h k) ∙ two.0 in
        let stands = pass_some (λ (x : Numbered Capability). among x.number members) es k member in
        any_from (λ j. passes_at (λ x. among x.number members) es j && bit cover j) (length es) k stands.1.0 (and_from _ _ member two.1)

    back : meeting es members cover ≡ true → not (eqb (bit_and places cover) 0) ≡ true
    back e =
        let s = any_some (λ j. passes_at (λ x. among x.number members) es j && bit cover j) (length es) e in
        let two = and_parts (passes_at (λ (x : Numbered Capability). among x.number members) es s.0) (bit cover s.0) s.2 in
        let on : bit (bit_and places cover) s.0 ≡ true = bit_of_and places cover s.0 ∙ and_from _ _ (h s.0 ∙ two.0) two.1 in
        grind (arith, nat_tests, bit_zero s.0)

-- what stands at a number stands at a place
found : (es : List (Numbered Capability)) (m : ℕ) (c : Capability) → at es m ≡ Some c → (k : ℕ) × ((e : Numbered Capability) × At e es k × (e.number ≡ m) × (e.value ≡ c))
found [] m c e = let z : ◌≡◌ {A = ℕ} 0 1 = cc in absurd (omega arith)
found (x ∷ es) m c e = elim (cases_Bool (eqb x.number m)) [
  | inl t ↦ (0, (x, (omega arith, refl), eqb-true _ _ t, (let s = cond-true (eqb x.number m) (Some x.value) (at es m) t in cc)))
  | inr t ↦
      let h = found es m c (sym (cond-false (eqb x.number m) (Some x.value) (at es m) t) ∙ e) in
      (suc h.0, (h.1.0, (omega (arith, h.1.1.0), h.1.1.1), h.1.2, h.1.3))
]

-- by rising number, none before a place has a greater number
pub below : {V : Type 0} (from : ℕ) (xs : List (Numbered V)) (k : ℕ) (e : Numbered V) → rising from (numbers xs) ≡ true → At e xs k → from ≤ e.number
below from [] k e r a = absurd (omega (arith, a.0))
below {V = V} from (x ∷ xs) zero e r a = grind (arith, nat_tests, ap (λ (y : Numbered V). y.number) a.1)
below from (x ∷ xs) (suc k) e r a = grind (arith, nat_tests, λ (h : rising (x.number + 1) (numbers xs) ≡ true). below (x.number + 1) xs k e h (omega (arith, a.0), a.1))

-- and what stands at a place is found by its number
placed : (from : ℕ) (es : List (Numbered Capability)) (k : ℕ) (e : Numbered Capability) → rising from (numbers es) ≡ true → At e es k → at es e.number ≡ Some e.value
placed from [] k e r a = absurd (omega (arith, a.0))
placed from (x ∷ es) zero e r a = at_here x es e.number (ap (λ (y : Numbered Capability). y.number) a.1) ∙ ap (λ (y : Numbered Capability). Some y.value) a.1
placed from (x ∷ es) (suc k) e r a =
    let p = and_parts (leb from x.number) (rising (x.number + 1) (numbers es)) r in
    grind (arith, nat_tests, below (x.number + 1) es k e p.1 (omega (arith, a.0), a.1), placed (x.number + 1) es k e p.1 (omega (arith, a.0), a.1))

-- a member that passes, and the other way round
some_among : (Q : ℕ → Bool) (n : ℕ) (ms : List ℕ) → among n ms ≡ true → Q n ≡ true → some_pass Q ms ≡ true
some_among Q n [] a q = absurd (both_ways false refl a)
some_among Q n (m ∷ ms) a q = grind (arith, nat_tests, some_among Q n ms, ap Q)

among_some : (Q : ℕ → Bool) (ms : List ℕ) → some_pass Q ms ≡ true → (m : ℕ) × (among m ms ≡ true) × (Q m ≡ true)
among_some Q [] e = absurd (both_ways false refl e)
among_some Q (m ∷ ms) e = elim (or_cases (Q m) (some_pass Q ms) e) [
  | inl q ↦ (m, or_left (eqb m m) _ (eq-eqb m m refl), q)
  | inr q ↦ let h = among_some Q ms q in (h.0, or_right (eqb m h.0) _ h.1, h.2)
]

some_covers : (covers : Capability → Proposal → Bool) (p : Proposal) (o : Option Capability) → covering covers p o ≡ true → (c : Capability) × (o ≡ Some c) × (covers c p ≡ true)
some_covers covers p None e = absurd (both_ways false refl e)
some_covers covers p (Some c) e = (c, refl, e)

-- a set meets what covers a proposal where it can be used for it
pub meeting_usable : (covers : Capability → Proposal → Bool) (es : List (Numbered Capability)) (members : List ℕ) (p : Proposal) (cover : ℕ) → rising 0 (numbers es) ≡ true → Covering covers es p cover
    → meeting es members cover ≡ usable covers es members p
meeting_usable covers es members p cover r h = same_test _ _ there back
  where
    there : meeting es members cover ≡ true → usable covers es members p ≡ true
    there e =
        let s = any_some (λ j. passes_at (λ x. among x.number members) es j && bit cover j) (length es) e in
        let two = and_parts (passes_at (λ (x : Numbered Capability). among x.number members) es s.0) (bit cover s.0) s.2 in
        let m = pass_some (λ (x : Numbered Capability). among x.number members) es s.0 two.0 in
        let c : covers m.0.value p ≡ true = sym (pass_at (λ (x : Numbered Capability). covers x.value p) es s.0 m.0 m.1) ∙ sym (h s.0) ∙ two.1 in
        some_among (λ n. covering covers p (at es n)) m.0.number members m.2 (ap (covering covers p) (placed 0 es s.0 m.0 r m.1) ∙ c)

    back : usable covers es members p ≡ true → meeting es members cover ≡ true
    back e =
        let s = among_some (λ n. covering covers p (at es n)) members e in
        let c = some_covers covers p (at es s.0) s.2 in
        let f = found es s.0 c.0 c.1 in
        let k = f.0 in
        let x = f.1.0 in
        any_from (λ j. passes_at (λ y. among y.number members) es j && bit cover j) (length es) k f.1.1.0
        (and_from _ _
        (pass_at (λ (y : Numbered Capability). among y.number members) es k x f.1.1 ∙ ap (λ n. among n members) f.1.2 ∙ s.1)
        (h k ∙ pass_at (λ (y : Numbered Capability). covers y.value p) es k x f.1.1 ∙ ap (λ (d : Capability). covers d p) f.1.3 ∙ c.2))
