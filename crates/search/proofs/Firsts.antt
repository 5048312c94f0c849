-- The first that passes, found one after another.
use Rattle.std.proofs.Common.{◌≡◌, ℕ, ◌+◌, ◌<◌, Bool, true, false, cond, List, [], ◌∷◌, length, get_or, drop, Some, None, Option, sym, refl, ap, ◌∙◌, arith}
use Rattle.std.proofs.lemmas.List.{at_drop_more}
use Rattle.std.proofs.lemmas.Bool.Decides.{nat_tests}
use Rattle.std.proofs.lemmas.Bool.{cond-true, cond-false}
use Rattle.judges.specs.declared.words.Capability.{Capability}
use Rattle.judges.specs.declared.words.Proposal.{Proposal}
use Rattle.keyed.specs.Keyed.{Numbered, at}
use Rattle.search.specs.Carrying.{covering}
use Rattle.search.specs.Lists.{first_pass, some_pass}

-- one after another: where the members from place i on have the first that covers, that is what was sought
module _ (covers : Capability → Proposal → Bool) (es : List (Numbered Capability)) (p : Proposal) (ms : List ℕ) (i : ℕ) (l : i < length ms) where
  abbrev passes : ℕ → Bool
  passes m = covering covers p (at es m)

  module _ (o : Option ℕ) (sought : first_pass passes (drop i ms) ≡ o) where
    turn : cond (passes (get_or ms i 0)) (Some (get_or ms i 0)) (first_pass passes (drop (i + 1) ms)) ≡ o
    turn = sym (at_drop_more (first_pass passes) ms i 0 l) ∙ sought

    pub first_here : (c : Capability) → at es (get_or ms i 0) ≡ Some c → covers c p ≡ true → Some (get_or ms i 0) ≡ o
    first_here c e t = sym (cond-true (passes (get_or ms i 0)) _ _ (ap (covering covers p) e ∙ t)) ∙ turn

    pub first_past : (c : Capability) → at es (get_or ms i 0) ≡ Some c → covers c p ≡ false → first_pass passes (drop (i + 1) ms) ≡ o
    first_past c e t = sym (cond-false (passes (get_or ms i 0)) _ _ (ap (covering covers p) e ∙ t)) ∙ turn

    pub first_missing : at es (get_or ms i 0) ≡ None → first_pass passes (drop (i + 1) ms) ≡ o
    first_missing e = sym (cond-false (passes (get_or ms i 0)) _ _ (ap (covering covers p) e)) ∙ turn

-- none is first where none passes
pub first_none : {X : Type 0} (P : X → Bool) (xs : List X) → first_pass P xs ≡ None → some_pass P xs ≡ false
first_none P [] e = refl
first_none P (x ∷ xs) e = grind (arith, nat_tests, first_none P xs)

-- the first member that covers, with the proposal and the members as they were read
pub first_read : (covers : Capability → Proposal → Bool) (es : List (Numbered Capability)) (p q : Proposal) (ms ns : List ℕ) (o : Option ℕ) → p ≡ q → ms ≡ ns → o ≡ first_pass (λ m. covering covers p (at es m)) ms → first_pass (λ m. covering covers q (at es m)) ns ≡ o
first_read covers es p q ms ns o e f r =
    sym (r ∙ ap (λ (w : Proposal). first_pass (λ m. covering covers w (at es m)) ms) e ∙ ap (first_pass (λ m. covering covers q (at es m))) f)
