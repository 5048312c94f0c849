-- What is held at a number after one number was amended.
use Rattle.std.proofs.Common.{◌≡◌, ℕ, true, eqb, List, Option, sym, refl, ap, ◌∙◌}
use Rattle.std.proofs.lemmas.Bool.{cond-true, cond-false, eq-eqb, ne_eqb}
use Rattle.channels.specs.Held.{asked, shall}
use Rattle.channels.specs.Holdings.{Holding}
use Rattle.judges.specs.declared.words.Proposal.{Proposal}
use Rattle.keyed.specs.Keyed.{Numbered, Word, silent, said, afterwards, After, at, rising, numbers}
use Rattle.keyed.specs.Merge.{merging}
use Rattle.keyed.proofs.Merged.{merging_after}

module _ (xs ys : List (Numbered Holding)) (n : ℕ) (o : Option Holding) (after : After xs (shall n o) ys) where
  pub at_amended : at ys n ≡ o
  at_amended = after.stands n ∙ ap (λ (v : Word Holding). afterwards v (at xs n)) (cond-true (eqb n n) (said o) silent (eq-eqb n n refl))

  pub at_others : (m : ℕ) → (m ≡ n → ⊥) → at ys m ≡ at xs m
  at_others m ne = after.stands m ∙ ap (λ (v : Word Holding). afterwards v (at xs m)) (cond-false (eqb n m) (said o) silent (ne_eqb n m (λ e. ne (sym e))))

-- there are channels that an ask concerns
pub concerned_some : (xs : List (Numbered Holding)) (n : ℕ) (p : Proposal) → rising 0 (numbers xs) ≡ true → (ys : List (Numbered Holding)) × After xs (asked n p) ys
concerned_some xs n p up = (merging (asked n p) xs, merging_after (asked n p) xs refl up)
