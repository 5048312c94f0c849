-- The group of a refused row, one more set looked at.
use Rattle.std.proofs.Common.{◌≡◌, ℕ, ◌+◌, ◌<◌, ◌≢◌, ◌⊎◌, true, false, List, sym, ◌∙◌, inl, inr, arith}
use Rattle.std.proofs.lemmas.Bool.{cases_eq}
use Rattle.std.proofs.lemmas.Bool.Decides.{nat_tests}
use Rattle.bounded.specs.Bit.{bit}
use Rattle.matching.specs.Calls.{at}
use Rattle.matching.specs.Verdicts.{Grouped}

module _ {holder : List ℕ} {visited r g s : ℕ} (old : Grouped holder visited r g s) where
  later : {q : ℕ} → (q ≡ r) ⊎ ((u : ℕ) × (u < s) × (bit visited u ≡ true) × (at holder u ≡ q)) → (q ≡ r) ⊎ ((u : ℕ) × (u < s + 1) × (bit visited u ≡ true) × (at holder u ≡ q))
  later (inl e) = inl e
  later (inr u) = inr (u.0, omega (arith, u.1), u.2, u.3)

  -- it is not visited
  pub grouped_past : bit visited s ≡ false → Grouped holder visited r g (s + 1)
  grouped_past off = record {
    root = old.root;
    rows = λ t l v. grind (arith, nat_tests, old.rows t);
    back = λ q b. later (old.back q b);
  }

  -- its row joined the group
  pub grouped_more : {next : ℕ} → bit visited s ≡ true → bit next (at holder s) ≡ true → ((q : ℕ) → (q ≢ at holder s) → bit next q ≡ bit g q) → Grouped holder visited r next (s + 1)
  grouped_more on here other = record {
    root = grind (arith, nat_tests, other r, old.root);
    rows = λ t l v. grind (arith, nat_tests, old.rows t, other (at holder t));
    back = λ q b. elim (cases_eq q (at holder s)) [ inl e ↦ inr (s, omega arith, on, sym e) | inr ne ↦ later (old.back q (sym (other q ne) ∙ b)) ];
  }
