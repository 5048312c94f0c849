-- The first refusal is one, and checks in a row are met one after another.
use mathlib.Core.Path.{◌≡◌, sym, ◌∙◌}
use mathlib.Core.List.{List, [], ◌∷◌, ◌++◌}
use mathlib.Core.Logic.{inl, inr}
use Rattle.refusals.specs.declared.refusal.Refusal.{Refusal}
use Rattle.refusals.specs.Checks.{Check, First, Passed}

pub first_one : (cs : List Check) (j k : Refusal) → First cs j → First cs k → j ≡ k
first_one [] j k f g = absurd f
first_one (c ∷ cs) j k (inl f) (inl g) = f.0 ∙ sym g.0
first_one (c ∷ cs) j k (inl f) (inr g) = absurd (f.1 g.0)
first_one (c ∷ cs) j k (inr f) (inl g) = absurd (g.1 f.0)
first_one (c ∷ cs) j k (inr f) (inr g) = first_one cs j k f.1 g.1

-- a call that is refused does not pass
pub first_fails : (cs : List Check) (k : Refusal) → First cs k → Passed cs → ⊥
first_fails [] k f p = f
first_fails (c ∷ cs) k (inl f) p = f.1 p.0
first_fails (c ∷ cs) k (inr f) p = first_fails cs k f.1 p.1

module _ (ds : List Check) where
  -- what is refused early stays refused, whatever checks come after
  pub first_early : (cs : List Check) (k : Refusal) → First cs k → First (cs ++ ds) k
  first_early [] k f = absurd f
  first_early (c ∷ cs) k (inl f) = inl f
  first_early (c ∷ cs) k (inr f) = inr (f.0, first_early cs k f.1)

  pub first_later : (cs : List Check) (k : Refusal) → Passed cs → First ds k → First (cs ++ ds) k
  first_later [] k p f = f
  first_later (c ∷ cs) k p f = inr (p.0, first_later cs k p.1 f)

  pub passed_both : (cs : List Check) → Passed cs → Passed ds → Passed (cs ++ ds)
  passed_both [] p q = q
  passed_both (c ∷ cs) p q = (p.0, passed_both cs p.1 q)

  -- checks in a row are met: so are the last of them
  pub passed_last : (cs : List Check) → Passed (cs ++ ds) → Passed ds
  passed_last [] p = p
  passed_last (c ∷ cs) p = passed_last cs p.1
