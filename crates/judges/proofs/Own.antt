-- The own-kind judge's tests mean its rule.
use Rattle.std.proofs.Common.{arith}
use Rattle.std.proofs.lemmas.Bool.Decides.{nat_tests}
use Rattle.judges.proofs.Masks.{mask_means}
use Rattle.judges.specs.Laws.{OwnLawfulMeans, OwnCoversMeans}
use Rattle.judges.specs.Rules.{OwnLawful, OwnCovers}

pub own_lawful_means : OwnLawfulMeans
own_lawful_means code ceiling below c = (λ h. grind (arith, nat_tests, OwnLawful.own, OwnLawful.passed), λ h. grind (arith, nat_tests))

pub own_covers_means : OwnCoversMeans
own_covers_means code ceiling below c w = (
  λ h. grind (arith, nat_tests, mask_means w.q c.q, OwnCovers.own, OwnCovers.passed),
  λ h. grind (arith, nat_tests, mask_means w.q c.q),
)
