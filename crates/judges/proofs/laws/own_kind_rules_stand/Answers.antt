use Rattle.judges.proofs.Masks.{mask_means}
use Rattle.judges.proofs.Own.{own_lawful_means, own_covers_means}
use Rattle.judges.proofs.laws.own_kind_rules_stand.Goals as goal

pub returns : goal.returns
returns c = record { lawful = own_lawful_means; covers = own_covers_means; mask = mask_means }
