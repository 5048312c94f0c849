use Rattle.judges.proofs.Table.{standard_lawful_means, standard_covers_means}
use Rattle.judges.proofs.laws.standard_rules_stand.Goals as goal

pub returns : goal.returns
returns c = record { lawful = standard_lawful_means; covers = standard_covers_means }
