use Rattle.std.proofs.Common.{rules}
use Rattle.std.proofs.lemmas.Fn.{filter_same}
use Rattle.keyed.proofs.Turns.{keeping_is}
use Rattle.keyed.proofs.lists.kept.Goals as goal

pub returns : goal.returns
returns g c = rw keeping_is (filter_same _ _ _ (λ x b f' k. search rules) _ _ c.retain.ensures)
