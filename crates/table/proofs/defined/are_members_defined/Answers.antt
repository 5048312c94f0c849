use Rattle.std.proofs.Common.{rules}
use Rattle.std.proofs.lemmas.Iterator.{YieldsList-from_slice}
use Rattle.std.proofs.lemmas.Iterator.Search.{all_from_yields_List}
use Rattle.bounded.specs.Numbers.{holds}
use Rattle.table.proofs.defined.are_members_defined.Goals as goal

pub returns : goal.returns
returns c = all_from_yields_List (holds c.args.defined.now) _ _ _ c.all.ensures.ran (YieldsList-from_slice c.args.members.now cc) (λ x b q k. search rules)
