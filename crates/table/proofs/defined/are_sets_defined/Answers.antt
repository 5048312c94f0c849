use Rattle.std.proofs.Common.{sym, ◌∙◌, rules}
use Rattle.std.specs.List.{list_all}
use Rattle.std.proofs.lemmas.Iterator.{YieldsList-from_slice}
use Rattle.std.proofs.lemmas.Iterator.Search.{all_from_yields_List}
use Rattle.std.proofs.lemmas.List.Folds.{list_all-map}
use Rattle.bounded.specs.Numbers.{holds}
use Rattle.table.specs.Rows.{members_of}
use Rattle.table.proofs.defined.are_sets_defined.Goals as goal

pub returns : goal.returns
returns c =
    let test = list_all (holds c.args.defined.now) in
    all_from_yields_List (λ s. test (members_of s)) _ _ _ c.all.ensures.ran (YieldsList-from_slice c.args.sets.now cc) (λ x b q k. search rules)
    ∙ sym (list_all-map test members_of c.args.sets.now)
