use Rattle.std.proofs.Common.{eqb, sym, ◌∙◌, rules}
use Rattle.std.proofs.lemmas.Iterator.{YieldsList-from_slice}
use Rattle.std.proofs.lemmas.Iterator.Search.{find_from_yields_List}
use Rattle.keyed.proofs.Turns.{find_is}
use Rattle.keyed.proofs.lists.find.Goals as goal

pub returns : goal.returns
returns g c =
    c.copied.ensures
    ∙ find_from_yields_List (λ x. eqb (g.T.ByNumber.key x) c.args.number) _ _ _ c.find.ensures.ran (YieldsList-from_slice c.args.list.now cc) (λ x b q k. search rules)
    ∙ sym (find_is g.T.ByNumber.key c.args.list.now c.args.number)
