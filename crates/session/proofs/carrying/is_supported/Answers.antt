use Rattle.std.proofs.Common.{List, subst, rules}
use Rattle.std.proofs.lemmas.Iterator.{YieldsList-from_slice}
use Rattle.std.proofs.lemmas.Iterator.Search.{any_from_yields_List}
use Rattle.judges.specs.declared.words.Capability.{Capability}
use Rattle.keyed.specs.Keyed.{Numbered}
use Rattle.table.specs.declared.held.Entry.{Entry}
use Rattle.session.specs.Rules.{Whether}
use Rattle.session.proofs.Carries.{Among, whether_among}
use Rattle.session.proofs.carrying.is_supported.Goals as goal

pub returns : goal.returns
returns g c =
    let covers = g.J.Judge.covers c.args.judge.now in
    let p = c.args.proposal.now in
    let es = c.entries.result.now in
    let any = any_from_yields_List (λ (e : Entry). covers e.capability p) _ _ c.any.result c.any.ensures.ran (YieldsList-from_slice es cc) (λ x b q k. search rules) in
    subst (λ (rows : List (Numbered Capability)). Whether c.any.result (Among covers p rows)) c.entries.ensures.list
    (rw any (whether_among covers p es))
