use Rattle.std.proofs.Common.{List, map, take, sym, subst, arith}
use Rattle.std.proofs.lemmas.List.{length-map, take-map}
use Rattle.judges.specs.declared.words.Proposal.{Proposal}
use Rattle.table.specs.Sets.{standing}
use Rattle.search.specs.Answers.{Outcome}
use Rattle.search.proofs.Front.{found_few}
use Rattle.search.proofs.call.find.Goals as goal

pub returns : goal.returns
returns g c =
    let t = c.args.table.now in
    let covers = g.J.Judge.covers c.args.judge.now in
    let rows = c.args.rows.now in
    let ps = map g.R.Row.asks rows in
    let n = c.min.result in
    let o = c.search_each.ensures covers (map g.R.Row.asks (take n rows)) c.cover-covers.ensures t.ordered t.arranged in
    found_few covers t ps n c.search_each.result (omega (arith, c.min.ensures, length-map rows g.R.Row.asks))
    (subst (λ (qs : List Proposal). Outcome covers (standing t) qs c.search_each.result) (sym (take-map g.R.Row.asks n rows)) o)
