use Rattle.std.proofs.Common.{sym, ◌∙◌}
use Rattle.std.proofs.lemmas.List.{at_drop_all}
use Rattle.keyed.specs.Keyed.{at}
use Rattle.table.specs.Sets.{entries_of}
use Rattle.search.specs.Carrying.{covering}
use Rattle.search.specs.Lists.{first_pass}
use Rattle.search.proofs.Firsts.{first_here, first_past, first_missing}
use Rattle.search.proofs.seats.first_covering.Goals as goal

pub loop-m-preserved-in_default : goal.loop-m-preserved-in_default
loop-m-preserved-in_default g c =
    first_missing (g.J.Judge.covers c.args.judge.now) (entries_of c.args.table.now) c.args.proposal.now c.args.members.now c.loop-m.m-index c.loop-m-test.true _ c.loop-m.invariant (sym c.entry.ensures ∙ c.in_default.is)

pub returns-then-does_cover : goal.returns-then-does_cover
returns-then-does_cover g c =
    first_here (g.J.Judge.covers c.args.judge.now) (entries_of c.args.table.now) c.args.proposal.now c.args.members.now c.loop-m.m-index c.loop-m-test.true _ c.loop-m.invariant c.in-Some.capability (sym c.entry.ensures ∙ c.in-Some.is) (sym c.if-does_cover.ensures)

pub loop-m-preserved : goal.loop-m-preserved
loop-m-preserved g c =
    first_past (g.J.Judge.covers c.args.judge.now) (entries_of c.args.table.now) c.args.proposal.now c.args.members.now c.loop-m.m-index c.loop-m-test.true _ c.loop-m.invariant c.in-Some.capability (sym c.entry.ensures ∙ c.in-Some.is) (sym c.if-does_cover.ensures)

pub returns : goal.returns
returns g c =
    sym (at_drop_all (first_pass (λ m. covering (g.J.Judge.covers c.args.judge.now) c.args.proposal.now (at (entries_of c.args.table.now) m))) c.args.members.now c.loop-m.m-index c.loop-m-test.false) ∙ c.loop-m.invariant
