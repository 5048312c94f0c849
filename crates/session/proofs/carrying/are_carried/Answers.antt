use Rattle.std.proofs.Common.{List, sym, ◌∙◌, subst, inl}
use Rattle.bounded.specs.Items.{items}
use Rattle.channels.specs.Holdings.{Holding, proposals}
use Rattle.channels.specs.Held.{channels_of}
use Rattle.keyed.specs.Keyed.{Numbered}
use Rattle.search.specs.Answers.{Smallest, Notes}
use Rattle.table.specs.Sets.{standing}
use Rattle.session.proofs.Carries.{none_proposed, not_carried, some_proposed, carried_by}
use Rattle.session.proofs.carrying.are_carried.Goals as goal

pub returns-then-count-eq0 : goal.returns-then-count-eq0
returns-then-count-eq0 g c = inl (none_proposed (channels_of c.args.channels.now) (sym c.count.ensures ∙ c.if-count-eq0.true))

pub returns-in-Carried : goal.returns-in-Carried
returns-in-Carried g c =
    let covers = g.J.Judge.covers c.args.judge.now in
    let t = standing c.args.table.now in
    let n = c.in-Carried.field-0 in
    let s : Smallest covers t (proposals (channels_of c.args.channels.now)) n = subst (λ (ys : List (Numbered Holding)). Smallest covers t (proposals ys) n) c.as_slice.ensures c.in-Carried.ensures in
    carried_by covers t (proposals (channels_of c.args.channels.now)) n s

pub returns-in_default : goal.returns-in_default
returns-in_default g c =
    let covers = g.J.Judge.covers c.args.judge.now in
    let t = standing c.args.table.now in
    let xs = channels_of c.args.channels.now in
    let n : Notes covers t (proposals xs) t.descriptors (items c.in_default.field-0) =
    subst (λ (ys : List (Numbered Holding)). Notes covers t (proposals ys) t.descriptors (items c.in_default.field-0)) c.as_slice.ensures c.in_default.ensures in
    not_carried covers t (proposals xs) (items c.in_default.field-0) (some_proposed xs (λ e. c.if-count-eq0.false (c.count.ensures ∙ e))) n
