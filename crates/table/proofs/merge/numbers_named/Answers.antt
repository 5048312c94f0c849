use Rattle.std.proofs.Common.{ap, ◌∙◌, refl}
use Rattle.bounded.specs.Numbers.{holds}
use Rattle.records.specs.Reads.{says}
use Rattle.records.proofs.Rows.{says_none}
use Rattle.table.proofs.Marks.{marked_none, marked_all, marked_twice, marked_more, reads_one, reads_none}
use Rattle.table.proofs.merge.numbers_named.Goals as goal

pub loop-record-init : goal.loop-record-init
loop-record-init g c = (tt, tt, λ numbers lists. rw c.into_iter-record-iterator.ensures.into_iter_gives (marked_none _ _ c.new-named.ensures))

pub returns-then-not-insert : goal.returns-then-not-insert
returns-then-not-insert g c = λ numbers lists.
    let m = reads_one lists (holds c.loop-record.named) (numbers (says c.args.message)) _ c.said.result c.in-Some.ensures.steps c.said.ensures c.in-Some-number.n c.in-Some-number.ensures (c.loop-record.invariant.2 numbers lists) in
    (refl, marked_twice (holds c.loop-record.named) c.in-Some-number.n _ _ c.if-not-insert.ensures.fresh m)

pub loop-record-preserved-else-not-insert : goal.loop-record-preserved-else-not-insert
loop-record-preserved-else-not-insert g c = (
  tt,
  tt,
  λ numbers lists.
      let m = reads_one lists (holds c.loop-record.named) (numbers (says c.args.message)) _ c.said.result c.in-Some.ensures.steps c.said.ensures c.in-Some-number.n c.in-Some-number.ensures (c.loop-record.invariant.2 numbers lists) in
      marked_more (holds c.loop-record.named) (holds c.insert.new.self) c.in-Some-number.n (c.insert.ensures.held c.if-not-insert.false) _ _ c.if-not-insert.ensures.fresh m,
)

pub loop-record-preserved : goal.loop-record-preserved
loop-record-preserved g c = (
  tt,
  tt,
  λ numbers lists. reads_none lists (holds c.loop-record.named) (numbers (says c.args.message)) _ c.said.result c.in-Some.ensures.steps c.said.ensures c.in_default.ensures (c.loop-record.invariant.2 numbers lists),
)

pub returns : goal.returns
returns g c = λ numbers lists. marked_all (holds c.loop-record.named) _ _ (ap numbers (says_none _ c.in-None.ensures.steps.0) ∙ lists.none) (c.loop-record.invariant.2 numbers lists)
