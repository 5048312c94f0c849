use Rattle.std.proofs.Common.{◌∙◌}
use Rattle.records.specs.Reads.{rows}
use Rattle.records.proofs.Checked.{refused_length, refused_order, refused_field, passed}
use Rattle.records.proofs.check.check_message.Goals as goal

pub returns-then-not-is_sized : goal.returns-then-not-is_sized
returns-then-not-is_sized c = refused_length c.args.form c.args.message.now c.if-not-is_sized.ensures

pub returns-then-not-is_in_order : goal.returns-then-not-is_in_order
returns-then-not-is_in_order c =
    refused_order c.args.form c.args.message.now (rows c.over-records.result) c.over-records.ensures c.if-not-is_sized.ensures (c.if-not-is_in_order.ensures ∙ c.start.ensures _)

pub returns-then-not-are_in_range : goal.returns-then-not-are_in_range
returns-then-not-are_in_range c =
    refused_field c.args.form c.args.message.now (rows c.over-records.result) c.over-records.ensures c.if-not-is_sized.ensures (c.if-not-is_in_order.ensures ∙ c.start.ensures _) c.if-not-are_in_range.ensures

pub returns : goal.returns
returns c = (
  passed c.args.form c.args.message.now (rows c.over-records.result) c.over-records.ensures c.if-not-is_sized.ensures (c.if-not-is_in_order.ensures ∙ c.start.ensures _) c.if-not-are_in_range.ensures,
  c.over-records.ensures,
)
