use Rattle.std.proofs.Common.{sym, ◌∙◌}
use Rattle.std.proofs.lemmas.List.{length-map}
use Rattle.bounded.specs.Items.{items}
use Rattle.channels.specs.Holdings.{channel_row}
use Rattle.channels.proofs.held.Channels.count.Goals as goal

pub returns : goal.returns
returns c = c.len.ensures.count ∙ sym (length-map (items c.args.self.now.list) channel_row)
