use Rattle.std.proofs.Common.{is_some, sym, ap, ◌∙◌}
use Rattle.bounded.specs.Items.{items}
use Rattle.channels.proofs.Amends.{found, some_held}
use Rattle.channels.proofs.held.Channels.holds.Goals as goal

pub returns : goal.returns
returns c =
    c.is_some.ensures ∙ some_held c.find.result ∙ sym (ap is_some (found _ (items c.args.self.now.list) c.args.number c.find.result c.as_slice.ensures.list c.find.ensures))
