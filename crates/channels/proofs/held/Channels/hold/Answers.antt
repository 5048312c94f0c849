use Rattle.std.proofs.Common.{◌<◌, length, refl, arith}
use Rattle.bounded.specs.Items.{items}
use Rattle.channels.specs.Held.{channels_of, asked}
use Rattle.channels.proofs.Amends.{too_many}
use Rattle.channels.proofs.held.Channels.hold.Goals as goal

pub returns-then-len-gt16 : goal.returns-then-len-gt16
returns-then-len-gt16 c =
    let many : 16 < length (items c.concerned-list.result) = omega (arith, c.len.ensures.count) in
    record {
      held = tt;
      full = (refl, λ ys after. too_many (channels_of c.args.self.now) ys (asked c.args.number c.args.proposal) (items c.concerned-list.result) c.concerned-list.ensures many after);
    }
