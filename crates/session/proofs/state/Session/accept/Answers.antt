use Rattle.session.proofs.Settles.{accepted}
use Rattle.session.proofs.state.Session.accept.Goals as goal

pub returns : goal.returns
returns g c =
    record {
      did = accepted g.J.Judge.lawful g.J.Judge.covers c.args.self.now c.spend.new.self c.args.pending.session c.args.pending.channel c.spend.result c.spend.ensures.settled;
      back = c.spend.ensures.back;
    }
