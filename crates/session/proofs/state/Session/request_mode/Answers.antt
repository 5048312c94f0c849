use Rattle.session.proofs.Seats.{requested}
use Rattle.session.proofs.state.Session.request_mode.Goals as goal

pub returns : goal.returns
returns g c =
    record {
      did = requested g.J.Judge.lawful g.J.Judge.covers c.args.self.now c.args.message.now c.args.scratch.now c.request_mode.result c.request_mode.ensures.answer;
      scratch = c.request_mode.ensures.scratch;
    }
