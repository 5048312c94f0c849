use Rattle.session.proofs.Settles.{closed}
use Rattle.session.proofs.state.Session.close.Goals as goal

pub returns : goal.returns
returns g c = closed g.J.Judge.lawful g.J.Judge.covers c.args.self.now c.args.channel c.meet.result c.meet.new.self c.meet.ensures
