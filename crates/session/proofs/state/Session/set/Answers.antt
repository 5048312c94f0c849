use Rattle.std.proofs.Common.{[], refl, inl, arith}
use Rattle.refusals.specs.declared.refusal.Refusal.TheVariants.{Scratch}
use Rattle.session.specs.Calls.{set}
use Rattle.session.proofs.Ending.{refuses}
use Rattle.session.proofs.state.Session.set.Goals as goal

pub returns-then-scratch-lt-ROOM-clause-did : goal.returns-then-scratch-lt-ROOM-clause-did
returns-then-scratch-lt-ROOM-clause-did g c =
    refuses g.J.Judge.lawful g.J.Judge.covers c.args.self.now (set c.args.message.now c.args.scratch.now) Scratch [] (inl (refl, λ l. omega arith)) refl
