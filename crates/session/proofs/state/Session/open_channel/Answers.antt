use Rattle.std.proofs.Common.{◌≡◌, ℕ, [], Ok, Result, subst, rules}
use Rattle.session.specs.declared.words.HandedBack.{HandedBack}
use Rattle.session.specs.Calls.{accept, done}
use Rattle.session.specs.Steps.{of_settling, Did}
use Rattle.session.proofs.Settles.{just_asked, accept_goes}
use Rattle.session.proofs.state.Session.open_channel.Goals as goal

pub unwrap-requires : goal.unwrap-requires
unwrap-requires g c =
    let a = c.in_ok-pending.ensures in
    let goes : c.accept.result ≡ Ok tt =
    accept_goes g.J.Judge.lawful g.J.Judge.covers c.ask.new.self c.accept.new.self c.in_ok-pending.field-0.pending.session c.in_ok-pending.field-0.pending.channel c.accept.result c.accept.ensures.did
    (just_asked g.J.Judge.lawful g.J.Judge.covers c.args.self.now c.ask.new.self c.args.number c.args.proposal _ _ _ _ _ _ a.did a.handed.0 a.handed.1) in
    search rules

pub returns : goal.returns
returns g c =
    let s = c.args.self.now in
    let m = c.ask.new.self in
    let t = c.accept.new.self in
    let a = c.in_ok-pending.ensures in
    let n = c.in_ok-pending.field-0.pending.channel in
    let went : Did g.J.Judge.lawful g.J.Judge.covers m (accept c.in_ok-pending.field-0.pending.session n) done [] t =
    subst (λ (r : Result (Unit {0}) HandedBack). Did g.J.Judge.lawful g.J.Judge.covers m (accept c.in_ok-pending.field-0.pending.session n) (of_settling r) [] t) c.unwrap.ensures c.accept.ensures.did in
    let here : Did g.J.Judge.lawful g.J.Judge.covers m (accept s.number n) done [] t = subst (λ (i : ℕ). Did g.J.Judge.lawful g.J.Judge.covers m (accept i n) done [] t) a.handed.0 went in
    record {
      opens = (m, a.did, subst (λ (k : ℕ). Did g.J.Judge.lawful g.J.Judge.covers m (accept s.number k) done [] t) a.handed.1 here);
      scratch = a.scratch;
    }
