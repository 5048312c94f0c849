use Rattle.std.proofs.Common.{List, subst, arith}
use Rattle.std.proofs.lemmas.Result.{MatchResult-weaker}
use Rattle.channels.specs.Holdings.{Holding}
use Rattle.keyed.specs.Keyed.{Numbered}
use Rattle.search.specs.Seats.{SeatingOf}
use Rattle.table.specs.Sets.{standing}
use Rattle.session.proofs.Ending.{not_short}
use Rattle.session.proofs.Seats.{held_seats}
use Rattle.session.proofs.state.Session.seats_held.Goals as goal

pub returns : goal.returns
returns g c =
    let covers = g.J.Judge.covers c.args.self.now.judge in
    let t = standing c.args.self.now.table in
    MatchResult-weaker c.seating.result c.seating.ensures.answer
    (λ o a. ((c.if-rows-lt-ROWS.false, tt), subst (λ (xs : List (Numbered Holding)). SeatingOf (λ (x : Numbered Holding). x.number) (λ x. x.value.proposal) covers t xs o) c.as_slice.ensures (held_seats covers t c.as_slice.result.now o a.1)))
    (λ k f. absurd (not_short c.args.work.now k (omega arith) f))
