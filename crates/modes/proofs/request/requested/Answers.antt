use Rattle.std.proofs.Common.{ap}
use Rattle.std.proofs.lemmas.Result.{MatchResult-weaker}
use Rattle.records.specs.Reads.{rows, says, says_of}
use Rattle.table.specs.Sets.{standing}
use Rattle.modes.proofs.Answered.{late, granted}
use Rattle.modes.proofs.Shapes.{shaped}
use Rattle.modes.proofs.request.requested.Goals as goal

pub first_carried-requires : goal.first_carried-requires
first_carried-requires g c = let h = c.in_ok-records.ensures in shaped c.args.message.now (rows c.in_ok-records.records) h.1 h.0

pub returns : goal.returns
returns g c =
    let h = c.in_ok-records.ensures in
    let covers = g.J.Judge.covers c.args.judge.now in
    let t = standing c.args.table.now in
    let rs = says c.in_ok-records.records in
    MatchResult-weaker c.first_carried.result c.first_carried.ensures
    (granted covers t c.args.message.now rs (ap says_of h.1) h.0)
    (late covers t c.args.message.now rs (ap says_of h.1) h.0)
