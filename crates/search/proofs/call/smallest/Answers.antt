use Rattle.std.proofs.Common.{map, subst}
use Rattle.bounded.specs.Items.{items}
use Rattle.table.specs.Sets.{standing}
use Rattle.search.specs.Answers.{Outcome}
use Rattle.search.specs.declared.found.Found.{Found}
use Rattle.search.proofs.Outcomes.{unanswered}
use Rattle.search.proofs.call.smallest.Goals as goal

pub returns-in-Blocked : goal.returns-in-Blocked
returns-in-Blocked g c =
    let covers = g.J.Judge.covers c.args.judge.now in
    let t = standing c.args.table.now in
    let ps = map g.R.Row.asks c.args.rows.now in
    let was = c.in_ok-descriptor.ensures in
    record {
      scratch = was.scratch;
      answer = (was.answer.0, unanswered covers t ps (items c.in-Blocked.field-0) (subst (λ (f : Found). Outcome covers t ps f) c.in-Blocked.is was.answer.1));
    }
