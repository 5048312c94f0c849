use Rattle.std.proofs.Common.{List, subst}
use Rattle.std.proofs.lemmas.Result.{MatchResult-at_ok}
use Rattle.judges.specs.declared.words.Proposal.{Proposal}
use Rattle.search.specs.Answers.{Outcome}
use Rattle.table.specs.Sets.{standing}
use Rattle.session.proofs.Carries.{same_proposals}
use Rattle.session.proofs.carrying.find.Goals as goal

pub returns : goal.returns
returns g c =
    subst (λ (ps : List Proposal). Outcome (g.J.Judge.covers c.args.judge.now) (standing c.args.table.now) ps c.unwrap.result) (same_proposals c.args.channels.now)
    (MatchResult-at_ok _ _ c.unwrap.result c.unwrap.ensures c.search.ensures.answer).1
