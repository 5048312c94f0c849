-- Where the same stands, the same message has the same answer and leaves the same.
use Rattle.std.proofs.Common.{Ok, Err, sym, ap, ◌∙◌, subst}
use Rattle.refusals.specs.Checks.{First}
use Rattle.refusals.proofs.Firsts.{first_one, first_fails}
use Rattle.table.specs.Sets.{Standing, standing, message, set_checks, Done, OneAnswer}
use Rattle.table.proofs.Judged.{one_after}

pub one_answer : OneAnswer
one_answer lawful octets s t u v (Ok m) (Ok n) e a b = (
  ap Ok (a.0 ∙ sym b.0),
  let d = subst (λ (x : Standing). Done lawful octets x (standing u)) e a.1 in
      one_after (standing t) (message octets) (standing u) (standing v) d.merged b.1.merged,
)
one_answer lawful octets s t u v (Ok m) (Err k) e a b =
    let d = subst (λ (x : Standing). Done lawful octets x (standing u)) e a.1 in
    absurd (first_fails (set_checks lawful octets (standing t)) k b.1 d.passed)
one_answer lawful octets s t u v (Err k) (Ok n) e a b =
    absurd (first_fails (set_checks lawful octets (standing t)) k (subst (λ (x : Standing). First (set_checks lawful octets x) k) e a.1) b.1.passed)
one_answer lawful octets s t u v (Err j) (Err k) e a b = (
  ap Err (first_one (set_checks lawful octets (standing t)) j k (subst (λ (x : Standing). First (set_checks lawful octets x) j) e a.1) b.1),
  ap standing a.0 ∙ e ∙ sym (ap standing b.0),
)
