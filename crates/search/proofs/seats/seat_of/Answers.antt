use Rattle.std.proofs.Common.{Some, None, sym, ap, ◌∙◌, arith}
use Rattle.std.proofs.lemmas.Bool.{both_ways}
use Rattle.keyed.specs.Keyed.{at}
use Rattle.table.specs.Rows.{members_of}
use Rattle.table.specs.Sets.{entries_of}
use Rattle.search.specs.Carrying.{covering}
use Rattle.search.proofs.Firsts.{first_none, first_read}
use Rattle.search.proofs.Seated.{set_read}
use Rattle.search.proofs.seats.seat_of.Goals as goal

pub returns-in_err-set : goal.returns-in_err-set
returns-in_err-set g c =
    rw c.from_residual.ensures (λ some use-all. c.in_err-set.ensures some.0 (omega (arith, some.1, c.requires)) some.2)

pub returns-in_default : goal.returns-in_default
returns-in_default g c some use-all =
    let covers = g.J.Judge.covers c.args.judge.now in
    let es = entries_of c.args.table.now in
    let asked = g.R.Row.asks c.args.row.now in
    let members = members_of c.index-sets-set.result in
    let none = first_read covers es c.proposal-proposal.result asked c.as_slice.result.now members None c.proposal-proposal.ensures (c.as_slice.ensures.list ∙ sym (ap members_of c.index-sets-set.is)) c.in_default.ensures in
    both_ways _ (first_none (λ m. covering covers asked (at es m)) members none)
    (use-all c.in_ok-set.set members
    (set_read c.args.descriptor.now c.as_slice-sets.result.now c.in_ok-set.set c.index-sets-set.result c.as_slice-sets.ensures.list (omega (arith, c.in_ok-set.ensures.0, c.requires)) c.index-sets-set.is)
    c.in_ok-set.ensures.1)

pub returns : goal.returns
returns g c =
    let members = members_of c.index-sets-set.result in (
      record {
        number = c.number.ensures;
        members = members;
        stands = set_read c.args.descriptor.now c.as_slice-sets.result.now c.in_ok-set.set c.index-sets-set.result c.as_slice-sets.ensures.list (omega (arith, c.in_ok-set.ensures.0, c.requires)) c.index-sets-set.is;
        entry = first_read (g.J.Judge.covers c.args.judge.now) (entries_of c.args.table.now) c.proposal-proposal.result (g.R.Row.asks c.args.row.now) c.as_slice.result.now members (Some c.in-Some.entry) c.proposal-proposal.ensures (c.as_slice.ensures.list ∙ sym (ap members_of c.index-sets-set.is)) c.in-Some.ensures;
      },
      c.in_ok-set.ensures.1,
    )
