use Rattle.std.proofs.Common.{ℕ, get_or, subst, arith}
use Rattle.std.proofs.lemmas.List.{length-map}
use Rattle.bounded.specs.Items.{items}
use Rattle.judges.specs.declared.words.Proposal.{Proposal}
use Rattle.table.specs.Sets.{entries_of}
use Rattle.search.specs.Filling.{Covering}
use Rattle.search.proofs.Covers.{at_map}
use Rattle.search.proofs.Pairs.{paired_index}
use Rattle.search.proofs.cover.cover.Goals as goal

pub returns : goal.returns
returns g c =
    let C : Proposal → ℕ → Type 0 = Covering (g.J.Judge.covers c.args.judge.now) (entries_of c.args.table.now) in
    let rows = c.args.rows.now in
    let masks = items c.loop-row.masks in
    record {
      long = omega (arith, c.loop-row.invariant.long, length-map rows g.R.Row.asks);
      each = λ r p a.
          let row = at_map g.R.Row.asks rows r p a in
          subst (λ (q : Proposal). C q (get_or masks r 0)) row.2 (paired_index (λ _ row mask. C (g.R.Row.asks row) mask) rows c.loop-row.row-index masks c.loop-row.invariant r row.0 (omega (arith, row.1.0)) row.1);
    }
