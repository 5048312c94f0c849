use Rattle.std.proofs.Common.{map, length, sym, ◌∙◌, inl, inr, arith}
use Rattle.std.proofs.lemmas.List.{length-map}
use Rattle.std.proofs.lemmas.Bool.{eqb-true}
use Rattle.table.specs.Sets.{standing}
use Rattle.search.specs.Carrying.{usable}
use Rattle.search.proofs.Front.{carries_few, narrow}
use Rattle.search.proofs.Outcomes.{some_or_none}
use Rattle.search.proofs.call.seat_all.Goals as goal
use Rattle.search.proofs.call.seat_all.Goals.{then-is_empty-via-then-is_empty, then-is_empty-via-else-is_empty+then-rows-gt-MOST}

pub returns-then-is_empty : goal.returns-then-is_empty
returns-then-is_empty g c =
    let t = c.args.table.now in
    let rows = c.args.rows.now in
    elim c.then-is_empty.branch [
      | then-is_empty-via-then-is_empty w ↦ elim (some_or_none rows) [
        | inl none ↦ inl none
        | inr some ↦ absurd (omega (arith, eqb-true (length rows) 0 (sym c.is_empty.ensures ∙ w.if-is_empty.true)))
      ]
      | then-is_empty-via-else-is_empty+then-rows-gt-MOST w ↦
          inr (λ d a k. omega (arith, w.if-rows-gt-MOST.true, narrow t d a, length-map rows g.R.Row.asks, carries_few (usable (g.J.Judge.covers c.args.judge.now) (standing t).entries) d.value (map g.R.Row.asks rows) k))
    ]
