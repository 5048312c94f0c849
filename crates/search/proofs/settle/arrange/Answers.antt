use Rattle.std.proofs.Common.{◌≡◌, ℕ, ◌*◌, Bool, List, length, get_or, take, sym, ◌∙◌, arith, rules}
use Rattle.std.proofs.lemmas.List.{length-map}
use Rattle.std.proofs.lemmas.Result.{err_from_is_err_and}
use Rattle.bounded.specs.Items.{items}
use Rattle.bounded.proofs.Most.{items_most}
use Rattle.matching.specs.Calls.{at}
use Rattle.table.specs.Rows.{members_of, sets_of}
use Rattle.table.specs.Sets.{entries_of}
use Rattle.search.specs.Filling.{meeting}
use Rattle.search.specs.Settling.{meets_at}
use Rattle.search.proofs.Bridge.{placed_same, blocked_same}
use Rattle.search.proofs.Places.{pass_some}
use Rattle.search.proofs.settle.arrange.Goals as goal

pub place-requires : goal.place-requires
place-requires c =
    let covers = items c.args.covers.now in
    let n : length c.fill.new.board ≡ 2 * length covers = search rules in
    record {
      rows = omega (arith, items_most c.args.covers.now);
      sets = search rules;
      within = λ r s l e.
          let Q : List ℕ → Bool = λ S. meeting (entries_of c.args.table.now) S (get_or covers r 0) in
          let p = pass_some Q (sets_of c.args.descriptor.now) s (sym (c.fill.ensures r s (omega arith)) ∙ e) in
          let m : length (take c.len-2.result c.split_at_mut-board.result.1.now) ≡ length (items c.args.descriptor.now.sets) = search rules in
          omega (arith, p.1.0, length-map (items c.args.descriptor.now.sets) members_of);
    }

pub returns-in_err-place : goal.returns-in_err-place
returns-in_err-place c =
    let covers = items c.args.covers.now in
    let p = err_from_is_err_and c.from_residual.result c.from_residual.ensures.1 in
    rw (p.1, p.2)
    (blocked_same c.fill.new.board (meets_at (entries_of c.args.table.now) (sets_of c.args.descriptor.now) covers) (length covers) (length (sets_of c.args.descriptor.now)) _ (search rules) (search (rules, length-map)) c.fill.ensures c.in_err-place.field-0.0 c.in_err-place.ensures)

pub returns : goal.returns
returns c =
    let covers = items c.args.covers.now in (
      search (rules, length-map),
      placed_same c.fill.new.board (meets_at (entries_of c.args.table.now) (sets_of c.args.descriptor.now) covers) (length covers) (length (sets_of c.args.descriptor.now)) _ (search rules) (search (rules, length-map)) c.fill.ensures (at c.place.new.holders) c.in_ok-place.ensures,
    )
