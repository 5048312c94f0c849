use Rattle.std.proofs.Common.{map, length, Some, None, Option, sym, ◌∙◌}
use Rattle.std.specs.Option.{IsSomeAnd, MatchOption}
use Rattle.std.proofs.lemmas.List.{length-map}
use Rattle.bounded.specs.Items.{items}
use Rattle.matching.specs.Calls.{at}
use Rattle.table.specs.Rows.{sets_of}
use Rattle.table.specs.Sets.{standing}
use Rattle.search.specs.Seats.{Seats}
use Rattle.search.specs.Settling.{meets_at}
use Rattle.search.proofs.Seated.{placed_uses, placed_carries, blocked_not, arranged_some, arranged_none}
use Rattle.search.proofs.seats.seat_on.Goals as goal

-- a value, with a fact of its own
some_with : {T C : Type 0} (N : Type 0) (P : T → Type 0) (o : Option T) → C → IsSomeAnd o P → MatchOption o N (λ x. C × P x)
some_with N P (Some x) a p = (a, p)
some_with N P None a p = absurd p

pub seats_of-requires : goal.seats_of-requires
seats_of-requires g c =
    let t = standing c.args.table.now in
    let masks = items c.args.covers.now in
    let sets = sets_of c.args.descriptor.now in
    let rows = c.args.rows.now in
    let holders = c.in_ok-holders.holders in
    let a = arranged_some (meets_at t.entries sets masks) (length masks) (length sets) c.arrange.result holders (sym c.ok.ensures.value ∙ c.in_ok-holders.was) c.arrange.ensures in
    record {
      size = a.0;
      placed = placed_uses (g.J.Judge.covers c.args.judge.now) t (map g.R.Row.asks rows) c.args.table.now.ordered masks c.requires sets (length rows) (at holders.now) (length-map rows g.R.Row.asks) a.1;
    }

pub returns-in_err-holders : goal.returns-in_err-holders
returns-in_err-holders g c =
    let t = standing c.args.table.now in
    let masks = items c.args.covers.now in
    let sets = sets_of c.args.descriptor.now in
    let b = arranged_none (meets_at t.entries sets masks) (length masks) (length sets) c.arrange.result (sym c.ok.ensures.value ∙ c.in_err-holders.was) c.arrange.ensures in
    rw c.from_residual.ensures
    (blocked_not (g.J.Judge.covers c.args.judge.now) t (map g.R.Row.asks c.args.rows.now) c.args.table.now.ordered masks c.requires sets b.0.group b.0.sets b.1)

pub returns : goal.returns
returns g c =
    let covers = g.J.Judge.covers c.args.judge.now in
    let t = standing c.args.table.now in
    let masks = items c.args.covers.now in
    let sets = sets_of c.args.descriptor.now in
    let holders = c.in_ok-holders.holders in
    let a = arranged_some (meets_at t.entries sets masks) (length masks) (length sets) c.arrange.result holders (sym c.ok.ensures.value ∙ c.in_ok-holders.was) c.arrange.ensures in
    some_with _ (λ s. Seats g.R.ByNumber.key g.R.Row.asks covers t.entries sets c.args.rows.now (items s)) c.seats_of.result
    (placed_carries covers t (map g.R.Row.asks c.args.rows.now) c.args.table.now.ordered masks c.requires sets (at holders.now) a.1) c.seats_of.ensures
