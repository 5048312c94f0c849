use Rattle.std.proofs.Common.{◌≡◌, map, length, sym, refl, arith}
use Rattle.bounded.specs.Items.{items}
use Rattle.matching.specs.Calls.{at}
use Rattle.table.specs.Rows.{sets_of}
use Rattle.table.specs.Sets.{entries_of}
use Rattle.search.specs.Carrying.{usable}
use Rattle.search.specs.Filling.{uses}
use Rattle.search.proofs.Pairs.{paired_push}
use Rattle.search.proofs.Seated.{Held, seats_all, has_seat, placed_few}
use Rattle.search.proofs.seats.seats_of.Goals as goal

pub returns-in_err-seat : goal.returns-in_err-seat
returns-in_err-seat g c =
    absurd (has_seat g.R.ByNumber.key g.R.Row.asks (g.J.Judge.covers c.args.judge.now) (entries_of c.args.table.now) (sets_of c.args.descriptor.now) (at c.args.holders.now) c.args.rows.now
    (length (sets_of c.args.descriptor.now)) refl c.requires.placed c.loop-place.place _ (c.loop-place-test.true, sym c.index-rows-place.is) c.in_err-seat.ensures)

pub unwrap-requires : goal.unwrap-requires
unwrap-requires g c =
    let rows = c.args.rows.now in
    let few = placed_few (uses (usable (g.J.Judge.covers c.args.judge.now) (entries_of c.args.table.now)) (sets_of c.args.descriptor.now) (map g.R.Row.asks rows)) (length rows) c.args.descriptor.now (at c.args.holders.now) c.requires.placed in
    c.push.ensures.variant.1 (omega (arith, few, c.loop-place.invariant.long, c.loop-place-test.true))

pub loop-place-preserved : goal.loop-place-preserved
loop-place-preserved g c =
    let rows = c.args.rows.now in
    let few = placed_few (uses (usable (g.J.Judge.covers c.args.judge.now) (entries_of c.args.table.now)) (sets_of c.args.descriptor.now) (map g.R.Row.asks rows)) (length rows) c.args.descriptor.now (at c.args.holders.now) c.requires.placed in
    paired_push (Held g.R.ByNumber.key g.R.Row.asks (g.J.Judge.covers c.args.judge.now) (entries_of c.args.table.now) (sets_of c.args.descriptor.now) (at c.args.holders.now) rows) rows
    c.loop-place.place 16 (items c.loop-place.seats) (items c.push.new.self) c.index-rows-place.result c.in_ok-seat.seat c.push.result
    (omega arith) c.push.ensures.variant c.push.ensures.ok (c.loop-place-test.true, sym c.index-rows-place.is) c.in_ok-seat.ensures c.loop-place.invariant

pub returns : goal.returns
returns g c =
    let the_end : length c.args.rows.now ≡ c.loop-place.place = omega arith in
    seats_all g.R.ByNumber.key g.R.Row.asks (g.J.Judge.covers c.args.judge.now) (entries_of c.args.table.now) (sets_of c.args.descriptor.now) (at c.args.holders.now) c.args.rows.now
    c.loop-place.place (items c.loop-place.seats) the_end c.loop-place.invariant
