use Rattle.std.proofs.Common.{◌≡◌, sym}
use Rattle.bounded.specs.Items.{items}
use Rattle.std.specs.List.{insert}
use Rattle.keyed.specs.Merge.{putting}
use Rattle.keyed.proofs.Turns.{inserted_place}
use Rattle.keyed.proofs.lists.put.Goals as goal

pub returns-clause-ok : goal.returns-clause-ok
returns-clause-ok g c =
    let key = g.T.ByNumber.key in
    let xs = items c.args.list.now in
    let e : insert xs c.place_of-at.result c.args.x ≡ putting key c.args.x xs = rw (c.place_of-at.ensures.at, c.as_slice.ensures.list, c.number.ensures) (inserted_place key c.args.x xs) in
    rw (sym e) c.insert.ensures.ok
