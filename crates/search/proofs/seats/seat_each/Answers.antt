use Rattle.std.proofs.Common.{List, map, length, refl, ap, arith}
use Rattle.std.proofs.lemmas.List.{length-map}
use Rattle.table.specs.Rows.{descriptor_row}
use Rattle.table.specs.Sets.{standing}
use Rattle.search.specs.Answers.{Stands}
use Rattle.search.proofs.Covers.{at_read}
use Rattle.search.proofs.Outcomes.{least, past_more}
use Rattle.search.proofs.seats.seat_each.Goals as goal

pub returns-in-Some : goal.returns-in-Some
returns-in-Some g c =
    let covers = g.J.Judge.covers c.args.judge.now in
    let t = standing c.args.table.now in
    let d = descriptor_row c.descriptor-item.result in
    let here = at_read descriptor_row c.descriptors-descriptor-items.result.now t.descriptors c.loop-descriptor.descriptor-index c.descriptor-item.result c.descriptors-descriptor-items.ensures.list c.loop-descriptor-test.true c.descriptor-item.is in
    record {
      smallest = record {
        descriptor = d;
        stands = (c.loop-descriptor.descriptor-index, here);
        carries = c.in-Some.ensures.0;
        number = refl;
        least = least covers t (map g.R.Row.asks c.args.rows.now) c.args.table.now.arranged c.loop-descriptor.descriptor-index d here c.loop-descriptor.invariant;
      };
      seats = c.in-Some.ensures.1;
    }

pub loop-descriptor-preserved : goal.loop-descriptor-preserved
loop-descriptor-preserved g c =
    let t = standing c.args.table.now in
    let d = descriptor_row c.descriptor-item.result in
    past_more (g.J.Judge.covers c.args.judge.now) t (map g.R.Row.asks c.args.rows.now) c.loop-descriptor.descriptor-index d
    (at_read descriptor_row c.descriptors-descriptor-items.result.now t.descriptors c.loop-descriptor.descriptor-index c.descriptor-item.result c.descriptors-descriptor-items.ensures.list c.loop-descriptor-test.true c.descriptor-item.is)
    c.in_default.ensures c.loop-descriptor.invariant

pub returns : goal.returns
returns g c d a carries =
    c.loop-descriptor.invariant a.0 d (omega (arith, a.1.0, ap (λ (u : List Stands). length u) c.descriptors-descriptor-items.ensures.list, length-map c.descriptors-descriptor-items.result.now descriptor_row)) a.1 carries
