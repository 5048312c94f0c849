use Rattle.std.proofs.Common.{◌≡◌, List, length, refl, ap, arith}
use Rattle.std.proofs.lemmas.List.{length-map}
use Rattle.bounded.specs.Items.{items}
use Rattle.table.specs.Rows.{descriptor_row}
use Rattle.table.specs.Sets.{standing}
use Rattle.search.specs.declared.found.NoteRow.{NoteRow}
use Rattle.search.specs.Answers.{Stands, Noted}
use Rattle.search.proofs.Covers.{at_read}
use Rattle.search.proofs.Outcomes.{shown_all, shown_past, least, carried, noted}
use Rattle.search.proofs.Pairs.{paired_none, paired_push}
use Rattle.search.proofs.each.search_each.Goals as goal

pub loop-descriptor-init : goal.loop-descriptor-init
loop-descriptor-init c covers ps cov up =
    let t = standing c.args.table.now in
    paired_none (λ _ d w. Noted covers t ps d w) t.descriptors (items c.default-note.result) c.default-note.ensures

pub returns-in-Ok : goal.returns-in-Ok
returns-in-Ok c covers ps cov up rise =
    let t = standing c.args.table.now in
    let d = descriptor_row c.descriptor-item.result in
    let here = at_read descriptor_row c.descriptors-descriptor-items.result.now t.descriptors c.loop-descriptor.descriptor-index c.descriptor-item.result c.descriptors-descriptor-items.ensures.list c.loop-descriptor-test.true c.descriptor-item.is in
    record {
      descriptor = d;
      stands = (c.loop-descriptor.descriptor-index, here);
      carries = carried covers t ps up (items c.args.covers.now) cov d c.in-Ok.ensures;
      number = refl;
      least = least covers t ps rise c.loop-descriptor.descriptor-index d here (shown_past covers t ps c.loop-descriptor.descriptor-index (items c.loop-descriptor.note) (c.loop-descriptor.invariant covers ps cov up));
    }

pub loop-descriptor-preserved : goal.loop-descriptor-preserved
loop-descriptor-preserved c covers ps cov up =
    let t = standing c.args.table.now in
    let d = descriptor_row c.descriptor-item.result in
    let w : NoteRow = record { descriptor = c.descriptor-item.result.number; group = c.in-Err.field-0.group; sets = c.in-Err.field-0.sets } in
    let here = at_read descriptor_row c.descriptors-descriptor-items.result.now t.descriptors c.loop-descriptor.descriptor-index c.descriptor-item.result c.descriptors-descriptor-items.ensures.list c.loop-descriptor-test.true c.descriptor-item.is in
    paired_push (λ _ d w. Noted covers t ps d w) t.descriptors c.loop-descriptor.descriptor-index 16 (items c.loop-descriptor.note) (items c.push.new.self) d w c.push.result (omega arith) c.push.ensures.variant c.push.ensures.ok here
    (noted covers t ps up (items c.args.covers.now) cov d w refl c.in-Err.ensures)
    (c.loop-descriptor.invariant covers ps cov up)

pub returns : goal.returns
returns c covers ps cov up rise =
    let t = standing c.args.table.now in
    let the_end : length t.descriptors ≡ c.loop-descriptor.descriptor-index = omega (arith, ap (λ (u : List Stands). length u) c.descriptors-descriptor-items.ensures.list, length-map c.descriptors-descriptor-items.result.now descriptor_row) in
    shown_all covers t ps c.loop-descriptor.descriptor-index (items c.loop-descriptor.note) the_end (c.loop-descriptor.invariant covers ps cov up)
