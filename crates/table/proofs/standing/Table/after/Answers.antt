use Rattle.std.proofs.lemmas.Result.{MatchResult-weaker}
use Rattle.table.proofs.Judged.{handed, narrows, many_entries, many_descriptors, entries_rise, descriptors_rise, entries_named, descriptors_shaped, undefined_members, taken}
use Rattle.table.proofs.standing.Table.after.Goals as goal

pub returns-in_err-entries : goal.returns-in_err-entries
returns-in_err-entries g c =
    handed _ _ _ c.from_residual-in_err-entries.ensures.1 c.in_err-entries.ensures.0
    (many_entries _ _ c.args.self.now c.in_ok-records.records c.in_ok-records.ensures c.if-not-are_lawful.ensures c.in_ok-entry_numbers.ensures.0 c.in_ok-descriptor_numbers.ensures.0 c.in_err-entries.ensures.1)

pub merged_descriptors-requires-clause-narrow_sets : goal.merged_descriptors-requires-clause-narrow_sets
merged_descriptors-requires-clause-narrow_sets g c = narrows (g.J.Judge.lawful c.args.judge.now) c.args.message.now c.args.self.now c.in_ok-records.records c.in_ok-records.ensures

pub returns-in_err-descriptors : goal.returns-in_err-descriptors
returns-in_err-descriptors g c =
    handed _ _ _ c.from_residual-in_err-descriptors.ensures.1 c.in_err-descriptors.ensures.0
    (many_descriptors _ _ c.args.self.now c.in_ok-records.records c.in_ok-records.ensures c.if-not-are_lawful.ensures c.in_ok-entry_numbers.ensures.0 c.in_ok-descriptor_numbers.ensures.0 c.in_ok-entries.entries c.in_ok-entries.ensures c.in_err-descriptors.ensures.1)

pub table_of-requires-clause-ordered : goal.table_of-requires-clause-ordered
table_of-requires-clause-ordered g c =
    entries_rise _ _ c.args.self.now c.in_ok-records.records c.in_ok-records.ensures c.if-not-are_lawful.ensures c.in_ok-entry_numbers.ensures.0 c.in_ok-descriptor_numbers.ensures.0
    c.in_ok-entries.entries c.in_ok-entries.ensures c.in_ok-descriptors.descriptors c.in_ok-descriptors.ensures

pub table_of-requires-clause-arranged : goal.table_of-requires-clause-arranged
table_of-requires-clause-arranged g c =
    descriptors_rise _ _ c.args.self.now c.in_ok-records.records c.in_ok-records.ensures c.if-not-are_lawful.ensures c.in_ok-entry_numbers.ensures.0 c.in_ok-descriptor_numbers.ensures.0
    c.in_ok-entries.entries c.in_ok-entries.ensures c.in_ok-descriptors.descriptors c.in_ok-descriptors.ensures

pub table_of-requires-clause-named : goal.table_of-requires-clause-named
table_of-requires-clause-named g c =
    entries_named _ _ c.args.self.now c.in_ok-records.records c.in_ok-records.ensures c.if-not-are_lawful.ensures c.in_ok-entry_numbers.ensures.0 c.in_ok-descriptor_numbers.ensures.0
    c.in_ok-entries.entries c.in_ok-entries.ensures c.in_ok-descriptors.descriptors c.in_ok-descriptors.ensures

pub table_of-requires-clause-shaped : goal.table_of-requires-clause-shaped
table_of-requires-clause-shaped g c =
    descriptors_shaped _ _ c.args.self.now c.in_ok-records.records c.in_ok-records.ensures c.if-not-are_lawful.ensures c.in_ok-entry_numbers.ensures.0 c.in_ok-descriptor_numbers.ensures.0
    c.in_ok-entries.entries c.in_ok-entries.ensures c.in_ok-descriptors.descriptors c.in_ok-descriptors.ensures

pub returns : goal.returns
returns g c =
    MatchResult-weaker c.table_of.result c.table_of.ensures
    (λ t m.
    let d = taken _ _ c.args.self.now c.in_ok-records.records c.in_ok-records.ensures c.if-not-are_lawful.ensures c.in_ok-entry_numbers.ensures.0 c.in_ok-descriptor_numbers.ensures.0
    c.in_ok-entries.entries c.in_ok-entries.ensures c.in_ok-descriptors.descriptors c.in_ok-descriptors.ensures m.0 in
    rw (m.1.0, m.1.1) d)
    (λ k m. rw m.0 (undefined_members _ _ c.args.self.now c.in_ok-records.records c.in_ok-records.ensures c.if-not-are_lawful.ensures c.in_ok-entry_numbers.ensures.0 c.in_ok-descriptor_numbers.ensures.0
    c.in_ok-entries.entries c.in_ok-entries.ensures c.in_ok-descriptors.descriptors c.in_ok-descriptors.ensures m.1))
