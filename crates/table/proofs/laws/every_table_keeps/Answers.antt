use Rattle.std.proofs.Common.{refl}
use Rattle.table.specs.Rows.{entry_row, descriptor_row}
use Rattle.table.proofs.Judged.{fits}
use Rattle.table.proofs.laws.every_table_keeps.Goals as goal

pub returns : goal.returns
returns c = λ t. record {
  entries_rise = t.ordered;
  entries_few = fits entry_row t.entries _ refl;
  entries_named = t.named;
  descriptors_rise = t.arranged;
  descriptors_few = fits descriptor_row t.descriptors _ refl;
  descriptors_shaped = t.shaped;
  members_defined = t.whole;
}
