use Rattle.std.proofs.Common.{true, refl, rules}
use Rattle.bounded.specs.Numbers.{holds}
use Rattle.records.specs.Reads.{says}
use Rattle.table.specs.Message.{entries_in}
use Rattle.table.specs.Rows.{entry_row}
use Rattle.table.proofs.Placed.{merges}
use Rattle.table.proofs.merge.merged_entries.Goals as goal

pub returns : goal.returns
returns c =
    merges entry_row entries_in _ (λ _. true) (λ r rs e. e) (λ s left o f read. search rules) (says c.args.message) refl refl _
    (holds c.args.named.now) c.args.standing.now c.requires _ _ c.merged.ensures
