use Rattle.std.proofs.Common.{◌≡◌, true, List, ◌∷◌, refl, rules}
use Rattle.std.proofs.lemmas.Bool.{and_parts}
use Rattle.bounded.specs.Numbers.{holds}
use Rattle.records.specs.Layout.{Rec, descriptor}
use Rattle.records.specs.Reads.{says}
use Rattle.table.specs.Message.{descriptors_in, narrow}
use Rattle.table.specs.Rows.{descriptor_row}
use Rattle.table.proofs.Placed.{merges}
use Rattle.table.proofs.merge.merged_descriptors.Goals as goal

-- what follows a record is no wider
narrow_rest : (r : Rec) (rs : List Rec) → narrow (r ∷ rs) ≡ true → narrow rs ≡ true
narrow_rest (descriptor d) rs e = (and_parts _ _ e).1
narrow_rest r rs e = e

pub returns : goal.returns
returns c =
    merges descriptor_row descriptors_in _ narrow narrow_rest (λ s left o f read. search rules) (says c.args.message) c.requires.narrow_sets refl _
    (holds c.args.named.now) c.args.standing.now c.requires.marks _ _ c.merged.ensures
