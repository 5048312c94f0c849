use Rattle.std.proofs.Common.{◌≡◌, Bool, true, List}
use Rattle.bounded.specs.Items.{items}
use Rattle.judges.specs.declared.words.Capability.{Capability}
use Rattle.judges.specs.declared.words.Proposal.{Proposal}
use Rattle.keyed.specs.Keyed.{rising, numbers}
use Rattle.table.specs.Sets.{entries_of, standing}
use Rattle.search.specs.Filling.{Covered}
use Rattle.search.proofs.Outcomes.{Shown}
use Rattle.search.proofs.each.search_each.Given as goal

abbrev pub invariant-loop-descriptor : goal.invariant-loop-descriptor
invariant-loop-descriptor l =
    (covers : Capability → Proposal → Bool) (ps : List Proposal) → Covered covers (entries_of l.table) ps (items l.covers) → rising 0 (numbers (entries_of l.table)) ≡ true
    → Shown covers (standing l.table) ps l.descriptor-index (items l.note)
