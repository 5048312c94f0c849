-- What the lists of a table stand for.
use Rattle.std.specs.Prelude.{ℕ, List, map}
use Rattle.judges.specs.declared.words.Capability.{Capability}
use Rattle.bounded.specs.Items.{items}
use Rattle.table.specs.declared.held.AlternativeSet.{AlternativeSet}
use Rattle.table.specs.declared.held.Descriptor.{Descriptor}
use Rattle.table.specs.declared.held.Entry.{Entry}
use Rattle.keyed.specs.Keyed.{Numbered}

abbrev pub entry_row : Entry → Numbered Capability
entry_row e = record { number = e.number; value = e.capability }

abbrev pub entry_rows : List Entry → List (Numbered Capability)
entry_rows es = map entry_row es

-- the members of a set, in their order
abbrev pub members_of : AlternativeSet → List ℕ
members_of s = items s.members

-- the sets of a descriptor, in their order
abbrev pub sets_of : Descriptor → List (List ℕ)
sets_of d = map members_of (items d.sets)

abbrev pub descriptor_row : Descriptor → Numbered (List (List ℕ))
descriptor_row d = record { number = d.number; value = sets_of d }

abbrev pub descriptor_rows : List Descriptor → List (Numbered (List (List ℕ)))
descriptor_rows ds = map descriptor_row ds
