-- The numbers that a message names in each part of a table.
use Rattle.std.specs.Prelude.{ℕ, List}
use Rattle.records.specs.Layout.{Rec}
use Rattle.keyed.specs.Keyed.{mentioned}
use Rattle.table.specs.Message.{entries_in, descriptors_in}

-- the two parts of a table
pub data Part : Type 0 where
  Entries : Part
  Descriptors : Part

abbrev pub numbers_in : Part → List Rec → List ℕ
numbers_in Entries rs = mentioned (entries_in rs)
numbers_in Descriptors rs = mentioned (descriptors_in rs)
