use Rattle.std.proofs.Common.{refl, rules}
use Rattle.table.specs.Parts.{Descriptors, numbers_in}
use Rattle.table.proofs.merge.descriptors_named.Goals as goal

pub returns : goal.returns
returns c = c.numbers_named.ensures (numbers_in Descriptors) (record { none = refl; each = λ s o read. search rules })
