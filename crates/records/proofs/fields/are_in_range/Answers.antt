use Rattle.std.proofs.Common.{refl, rules}
use borrow.Author.Tests.{tests}
use Rattle.std.proofs.lemmas.Iterator.Search.{all_from_yields_List}
use Rattle.std.proofs.lemmas.Iterator.Consumers.{YieldsList-from_first}
use Rattle.records.specs.Layout.{in_range}
use Rattle.records.specs.Reads.{octets, rows}
use Rattle.records.proofs.fields.are_in_range.Goals as goal

pub returns : goal.returns
returns c = all_from_yields_List in_range c.all.new.self _ _ c.all.ensures.ran (YieldsList-from_first octets rows _ refl) (λ x b q k. search (rules, tests))
