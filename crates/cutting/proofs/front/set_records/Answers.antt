-- The message ends at its first record of tag 6, or after the last.
use Rattle.std.proofs.Common.{sym, ◌∙◌}
use Rattle.cutting.proofs.Records.{set_ended, set_unended}
use Rattle.cutting.proofs.front.set_records.Goals as goal

pub returns-in-Some : goal.returns-in-Some
returns-in-Some c = set_ended _ _ c.in-Some.last c.records_of-records.ensures (sym c.place_of_end.ensures ∙ c.in-Some.is)

pub returns-in-None : goal.returns-in-None
returns-in-None c = set_unended _ _ c.requires c.records_of-records.ensures (sym c.place_of_end.ensures ∙ c.in-None.is)
