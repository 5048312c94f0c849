-- The message takes the records of tags 7 and 8.
use Rattle.cutting.proofs.Records.{mode_run}
use Rattle.cutting.proofs.front.mode_records.Goals as goal

pub returns : goal.returns
returns c = mode_run _ _ c.requires.whole c.requires.begun c.records_of.ensures _ c.count_of_mode.ensures
