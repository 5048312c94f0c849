-- The worked examples of every part, under its name.
use Rattle.worked.specs.Asked.{SessionExamples}
use Rattle.worked.specs.Judged.{StandardJudgeExamples}
use Rattle.worked.specs.Seated.{SeatingExamples}

abbrev pub WorkedExamples : Type 0
WorkedExamples = record { standard_judge : StandardJudgeExamples; seating : SeatingExamples; session : SessionExamples }
