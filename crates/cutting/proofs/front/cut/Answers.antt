-- An empty input, and a bad record at the front.
use Rattle.std.proofs.Common.{◌≡◌, get_or, arith, rules}
use Rattle.std.proofs.lemmas.List.{nil_from_length}
use Rattle.records.specs.declared.tag.Tag.TheVariants.{Begin, Mode}
use Rattle.cutting.specs.Cut.{bad_record, starts}
use Rattle.cutting.proofs.Single.{long, starts_bad, cut_one}
use Rattle.cutting.proofs.front.cut.Goals as goal
use Rattle.cutting.proofs.front.cut.Goals.{in_default-try_from-via-in-Ok+in_default, in_default-try_from-via-in_default}

pub returns-then-is_empty : goal.returns-then-is_empty
returns-then-is_empty c = record { piece = nil_from_length c.args.input.now (search rules); sizes = tt }

pub returns-in_default-try_from-clause-piece : goal.returns-in_default-try_from-clause-piece
returns-in_default-try_from-clause-piece c =
    let e = c.in-Some.ensures.cases in
    let n = long c.args.input.now c.in-Some.record.now e.0 (omega arith) in
    let other : starts (get_or c.in-Some.record.now 0 0) ≡ bad_record = elim c.in_default-try_from.branch [
      | in_default-try_from-via-in-Ok+in_default w ↦ search rules
      | in_default-try_from-via-in_default w ↦
          let told = rw w.in_default-try_from.is at c.try_from.ensures in
          starts_bad _ (told.1 Begin) (told.1 Mode)
    ] in
    cut_one c.args.input.now c.in-Some.record.now c.in-Some.rest.now e.0 e.1 (omega arith) bad_record other n
