use Rattle.std.proofs.Common.{take, refl, ap, ◌∙◌, arith, rules}
use Rattle.std.proofs.lemmas.List.{take-take}
use Rattle.search.proofs.Cleared.{cleared_parts}
use Rattle.search.proofs.guard.in_scratch.Goals as goal

pub returns-clause-scratch : goal.returns-clause-scratch
returns-clause-scratch g c = cleared_parts c.args.scratch.now _ _ _ (omega arith) (search rules) c.drop-guard.ensures c.split_at_mut-bytes.ensures.back

pub returns-clause-answer : goal.returns-clause-answer
returns-clause-answer g c =
    let chunk = rw c.unwrap-work.ensures at c.first_chunk_mut.ensures.cases in
    let front = chunk.same ∙ ap (take 512) c.split_at_mut-bytes.ensures.front ∙ take-take 512 512 c.args.scratch.now (omega arith) in
    ((omega arith, tt), (c.run.new.arg2, record { shown = _; shows = front; left = _; met = c.run.ensures; leaves = refl }))
