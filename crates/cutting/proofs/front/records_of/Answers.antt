-- The records keep their tags.
use Rattle.std.proofs.Common.{ℕ, ◌/◌, ◌<◌, List, [], length, get_or, ap, ◌∙◌, arith, get_or-take, length-take}
use Rattle.cutting.proofs.Records.{chunk_tag}
use Rattle.cutting.proofs.front.records_of.Goals as goal

pub returns : goal.returns
returns c =
    let records : List (List ℕ) = c.as_chunks.result.0.now in
    let n : ℕ = length c.args.input.now / 32 in
    record {
      count = omega (arith, length-take c.min.result records);
      tags = λ i h.
          let l : i < c.min.result = omega (arith, length-take c.min.result records) in
          ap (λ (r : List ℕ). get_or r 0 0) (get_or-take c.min.result records i [] l)
          ∙ ap (λ (l : List (List ℕ)). get_or (get_or l i []) 0 0) c.as_chunks.ensures.front
          ∙ chunk_tag n i c.args.input.now (omega arith);
    }
