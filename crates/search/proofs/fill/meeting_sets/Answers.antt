use Rattle.std.proofs.Common.{ℕ, Bool, List, not, eqb, ap, ◌∙◌, rules}
use lib.Bits.{bit_and}
use Rattle.search.specs.Lists.{passes_at}
use Rattle.search.proofs.Places.{mask_passes}
use Rattle.search.proofs.fill.meeting_sets.Goals as goal

pub returns : goal.returns
returns c s =
    let P : ℕ → Bool = λ x. not (eqb (bit_and x c.args.cover) 0) in
    mask_passes P c.as_slice.result.now c.mask_where.result (λ k x l is. let says = c.mask_where.ensures.items k x l is in search rules) c.mask_where.ensures.beyond s
    ∙ ap (λ (xs : List ℕ). passes_at P xs s) c.as_slice.ensures.list
