use Rattle.std.proofs.Common.{ℕ, Bool, not, eqb, List, get_or, length, ap, ◌∙◌, arith}
use lib.Bits.{bit_and}
use Rattle.bounded.specs.Items.{items}
use Rattle.table.specs.Rows.{sets_of}
use Rattle.table.specs.Sets.{entries_of}
use Rattle.search.specs.Filling.{meeting}
use Rattle.search.specs.Lists.{passes_at}
use Rattle.search.proofs.Meets.{meets}
use Rattle.search.proofs.Places.{pass_same}
use Rattle.search.proofs.fill.fill.Goals as goal

pub returns : goal.returns
returns c = λ r s l.
    let es = entries_of c.args.table.now in
    let places = items c.resolve-places.result in
    let is = c.as_slice-cover-items.ensures.list in
    let cover = get_or (items c.args.covers.now) r 0 in
    let P : ℕ → Bool = λ x. not (eqb (bit_and x cover) 0) in
    let Q : List ℕ → Bool = λ S. meeting es S cover in
    c.loop-row.invariant r s (omega (arith, ap (λ (us : List ℕ). length us) is))
    ∙ ap (λ (us : List ℕ). passes_at (λ x. not (eqb (bit_and x (get_or us r 0)) 0)) places s) is
    ∙ pass_same P Q places (sets_of c.args.descriptor.now) 0 s c.resolve-places.ensures.long (λ S a. meets es S (get_or places s 0) cover (c.resolve-places.ensures.each s S a))
