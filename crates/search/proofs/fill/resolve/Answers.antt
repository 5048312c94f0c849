use Rattle.std.proofs.Common.{ℕ, List, get_or, length, subst, ap, arith}
use Rattle.bounded.specs.Items.{items}
use Rattle.table.specs.declared.held.AlternativeSet.{AlternativeSet}
use Rattle.table.specs.Rows.{members_of}
use Rattle.table.specs.Sets.{entries_of}
use Rattle.search.specs.Filling.{Placing}
use Rattle.search.proofs.Covers.{at_map}
use Rattle.search.proofs.Pairs.{Paired, paired_index}
use Rattle.search.proofs.fill.resolve.Goals as goal

pub returns-clause-each : goal.returns-clause-each
returns-clause-each c s S a =
    let es = entries_of c.args.table.now in
    let sets = items c.args.descriptor.now.sets in
    let places = items c.loop-set.places in
    let Rel : ℕ → AlternativeSet → ℕ → Type 0 = λ _ set mask. Placing es (members_of set) mask in
    let set = at_map members_of sets s S a in
    let inv : Paired Rel sets c.loop-set.set-index places = subst (λ (u : List AlternativeSet). Paired Rel u c.loop-set.set-index places) c.as_slice-set-items.ensures.list c.loop-set.invariant in
    subst (λ (T : List ℕ). Placing es T (get_or places s 0)) set.2
    (paired_index Rel sets c.loop-set.set-index places inv s set.0 (omega (arith, set.1.0, ap (λ (u : List AlternativeSet). length u) c.as_slice-set-items.ensures.list)) set.1)
