use Rattle.std.proofs.Common.{Bool, rules}
use Rattle.judges.specs.declared.words.Capability.{Capability}
use Rattle.keyed.specs.Keyed.{Numbered}
use Rattle.table.specs.Rows.{entry_row}
use Rattle.table.specs.Sets.{entries_of}
use Rattle.search.proofs.Places.{mask_mapped}
use Rattle.search.proofs.cover.covering.Goals as goal

pub returns : goal.returns
returns g c =
    let P : Numbered Capability → Bool = λ e. g.J.Judge.covers c.args.judge.now e.value c.args.proposal.now in
    mask_mapped entry_row P c.entries.result.now (entries_of c.args.table.now) c.mask_where.result c.entries.ensures.list
    (λ k x l is. let says = c.mask_where.ensures.items k x l is in search rules) c.mask_where.ensures.beyond
