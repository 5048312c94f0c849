use Rattle.std.proofs.Common.{◌≡◌, ℕ, Bool, eqb, List, [], ◌∷◌, ◌||◌, refl, ap, ◌∙◌, rules}
use Rattle.std.specs.List.{list_any}
use Rattle.bounded.specs.Bit.{bit}
use Rattle.judges.specs.declared.words.Capability.{Capability}
use Rattle.keyed.specs.Keyed.{Numbered, among}
use Rattle.table.specs.Rows.{entry_row}
use Rattle.table.specs.Sets.{entries_of}
use Rattle.search.proofs.Places.{mask_mapped}
use Rattle.search.proofs.cover.places_of.Goals as goal

-- a number is contained where it is among the members
contained : (n : ℕ) (ms : List ℕ) → list_any (λ m. eqb m n) ms ≡ among n ms
contained n [] = refl
contained n (m ∷ ms) = ap (λ (b : Bool). eqb m n || b) (contained n ms)

pub returns : goal.returns
returns c =
    let members = c.args.members.now in
    let P : Numbered Capability → Bool = λ e. among e.number members in
    mask_mapped entry_row P c.entries.result.now (entries_of c.args.table.now) c.mask_where.result c.entries.ensures.list
    (λ k x l is.
    let says = c.mask_where.ensures.items k x l is in
    let any : bit c.mask_where.result k ≡ list_any (λ m. eqb m x.number) members = search rules in
    any ∙ contained x.number members)
    c.mask_where.ensures.beyond
