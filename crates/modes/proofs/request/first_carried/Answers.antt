use Rattle.std.proofs.Common.{◌≡◌, ℕ, Bool, List, ◌∷◌, map, Some, None, Option, ap, ◌∙◌, subst}
use Rattle.judges.specs.declared.words.Capability.{Capability}
use Rattle.judges.specs.declared.words.Proposal.{Proposal}
use Rattle.records.specs.Layout.{Rec}
use Rattle.records.specs.Reads.{rec, says}
use Rattle.records.specs.declared.held.Said.{Said}
use Rattle.table.specs.Sets.{Standing, standing}
use Rattle.search.specs.Answers.{Answer}
use Rattle.modes.specs.declared.element.Element.{Element}
use Rattle.modes.specs.Elements.{rows_from}
use Rattle.modes.specs.Modes.{elements_in, modes_in}
use Rattle.modes.proofs.Turns.{rows_ask, Seen, seen_first, seen_more}
use Rattle.modes.proofs.request.first_carried.Goals as goal

-- a mode is the next to be seen
at_mode : (covers : Capability → Proposal → Bool) (t : Standing) (ms : List (List Proposal)) (place : ℕ) (ss rs : List Rec) (said : Said)
    → ss ≡ rec said ∷ rs → said ≡ Said.Mode → Seen covers t ms place (modes_in ss) → Seen covers t ms place (elements_in rs ∷ modes_in rs)
at_mode covers t ms place ss rs said s i seen = subst (Seen covers t ms place) (ap modes_in s ∙ ap (λ (u : Said). modes_in (rec u ∷ rs)) i) seen

-- the answer of the rows is that of their proposals
answered : (covers : Capability → Proposal → Bool) (t : Standing) (xs ys : List Element) (ps : List Proposal) (o q : Option ℕ)
    → xs ≡ ys → ys ≡ rows_from 0 ps → o ≡ q → Answer covers t (map (λ (e : Element). e.proposal) xs) o → Answer covers t ps q
answered covers t xs ys ps o q e f i a =
    subst (Answer covers t ps) i (subst (λ (qs : List Proposal). Answer covers t qs o) (ap (map (λ (e : Element). e.proposal)) (e ∙ f) ∙ rows_ask 0 ps) a)

pub returns-in-Some-2 : goal.returns-in-Some-2
returns-in-Some-2 g c =
    let rs = says c.read.new.self in
    let covers = g.J.Judge.covers c.args.judge.now in
    let t = standing c.args.table.now in
    let ms = modes_in (says c.args.message) in
    seen_first covers t ms c.loop-said.place (elements_in rs) (modes_in rs)
    (at_mode covers t ms c.loop-said.place (says c.loop-said.left) rs c.in-Some.said c.in-Some.ensures c.in-Mode.is c.loop-said.invariant) c.in-Some-2.descriptor
    (answered covers t c.as_slice.result.now _ (elements_in rs) c.in_ok-descriptor.field-0 (Some c.in-Some-2.descriptor)
    c.as_slice.ensures.list c.elements_after-elements.ensures c.in-Some-2.is c.in_ok-descriptor.ensures.answer.1)

pub loop-said-preserved-in-Mode : goal.loop-said-preserved-in-Mode
loop-said-preserved-in-Mode g c =
    let rs = says c.read.new.self in
    let covers = g.J.Judge.covers c.args.judge.now in
    let t = standing c.args.table.now in
    let ms = modes_in (says c.args.message) in
    seen_more covers t ms c.loop-said.place (elements_in rs) (modes_in rs)
    (at_mode covers t ms c.loop-said.place (says c.loop-said.left) rs c.in-Some.said c.in-Some.ensures c.in-Mode.is c.loop-said.invariant)
    (answered covers t c.as_slice.result.now _ (elements_in rs) c.in_ok-descriptor.field-0 None
    c.as_slice.ensures.list c.elements_after-elements.ensures c.in_default-2.is c.in_ok-descriptor.ensures.answer.1)
