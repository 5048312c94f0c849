use Rattle.std.proofs.Common.{◌≡◌, ℕ, suc, ◌<◌, ◌≤◌, List, [], ◌∷◌, ◌++◌, length, OnOk, Result, sym, ap, ◌∙◌, subst, append_assoc, arith}
use Rattle.std.proofs.lemmas.List.{length-append}
use Rattle.bounded.specs.declared.held.NoRoom.{NoRoom}
use Rattle.bounded.specs.Items.{items}
use Rattle.judges.specs.declared.words.Proposal.{Proposal}
use Rattle.modes.specs.declared.element.Element.{Element}
use Rattle.modes.specs.Modes.{elements_in}
use Rattle.modes.specs.Elements.{rows_from}
use Rattle.modes.proofs.Turns.{length-rows}
use Rattle.modes.proofs.element.elements_after.Goals as goal

-- there is room for an element that follows
room : (xs : List Element) (p : Proposal) (sets rest ps : List Proposal) → sets ≡ p ∷ rest → xs ++ rows_from (length xs) sets ≡ rows_from 0 ps → length ps ≤ 16 → length xs < 16
room xs p sets rest ps e inv most =
    let long : length (rows_from (length xs) sets) ≡ suc (length rest) = length-rows (length xs) sets ∙ ap length e in
    omega (arith, ap length inv, length-append xs (rows_from (length xs) sets), length-rows 0 ps)

-- an element that is pushed
one_more : (xs zs : List Element) (x : Element) (sets rest ps : List Proposal) → sets ≡ x.proposal ∷ rest → x.place ≡ length xs → xs ++ rows_from (length xs) sets ≡ rows_from 0 ps → zs ≡ xs ++ x ∷ []
    → zs ++ rows_from (length zs) rest ≡ rows_from 0 ps
one_more xs zs x sets rest ps e n inv z =
    let y : Element = record { place = length xs; proposal = x.proposal } in
    let same : x ≡ y = ap (λ (k : ℕ). record { place = k; proposal = x.proposal }) n in
    let z' : zs ≡ xs ++ y ∷ [] = z ∙ ap (λ (u : Element). xs ++ u ∷ []) same in
    let long : length zs ≡ suc (length xs) = omega (arith, ap length z', length-append xs (y ∷ [])) in
    ap (λ (k : ℕ). zs ++ rows_from k rest) long ∙ ap (λ (u : List Element). u ++ rows_from (suc (length xs)) rest) z'
    ∙ append_assoc xs (y ∷ []) (rows_from (suc (length xs)) rest) ∙ ap (λ (u : List Proposal). xs ++ rows_from (length xs) u) (sym e) ∙ inv

pub unwrap-requires : goal.unwrap-requires
unwrap-requires c =
    c.push.ensures.variant.1 (room (items c.loop-proposal.list) c.in-Some-Element.proposal _ _ _ (ap elements_in (rw c.in-Some-Element.field-0-is at c.in-Some-Element.ensures)) c.loop-proposal.invariant c.requires)

pub loop-proposal-preserved : goal.loop-proposal-preserved
loop-proposal-preserved c =
    let x : Element = record { place = c.len-place.result; proposal = c.in-Some-Element.proposal } in
    let put = subst (λ (r : Result (Unit {0}) NoRoom). OnOk r (items c.push.new.self ≡ items c.loop-proposal.list ++ x ∷ [])) c.unwrap.ensures c.push.ensures.ok in
    one_more (items c.loop-proposal.list) _ x _ _ _ (ap elements_in (rw c.in-Some-Element.field-0-is at c.in-Some-Element.ensures)) c.len-place.ensures.count c.loop-proposal.invariant put
