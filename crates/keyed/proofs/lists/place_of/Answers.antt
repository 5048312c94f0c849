use Rattle.std.proofs.Common.{◌<◌, ◌≤◌, sym, refl, ◌∙◌, rules}
use borrow.Author.Tests.{tests}
use Rattle.std.proofs.lemmas.Iterator.{YieldsList-from_slice, IsFirst-from_position, index_from_first}
use Rattle.keyed.specs.Merge.{place}
use Rattle.keyed.proofs.Turns.{place_here, place_after}
use Rattle.keyed.proofs.lists.place_of.Goals as goal

pub returns-clause-at : goal.returns-clause-at
returns-clause-at g c =
    let key = g.T.ByNumber.key in
    let xs = c.args.list.now in
    let n = c.args.number in
    c.unwrap_or.ensures
    ∙ sym (index_from_first (λ l. place key l n) (λ x. n ≤ key x) (λ x. key x < n) refl (place_here key n) (place_after key n) xs c.position.result
    (IsFirst-from_position _ _ _ (λ x. n ≤ key x) (λ x. key x < n) c.position.ensures.ran (YieldsList-from_slice xs cc) (λ x q k. search (rules, tests)) (λ x q k. search (rules, tests))))
