use Rattle.std.proofs.Common.{◌≡◌, ℕ, suc, ◌-◌, ◌<◌, List, [], ◌∷◌, ◌++◌, map, take, length, Ok, Err, Result, ◌↔◌, refl, sym, ap, ◌∙◌, append_assoc, arith}
use Rattle.std.proofs.lemmas.List.{map_push, length_push}
use Rattle.std.specs.Result.{IsOk, OnOk, OnErr}
use Rattle.bounded.specs.declared.held.Bounded.{Bounded}
use Rattle.bounded.specs.declared.held.NoRoom.{NoRoom}
use Rattle.bounded.specs.Items.{items}
use Rattle.table.specs.declared.held.AlternativeSet.{AlternativeSet}
use Rattle.table.specs.Message.{following}
use Rattle.table.specs.Rows.{members_of}
use Rattle.table.proofs.Placed.{full}
use Rattle.table.proofs.merge.sets_after.Goals as goal

-- one of the sets that follow is taken
one_more : (xs zs : List AlternativeSet) (x : AlternativeSet) (sets rest all : List (List ℕ)) → sets ≡ members_of x ∷ rest → length xs < 16 → zs ≡ xs ++ x ∷ []
    → map members_of xs ++ take (16 - length xs) sets ≡ all → map members_of zs ++ take (16 - length zs) rest ≡ all
one_more xs zs x sets rest all e room z inv =
    let k : 16 - length xs ≡ suc (16 - length zs) = omega (arith, ap length z, length_push xs x) in
    ap (λ (u : List AlternativeSet). map members_of u ++ take (16 - length zs) rest) z
    ∙ ap (λ (u : List (List ℕ)). u ++ take (16 - length zs) rest) (map_push members_of xs x)
    ∙ append_assoc (map members_of xs) (members_of x ∷ []) (take (16 - length zs) rest)
    ∙ ap (λ (n : ℕ). map members_of xs ++ take n (members_of x ∷ rest)) (sym k)
    ∙ ap (λ (u : List (List ℕ)). map members_of xs ++ take (16 - length xs) u) (sym e) ∙ inv

-- one that follows is taken, or there is no more room
turn : (r : Result (Unit {0}) NoRoom) (list new : Bounded AlternativeSet 16) (x : AlternativeSet) (sets rest all : List (List ℕ)) → IsOk r ↔ (length (items list) < 16) → OnOk r (items new ≡ items list ++ x ∷ []) → OnErr r (new ≡ list) → sets ≡ members_of x ∷ rest
    → map members_of (items list) ++ take (16 - length (items list)) sets ≡ all → map members_of (items new) ++ take (16 - length (items new)) rest ≡ all
turn (Ok u) list new x sets rest all room put _ e inv = one_more (items list) (items new) x sets rest all e (room.0 refl) put inv
turn (Err k) list new x sets rest all room _ same e inv =
    let l = full (length (items list)) 16 room.1 in
    let n : 16 - length (items list) ≡ 0 = omega arith in
    rw (same, n) (rw n at inv)

pub loop-members-preserved : goal.loop-members-preserved
loop-members-preserved c =
    turn c.push.result c.loop-members.list c.push.new.self (record { members = c.in-Some-Alternatives.members }) _ _ _ c.push.ensures.variant c.push.ensures.ok c.push.ensures.err
    (ap following (rw c.in-Some-Alternatives.field-0-is at c.in-Some-Alternatives.ensures)) c.loop-members.invariant
