-- Scratch memory of which the first octets were lent.
use Rattle.std.proofs.Common.{◌≡◌, ℕ, ◌≤◌, ltb, List, ◌++◌, length, drop, replicate, sym, ap, ◌∙◌, append-nil, arith}
use Rattle.std.proofs.lemmas.Bool.{cond-false, le-ltb}
use Rattle.std.proofs.lemmas.List.{drop_all}
use Rattle.search.specs.Scratch.{cleared, left_over}

-- scratch of 512 octets or more is left cleared
pub left_cleared : (xs : List ℕ) → 512 ≤ length xs → left_over xs ≡ cleared xs
left_cleared xs h = cond-false (ltb (length xs) 512) xs (cleared xs) (le-ltb (length xs) 512 h)

-- where the first 512 octets are zeroed, and the others stay
pub cleared_parts : (xs ys front back : List ℕ) → 512 ≤ length xs → length ys ≡ 512 → front ≡ cleared ys → back ≡ drop 512 xs → front ++ back ≡ left_over xs
unfolding cleared
cleared_parts xs ys front back h l f b =
    let none : replicate 512 0 ++ drop 512 ys ≡ replicate 512 0 = ap (λ (t : List ℕ). replicate 512 0 ++ t) (drop_all 512 ys (omega arith)) ∙ append-nil (replicate 512 0) in
    ap (λ (t : List ℕ). t ++ back) (f ∙ none) ∙ ap (λ (t : List ℕ). replicate 512 0 ++ t) b ∙ sym (left_cleared xs h)
