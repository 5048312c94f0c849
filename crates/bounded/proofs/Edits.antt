-- What an edit in place leaves of the items, which stand first in the array.
use Rattle.std.proofs.Common.{◌≡◌, ℕ, suc, ◌+◌, ◌-◌, ◌<◌, ◌≤◌, List, [], ◌∷◌, ◌++◌, length, take, drop, insert, remove, sym, ap, ◌∙◌, add-one, arith}
use borrow.Rule.Slice.PartMut.{put_mid, mid_of}
use lib.Seq.{take-set-lt}
use Rattle.std.proofs.lemmas.List.{take-take, drop-drop, take_at, drop_at, append_assoc, length-take-le, length-drop, length-append, drop-append-le, take-append-le, length_push}
use Rattle.std.proofs.lemmas.Slice.{between_is, take-put_mid}

module _ {X : Type 0} where
  -- the part of a list that has n items before the place n
  part : (xs : List X) (i n : ℕ) → i ≤ n → n ≤ length xs → length (mid_of i (n - i) xs) ≡ n - i
  part xs i n lt le = length-take-le (n - i) (drop i xs) (omega (arith, length-drop i xs))

  -- the items after the place are moved down
  pub removed : (xs ys : List X) (i n : ℕ) → i < n → n ≤ length xs → ys ≡ drop 1 (mid_of i (n - i) xs) ++ take 1 (mid_of i (n - i) xs)
      → take (n - 1) (put_mid i (n - i) xs ys) ≡ remove (take n xs) i
  removed xs ys i n lt le e =
      let mid : List X = mid_of i (n - i) xs in
      let count : length mid ≡ n - i = part xs i n (omega arith) le in
      let rest : drop 1 mid ≡ drop (suc i) (take n xs) = ap (drop 1) (between_is xs i n) ∙ drop-drop 1 i (take n xs) ∙ ap (λ (k : ℕ). drop k (take n xs)) (add-one i) in
      let front = length-take-le i xs (omega arith) in
      let ones = length-take-le 1 mid (omega arith) in
      let less = length-drop 1 mid in
      let all = ap length e ∙ length-append (drop 1 mid) (take 1 mid) in
      sym (take-take (n - 1) n (put_mid i (n - i) xs ys) (omega arith))
      ∙ ap (take (n - 1)) (take-put_mid i (n - i) xs ys n (omega arith) (omega arith) ∙ ap (λ (t : List X). take i xs ++ t) e ∙ sym (append_assoc (take i xs) (drop 1 mid) (take 1 mid)))
      ∙ take_at (take i xs ++ drop 1 mid) (take 1 mid) (n - 1) (omega (arith, length-append (take i xs) (drop 1 mid)))
      ∙ ap (λ (t : List X). take i xs ++ t) rest
      ∙ ap (λ (t : List X). t ++ drop (suc i) (take n xs)) (sym (take-take i n xs (omega arith)))

  -- the items from the place on are moved up, and the last of n goes there
  pub inserted : (xs ys front : List X) (i n : ℕ) (x : X) → take n xs ≡ front ++ x ∷ [] → i ≤ length front → n ≤ length xs
      → ys ≡ drop (length (mid_of i (n - i) xs) - 1) (mid_of i (n - i) xs) ++ take (length (mid_of i (n - i) xs) - 1) (mid_of i (n - i) xs)
      → take n (put_mid i (n - i) xs ys) ≡ insert front i x
  inserted xs ys front i n x first le lt e =
      let one : n ≡ length front + 1 = sym (length-take-le n xs lt) ∙ ap length first ∙ length_push front x in
      let mid : List X = mid_of i (n - i) xs in
      let count : length mid ≡ n - i = part xs i n (omega arith) lt in
      let split : mid ≡ drop i front ++ x ∷ [] = between_is xs i n ∙ ap (drop i) first ∙ drop-append-le i front (x ∷ []) le in
      let size : length (drop i front) ≡ length mid - 1 = omega (arith, length-drop i front) in
      let turned : ys ≡ x ∷ drop i front =
      e ∙ ap (λ (t : List X). drop (length mid - 1) t ++ take (length mid - 1) t) split
      ∙ ap (λ (t : List X). t ++ take (length mid - 1) (drop i front ++ x ∷ [])) (drop_at (drop i front) (x ∷ []) (length mid - 1) size)
      ∙ ap (λ (t : List X). (x ∷ []) ++ t) (take_at (drop i front) (x ∷ []) (length mid - 1) size) in
      take-put_mid i (n - i) xs ys n (omega (arith, ap length turned)) (omega arith)
      ∙ ap (λ (t : List X). take i xs ++ t) turned
      ∙ ap (λ (t : List X). t ++ (x ∷ drop i front)) (sym (take-take i n xs (omega arith)) ∙ ap (take i) first ∙ take-append-le i front (x ∷ []) le)

-- a write below n is one to the first n items
pub ruleset edits = (take-set-lt)
