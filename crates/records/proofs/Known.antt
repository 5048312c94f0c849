-- What is known of what a record says: its tag, and the fields of one that is in range.
use Rattle.std.proofs.Common.{◌≡◌, ℕ, ◌+◌, ◌*◌, ◌≤◌, min, Bool, true, false, cond, not, ◌&&◌, eqb, leb, List, [], ◌∷◌, map, length, get_or, drop, sym, refl, ap, ◌∙◌, subst, inl, inr, arith}
use Rattle.std.specs.List.{list_all}
use Rattle.std.proofs.lemmas.Bool.{cases_eq, eqb-false, not-true, leb-true, le-leb, and_parts, and_from, ne_eqb, both_ways}
use Rattle.records.specs.Layout.{Rec, begin, entry, removed, descriptor, alternatives, end, mode, element, other, rec_of, be16, be32, shorts, all_zero, all_named, in_range, all_in_range}
use Rattle.records.specs.Reads.{says_of, tags}
use Rattle.records.proofs.Rows.{length-shorts}
use Rattle.records.proofs.Tags.{no_case}

abbrev pub tag_of : Rec → ℕ
tag_of (begin s) = 1
tag_of (entry n c) = 2
tag_of (removed n) = 3
tag_of (descriptor d) = 4
tag_of (alternatives ms) = 5
tag_of end = 6
tag_of mode = 7
tag_of (element p) = 8
tag_of (other t) = t

-- numbers of entries are 1 or more, and a set has 1 to 15 members
abbrev pub sound : Rec → Bool
sound (begin s) = true
sound (entry n c) = leb 1 n
sound (removed n) = leb 1 n
sound (descriptor d) = true
sound (alternatives ms) = leb 1 (length ms) && leb (length ms) 15
sound end = true
sound mode = true
sound (element p) = true
sound (other t) = true

-- what a record says, and whether it is in range, by its tag
abbrev rec_by : List ℕ → ℕ → Rec
rec_by o t =
    cond (eqb t 1) (begin (get_or o 1 0))
    (cond (eqb t 2) (entry (be16 o 2) (record { kind = get_or o 1 0; p = be32 o 4; q = be32 o 8 }))
    (cond (eqb t 3) (removed (be16 o 2))
    (cond (eqb t 4) (descriptor (get_or o 1 0))
    (cond (eqb t 5) (alternatives (shorts (min (get_or o 1 0) 15) 2 o))
    (cond (eqb t 6) end
    (cond (eqb t 7) mode
    (cond (eqb t 8) (element (record { kind = get_or o 1 0; p = be32 o 4; q = be32 o 8 }))
    (other t))))))))

abbrev range_by : List ℕ → ℕ → Bool
range_by o t =
    cond (eqb t 1) (all_zero (drop 2 o))
    (cond (eqb t 2) (not (eqb (be16 o 2) 0) && all_zero (drop 12 o))
    (cond (eqb t 3) (not (eqb (be16 o 2) 0) && eqb (get_or o 1 0) 0 && all_zero (drop 4 o))
    (cond (eqb t 4) (all_zero (drop 2 o))
    (cond (eqb t 5) (leb 1 (get_or o 1 0) && leb (get_or o 1 0) 15 && all_named (shorts (get_or o 1 0) 2 o) && all_zero (drop (2 + 2 * get_or o 1 0) o))
    (cond (eqb t 6) (all_zero (drop 1 o))
    (cond (eqb t 7) (all_zero (drop 1 o))
    (cond (eqb t 8) (eqb (be16 o 2) 0 && all_zero (drop 12 o)) false)))))))

-- a tag is one of those that have a meaning, or none of them
by_tag : (P : ℕ → Type 0) → P 1 → P 2 → P 3 → P 4 → P 5 → P 6 → P 7 → P 8
    → ((t : ℕ) → eqb t 1 ≡ false → eqb t 2 ≡ false → eqb t 3 ≡ false → eqb t 4 ≡ false → eqb t 5 ≡ false → eqb t 6 ≡ false → eqb t 7 ≡ false → eqb t 8 ≡ false → P t) → (t : ℕ) → P t
by_tag P a b c d e f g h none t =
    at 1 a (λ i. at 2 b (λ j. at 3 c (λ k. at 4 d (λ l. at 5 e (λ m. at 6 f (λ n. at 7 g (λ o. at 8 h (λ p. none t (ne_eqb t 1 i) (ne_eqb t 2 j) (ne_eqb t 3 k) (ne_eqb t 4 l) (ne_eqb t 5 m) (ne_eqb t 6 n) (ne_eqb t 7 o) (ne_eqb t 8 p)))))))))
  where
    at : (n : ℕ) → P n → ((t ≡ n → ⊥) → P t) → P t
    at n yes' no' = elim (cases_eq t n) [ inl u ↦ subst P (sym u) yes' | inr u ↦ no' u ]

tag_by : (o : List ℕ) (t : ℕ) → tag_of (rec_by o t) ≡ t
tag_by o = by_tag (λ t. tag_of (rec_by o t) ≡ t) refl refl refl refl refl refl refl refl
    (λ t a b c d e f g h.
    ap tag_of (no_case t a b c d e f g h _ _ _ _ _ _ _ _ _))

from_one : (n : ℕ) → not (eqb n 0) ≡ true → leb 1 n ≡ true
from_one n e = le-leb 1 n (let k : n ≡ 0 → ⊥ = eqb-false n 0 (not-true (eqb n 0) e) in omega arith)

members_sound : (k : ℕ) (o : List ℕ) (x y : Bool) → (leb 1 k && leb k 15 && x && y) ≡ true → (leb 1 (length (shorts (min k 15) 2 o)) && leb (length (shorts (min k 15) 2 o)) 15) ≡ true
members_sound k o x y e =
    let a = and_parts (leb 1 k && leb k 15 && x) y e in
    let b = and_parts (leb 1 k && leb k 15) x a.0 in
    let c = and_parts (leb 1 k) (leb k 15) b.0 in
    let l : 1 ≤ k = leb-true 1 k c.0 in
    let m : k ≤ 15 = leb-true k 15 c.1 in
    let n = length-shorts (min k 15) 2 o in
    and_from _ _ (le-leb 1 (length (shorts (min k 15) 2 o)) (omega arith)) (le-leb (length (shorts (min k 15) 2 o)) 15 (omega arith))

sound_by : (o : List ℕ) (t : ℕ) → range_by o t ≡ true → sound (rec_by o t) ≡ true
sound_by o = by_tag (λ t. range_by o t ≡ true → sound (rec_by o t) ≡ true)
    (λ e. refl)
    (λ e. from_one (be16 o 2) (and_parts (not (eqb (be16 o 2) 0)) (all_zero (drop 12 o)) e).0)
    (λ e. from_one (be16 o 2) (and_parts (not (eqb (be16 o 2) 0)) (eqb (get_or o 1 0) 0) (and_parts (not (eqb (be16 o 2) 0) && eqb (get_or o 1 0) 0) (all_zero (drop 4 o)) e).0).0)
    (λ e. refl)
    (λ e. members_sound (get_or o 1 0) o (all_named (shorts (get_or o 1 0) 2 o)) (all_zero (drop (2 + 2 * get_or o 1 0) o)) e)
    (λ e. refl)
    (λ e. refl)
    (λ e. refl)
    (λ t a b c d e f g h u.
    absurd (both_ways false refl (sym (no_case t a b c d e f g h _ _ _ _ _ _ _ _ _) ∙ u)))

pub tags_said : (os : List (List ℕ)) → map tag_of (says_of os) ≡ tags os
unfolding says_of
tags_said [] = refl
tags_said (o ∷ os) = let a : tag_of (rec_of o) ≡ get_or o 0 0 = tag_by o (get_or o 0 0) in let b = tags_said os in cc

pub all_sound : (os : List (List ℕ)) → all_in_range os ≡ true → list_all sound (says_of os) ≡ true
unfolding says_of
all_sound [] e = refl
all_sound (o ∷ os) e =
    let p = and_parts (in_range o) (all_in_range os) e in
    and_from _ _ (sound_by o (get_or o 0 0) p.0) (all_sound os p.1)
