-- The records of octets, one after another.
use Rattle.std.proofs.Common.{◌≡◌, ℕ, zero, suc, min, ◌+◌, ◌/◌, ◌<◌, List, [], ◌∷◌, map, length, get_or, take, drop, sym, refl, ap, ◌∙◌, add-one, add-zero, arith, lit<}
use native.Mathlib.Nat.{add-div_right, div-eq_of_lt}
use Rattle.std.proofs.lemmas.List.{get_or-take, get_or-drop, drop-drop}
use Rattle.std.specs.Simd.{first_chunks}
use Rattle.records.specs.Layout.{shorts, be16, rec_of, Rec}
use Rattle.records.specs.Reads.{rows_of, says_of}

pub rows_none : (xs : List ℕ) → length xs < 32 → rows_of xs ≡ []
unfolding rows_of
rows_none xs h = ap (λ (k : ℕ). first_chunks 32 k xs) (div-eq_of_lt h)

pub rows_more : (xs ys : List ℕ) → ys ≡ drop 32 xs → length ys + 32 ≡ length xs → rows_of xs ≡ take 32 xs ∷ rows_of ys
unfolding rows_of
rows_more xs ys e h =
    let q : length xs / 32 ≡ suc (length ys / 32) = ap (λ (n : ℕ). n / 32) (sym h) ∙ add-div_right (length ys) (lit< tt) ∙ add-one (length ys / 32) in
    ap (λ (k : ℕ). first_chunks 32 k xs) q ∙ ap (λ (zs : List ℕ). take 32 xs ∷ first_chunks 32 (length ys / 32) zs) (sym e)

pub says_none : (rs : List (List ℕ)) → rs ≡ [] → says_of rs ≡ []
unfolding says_of
says_none rs e = ap (map rec_of) e

pub says_more : (rs ts : List (List ℕ)) (o : List ℕ) (r : Rec) → rs ≡ o ∷ ts → r ≡ rec_of o → says_of rs ≡ r ∷ says_of ts
unfolding says_of
says_more rs ts o r e f = ap (map rec_of) e ∙ ap (λ (x : Rec). x ∷ map rec_of ts) (sym f)

pub length-shorts : (n at : ℕ) (o : List ℕ) → length (shorts n at o) ≡ n
length-shorts zero at o = refl
length-shorts (suc n) at o = ap suc (length-shorts n (at + 2) o)

-- the numbers of n pairs of octets, of the k pairs from a place on
pub pairs_shorts : (n k at : ℕ) (o : List ℕ) → map (λ (p : List ℕ). be16 p 0) (take n (first_chunks 2 k (drop at o))) ≡ shorts (min n k) at o
pairs_shorts zero k at o = let e : 0 ≡ min 0 k = omega arith in ap (λ (m : ℕ). shorts m at o) e
pairs_shorts (suc n) zero at o = let e : 0 ≡ min (suc n) 0 = omega arith in ap (λ (m : ℕ). shorts m at o) e
pairs_shorts (suc n) (suc k) at o =
    let high : get_or (take 2 (drop at o)) 0 0 ≡ get_or o at 0 = get_or-take 2 (drop at o) 0 0 (omega arith) ∙ get_or-drop at o 0 0 ∙ ap (λ (i : ℕ). get_or o i 0) (add-zero at) in
    let low : get_or (take 2 (drop at o)) 1 0 ≡ get_or o (at + 1) 0 = get_or-take 2 (drop at o) 1 0 (omega arith) ∙ get_or-drop at o 1 0 in
    let here : be16 (take 2 (drop at o)) 0 ≡ be16 o at = cc in
    let there : map (λ (p : List ℕ). be16 p 0) (take n (first_chunks 2 k (drop 2 (drop at o)))) ≡ shorts (min n k) (at + 2) o = rw drop-drop (pairs_shorts n k (at + 2) o) in
    let both : suc (min n k) ≡ min (suc n) (suc k) = omega arith in
    ap (λ (m : ℕ). m ∷ map (λ (p : List ℕ). be16 p 0) (take n (first_chunks 2 k (drop 2 (drop at o))))) here
    ∙ ap (λ (t : List ℕ). be16 o at ∷ t) there ∙ ap (λ (m : ℕ). shorts m at o) both

-- the pairs of a record
pub pairs_of : (o : List ℕ) (ps : List (List ℕ)) → length o ≡ 32 → ps ≡ first_chunks 2 (length o / 2) o → ps ≡ first_chunks 2 16 o
pairs_of o ps w e = e ∙ ap (λ (n : ℕ). first_chunks 2 (n / 2) o) w
