-- An input is cut into pieces in one way alone.
use Rattle.std.proofs.Common.{◌≡◌, ℕ, ◌<◌, List, [], ◌∷◌, ◌++◌, length, sym, refl, ap, ◌∙◌, subst, inl, inr, arith}
use Rattle.cutting.specs.Cut.{Kind, set_message, mode_message, bad_record, short_rest, Portion, SetExtent, ModeExtent, Extent, Cut, Pieces, OneCutting}

-- no set message at the front is shorter than another there
set_below : (xs : List ℕ) (j k : ℕ) → SetExtent xs j → SetExtent xs k → j < k → ⊥
set_below xs j k a b h =
    let m = a.some in let n = b.most in let o = b.whole in
    elim a.stops [ inl t ↦ b.unended _ (omega arith) t | inr r ↦ elim r [ inl e ↦ omega arith | inr f ↦ f (omega arith) ] ]

-- no mode message at the front is shorter than another there
mode_below : (xs : List ℕ) (j k : ℕ) → ModeExtent xs j → ModeExtent xs k → j < k → ⊥
mode_below xs j k a b h =
    let n = b.most in let o = b.whole in
    elim a.stops [ inl e ↦ omega arith | inr r ↦ elim r [ inl f ↦ f (omega arith) | inr g ↦ g (b.tags j (omega arith)) ] ]

-- numbers of which neither is below the other are equal
not_below : (j k : ℕ) → (j < k → ⊥) → (k < j → ⊥) → j ≡ k
not_below j k a b = omega arith

-- pieces of one kind at the front have one extent
same_extent : (xs : List ℕ) (w : Kind) (m n : ℕ) → Extent xs w m → Extent xs w n → m ≡ n
same_extent xs set_message m n (j, (d, a)) (k, (e, b)) = let h = not_below j k (set_below xs j k a b) (set_below xs k j b a) in omega arith
same_extent xs mode_message m n (j, (d, a)) (k, (e, b)) = let h = not_below j k (mode_below xs j k a b) (mode_below xs k j b a) in omega arith
same_extent xs bad_record m n a b = omega arith
same_extent xs short_rest m n a b = omega arith

-- lists that join to the same list are the same, where the first ones are equally long
same_front : (a b c d : List ℕ) → a ++ b ≡ c ++ d → length a ≡ length c → (a ≡ c) × (b ≡ d)
same_front [] b [] d e h = (refl, e)
same_front [] b (y ∷ c) d e h = absurd (omega arith)
same_front (x ∷ a) b [] d e h = absurd (omega arith)
same_front (x ∷ a) b (y ∷ c) d e h =
    let t : a ++ b ≡ c ++ d = cc in let v : x ≡ y = cc in
    let r = same_front a b c d t (omega arith) in (λ i. v i ∷ r.0 i, r.1)

-- an input has one piece at its front, and one rest
same_cut : (xs : List ℕ) (p q : Portion) (s t : List ℕ) → Cut xs p s → Cut xs q t → (p ≡ q) × (s ≡ t)
same_cut xs p q s t a b =
    let w : p.kind ≡ q.kind = a.kind ∙ sym b.kind in
    let n = same_extent xs q.kind (length p.octets) (length q.octets) (subst (λ (v : Kind). Extent xs v (length p.octets)) w a.extent) b.extent in
    let o = same_front p.octets s q.octets t (sym a.joined ∙ b.joined) n in
    (λ i. record { kind = w i; octets = o.0 i }, o.1)

pub one_cutting : OneCutting
one_cutting xs [] [] a b = refl
one_cutting xs [] (q ∷ qs) a (t, (b, g)) = let z = ap length a in let h = b.some in absurd (omega arith)
one_cutting xs (p ∷ ps) [] (s, (a, f)) b = let z = ap length b in let h = a.some in absurd (omega arith)
one_cutting xs (p ∷ ps) (q ∷ qs) (s, (a, f)) (t, (b, g)) =
    let e = same_cut xs p q s t a b in
    let r = one_cutting t ps qs (subst (λ (l : List ℕ). Pieces l ps) e.1 f) g in
    (λ i. e.0 i ∷ r i)
