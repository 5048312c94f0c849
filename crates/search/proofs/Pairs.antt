-- Two lists that are related place by place, one of them built up.
use Rattle.std.proofs.Common.{◌≡◌, ℕ, ◌+◌, ◌<◌, List, Result, IsOk, OnOk, ◌↔◌, [], ◌∷◌, ◌++◌, length, get_or, sym, ap, ◌∙◌, subst, inl, inr, arith}
use Rattle.std.proofs.lemmas.List.{length_push, get_or_append_left, get_or_push, get_or_default}
use Rattle.std.proofs.lemmas.Bool.{cases_eq}
use Rattle.bounded.specs.declared.held.NoRoom.{NoRoom}
use Rattle.bounded.proofs.Most.{at_ok}
use Rattle.search.specs.Lists.{At}
use Rattle.search.proofs.Covers.{at_one}

module _ {X Y : Type 0} (Rel : ℕ → X → Y → Type 0) (xs : List X) where
  -- the ys are as many as the first i xs, and related to them
  pub record Paired (i : ℕ) (ys : List Y) : Type 0 where
    pub long : length ys ≡ i
    pub each : (k : ℕ) (x : X) (y : Y) → k < i → At x xs k → At y ys k → Rel k x y

  pub paired_none : (ys : List Y) → ys ≡ [] → Paired 0 ys
  paired_none ys e = record { long = ap length e; each = λ k x y l. absurd (omega arith) }

  pub paired_more : (i : ℕ) (ys zs : List Y) (x : X) (y : Y) → At x xs i → Rel i x y → zs ≡ ys ++ y ∷ [] → Paired i ys → Paired (i + 1) zs
  paired_more i ys zs x y a n e s = record {
    long = ap length e ∙ length_push ys y ∙ ap (λ (k : ℕ). k + 1) s.long;
    each = λ k u v l b c. elim (cases_eq k i) [
      | inl q ↦
          let same-x : x ≡ u = at_one xs i x u a (subst (λ j. At u xs j) q b) in
          let same-y : y ≡ v = sym (get_or_push ys y v i s.long) ∙ ap (λ (w : List Y). get_or w i v) (sym e) ∙ ap (λ j. get_or zs j v) (sym q) ∙ c.1 in
          subst (λ j. Rel j u v) (sym q) (subst (λ (z : X). Rel i z v) same-x (subst (Rel i x) same-y n))
      | inr ne ↦
          let l' : k < length ys = omega (arith, s.long) in
          s.each k u v (omega arith) b (l', sym (get_or_append_left ys (y ∷ []) v k l') ∙ ap (λ (w : List Y). get_or w k v) (sym e) ∙ c.1)
    ];
  }

  -- what is pushed where there is room
  pub paired_push : (i most : ℕ) (ys zs : List Y) (x : X) (y : Y) (r : Result (Unit {0}) NoRoom) → i < most → (IsOk r ↔ (length ys < most)) → OnOk r (zs ≡ ys ++ y ∷ []) → At x xs i → Rel i x y → Paired i ys → Paired (i + 1) zs
  paired_push i most ys zs x y r l room put a n s = paired_more i ys zs x y a n (at_ok r (room.1 (omega (arith, s.long))) put) s

-- the number beside each item
pub paired_index : {X : Type 0} (Rel : ℕ → X → ℕ → Type 0) (xs : List X) (i : ℕ) (ys : List ℕ) → Paired Rel xs i ys → (k : ℕ) (x : X) → k < i → At x xs k → Rel k x (get_or ys k 0)
paired_index Rel xs i ys s k x l a = let h : k < length ys = omega (arith, s.long) in s.each k x (get_or ys k 0) l a (h, sym (get_or_default ys k 0 (get_or ys k 0) h))
