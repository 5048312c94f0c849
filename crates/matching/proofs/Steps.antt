-- The steps of a seating, over holders and visited sets.
use Rattle.std.proofs.Common.{◌≡◌, ℕ, ◌+◌, ◌<◌, ◌≤◌, Bool, true, false, ◌&&◌, ◌⊎◌, sym, ap, ◌∙◌, subst, inl, inr, arith}
use Rattle.std.proofs.lemmas.Bool.{cases_eq, cases_lt, cases_Bool, and_parts}
use Rattle.std.proofs.lemmas.Bool.Decides.{nat_tests}
use Rattle.matching.specs.Board.{count, reach, Carries, Blocks}
use Rattle.matching.proofs.Count.{count_inj, count_less, less, less_from, any_some}
use Rattle.matching.specs.Steps.{Holds, Free, Sound, Seated, Tried, Refused, Placed}

abbrev pub Within : ℕ → (ℕ → Bool) → (ℕ → Bool) → Type 0
Within m V W = (s : ℕ) → s < m → V s ≡ true → W s ≡ true

-- what W leaves out, V leaves out
pub outside : (m : ℕ) (V W : ℕ → Bool) → Within m V W → (s : ℕ) → s < m → W s ≡ false → V s ≡ false
outside m V W sub s l w = grind (arith, nat_tests, sub s l)

module _ {can : ℕ → ℕ → Bool} {n m : ℕ} where
  -- a seating over fewer sets is one over more
  pub widen : {V W : ℕ → Bool} {H K : ℕ → ℕ} {r : ℕ} → Within m V W → Sound can n m V H → Free m V H r
      → Seated can n m W H K r → Seated can n m V H K r
  widen {V} {W} {H} {K} {r} sub good free st =
      record {
        kept = λ t l v. st.kept t l (sub t l v);
        sound = record {
          own = λ s t ls lt vs vt hs e.
              grind (arith, nat_tests, good.own s t ls lt vs vt, st.kept s ls, st.kept t lt, apart s t ls lt vs, apart t s lt ls vt, st.sound.own s t ls lt);
          fit = λ s ls vs hs. grind (arith, nat_tests, st.kept s ls, good.fit s ls vs, st.sound.fit s ls);
        };
        still = λ t l v h. elim (cases_Bool (W t)) [ inl w ↦ (t, l, v, st.kept t l w) | inr w ↦ lift K (H t) (st.still t l w h) ];
        here = λ h. lift K r (st.here h);
        only = λ t l v h. elim (cases_Bool (W t)) [
          | inl w ↦ inr (t, l, v, sym (st.kept t l w))
          | inr w ↦ elim (st.only t l w h) [ inl e ↦ inl e | inr u ↦ inr (lift H (K t) u) ]
        ];
      }
    where
      lift : (F : ℕ → ℕ) (x : ℕ) → Holds m W F x → Holds m V F x
      lift F x u = (u.0, u.1, outside m V W sub u.0 u.1 u.2, u.3)

      apart : (s t : ℕ) → s < m → t < m → V s ≡ false → W s ≡ true → W t ≡ false → K s < n → K s ≡ K t → ⊥
      apart s t ls lt vs ws wt hs e =
          let es : K s ≡ H s = st.kept s ls ws in
          elim (st.only t lt wt (subst (λ x. x < n) e hs)) [
            | inl er ↦ free s ls vs (sym es ∙ e ∙ er)
            | inr u ↦ grind (arith, nat_tests, good.own s u.0 ls u.1 vs (outside m V W sub u.0 u.1 u.2))
          ]

  -- set s was freed and row r put there: row r is seated as well
  pub put : {V W : ℕ → Bool} {H K L : ℕ → ℕ} (r s : ℕ) → s < m → r < n → V s ≡ false → W s ≡ true → ((t : ℕ) → (t ≡ s → ⊥) → W t ≡ V t)
      → Sound can n m V H → Free m V H r → can r s ≡ true
      → Seated can n m W H K (H s) → L s ≡ r → ((t : ℕ) → (t ≡ s → ⊥) → L t ≡ K t) → Seated can n m V H L r
  put {V} {W} {H} {K} {L} r s ls lr vs ws wo good free fits st new old =
      record {
        kept = λ t l v. grind (arith, nat_tests, old t, wo t, st.kept t l);
        sound = record {
          own = λ a b la lb va vb ha e.
              grind (arith, nat_tests, old a, old b, wo a, wo b, fresh a la, fresh b lb, st.sound.own a b la lb);
          fit = λ a la va ha. grind (arith, nat_tests, old a, wo a, st.sound.fit a la);
        };
        still = λ t l v h. elim (cases_eq t s) [
          | inl ts ↦ subst (λ x. Holds m V L (H x)) (sym ts) (lift_l (H s) (st.here (subst (λ x. H x < n) ts h)))
          | inr ts ↦ lift_l (H t) (st.still t l (wo t ts ∙ v) h)
        ];
        here = λ h. (s, ls, vs, new);
        only = λ t l v h. elim (cases_eq t s) [
          | inl ts ↦ inl (ap L ts ∙ new)
          | inr ts ↦ elim (st.only t l (wo t ts ∙ v) (subst (λ x. x < n) (old t ts) h)) [
            | inl e ↦ inr (s, ls, vs, sym e ∙ sym (old t ts))
            | inr u ↦ inr (u.0, u.1, out u.0 u.2, u.3 ∙ sym (old t ts))
          ]
        ];
      }
    where
      other : (u : ℕ) → W u ≡ false → u ≡ s → ⊥
      other u w e = grind (arith, nat_tests)

      out : (u : ℕ) → W u ≡ false → V u ≡ false
      out u w = sym (wo u (other u w)) ∙ w

      lift_l : (x : ℕ) → Holds m W K x → Holds m V L x
      lift_l x u = (u.0, u.1, out u.0 u.2, old u.0 (other u.0 u.2) ∙ u.3)

      fresh : (t : ℕ) → t < m → W t ≡ false → K t ≡ r → ⊥
      fresh t l w e = elim (st.only t l w (subst (λ x. x < n) (sym e) lr)) [
        | inl x ↦ free s ls vs (sym x ∙ e)
        | inr u ↦ free u.0 u.1 (out u.0 u.2) (u.3 ∙ e)
      ]

  -- set i was visited and could not be freed
  pub tried_more : {V W X Y : ℕ → Bool} {H : ℕ → ℕ} (i : ℕ) → i < m → W i ≡ false → X i ≡ true → ((t : ℕ) → (t ≡ i → ⊥) → X t ≡ W t)
      → H i < n → Refused can n m X Y H (H i) → Tried can n m V W H → Tried can n m V Y H
  tried_more {V} {W} {X} {Y} {H} i li wi xi xo hi no-seat sr =
      record {
        more = λ s l v. grow s l (sr.more s l v);
        held = λ s l f y. elim (cases_eq s i) [
          | inl e ↦ (subst (λ x. H x < n) (sym e) hi, λ t lt c. no-seat.all t lt (subst (λ x. can (H x) t ≡ true) e c))
          | inr ne ↦ elim (cases_Bool (W s)) [
            | inl w ↦ ((sr.held s l f w).0, λ t lt c. grow t lt ((sr.held s l f w).1 t lt c))
            | inr w ↦ no-seat.tried.held s l (xo s ne ∙ w) y
          ]
        ];
      }
    where
      grow : (s : ℕ) → s < m → W s ≡ true → Y s ≡ true
      grow s l w = grind (arith, nat_tests, no-seat.tried.more s l, xo s)

  -- a search that began with nothing visited and was refused everything: its rows block
  pub refused_blocks : {V W : ℕ → Bool} {H : ℕ → ℕ} {r : ℕ} (group : ℕ → Bool) → ((s : ℕ) → s < m → V s ≡ false) → r < n
      → Sound can n m V H → Free m V H r → Refused can n m V W H r
      → group r ≡ true → ((s : ℕ) → s < m → W s ≡ true → group (H s) ≡ true)
      → ((q : ℕ) → q < n → group q ≡ true → (q ≡ r) ⊎ ((s : ℕ) × (s < m) × (W s ≡ true) × (H s ≡ q)))
      → Blocks can n m group
  refused_blocks {V} {W} {H} {r} group none lr good free no-seat root rows back =
      let sets : count (reach can n group) m ≤ count W m =
      count_inj (reach can n group) W (λ s. s) m m
      (λ s l g. (l, seen s l (any_some (λ q. group q && can q s) n g)))
      (λ s t ls lt _ _ e. e) in
      let others : count W m ≤ count (less group r) n =
      count_inj W (less group r) H m n
      (λ s l w. ((no-seat.tried.held s l (none s l) w).0, less_from group r (H s) (rows s l w) (free s l (none s l))))
      (λ s t ls lt ws wt e. good.own s t ls lt (none s ls) (none t lt) (no-seat.tried.held s ls (none s ls) ws).0 e) in
      let one : count (less group r) n + 1 ≡ count group n = count_less group r n lr root in
      (omega arith, omega arith)
    where
      seen : (s : ℕ) → s < m → ((q : ℕ) × (q < n) × ((group q && can q s) ≡ true)) → W s ≡ true
      seen s l h =
          let two : (group h.0 ≡ true) × (can h.0 s ≡ true) = and_parts (group h.0) (can h.0 s) h.2 in
          elim (back h.0 h.1 two.0) [
            | inl e ↦ no-seat.all s l (subst (λ x. can x s ≡ true) e two.1)
            | inr u ↦ (no-seat.tried.held u.0 u.1 (none u.0 u.1) u.2).1 s l (subst (λ x. can x s ≡ true) (sym u.3) two.1)
          ]

  -- the loop over the rows, each begun with nothing visited
  pub placed_sound : {V : ℕ → Bool} {H : ℕ → ℕ} {r : ℕ} → Placed can n m H r → Sound can n m V H
  placed_sound p = record { own = λ s t ls lt vs vt. p.own s t ls lt; fit = λ s ls vs. p.fit s ls }

  pub placed_free : (V : ℕ → Bool) {H : ℕ → ℕ} {r : ℕ} → r < n → Placed can n m H r → Free m V H r
  placed_free V lr p s l v e = omega (arith, p.below s l (omega arith))

  pub placed_more : {V : ℕ → Bool} {H K : ℕ → ℕ} {r : ℕ} → ((s : ℕ) → V s ≡ false) → r < n → Placed can n m H r → Seated can n m V H K r → Placed can n m K (r + 1)
  placed_more {V} {H} {K} {r} none lr p st =
      record {
        own = λ s t ls lt. st.sound.own s t ls lt (none s) (none t);
        fit = λ s ls. st.sound.fit s ls (none s);
        upto = λ q l. elim (cases_eq q r) [
          | inl e ↦ let u : Holds m V K r = st.here lr in (u.0, u.1, u.3 ∙ sym e)
          | inr ne ↦
              let u : (u : ℕ) × (u < m) × (H u ≡ q) = p.upto q (omega arith) in
              let k : Holds m V K (H u.0) = st.still u.0 u.1 (none u.0) (omega (arith, u.2)) in
              (k.0, k.1, k.3 ∙ u.2)
        ];
        below = λ s l h. elim (st.only s l (none s) h) [ inl e ↦ omega arith | inr u ↦ omega (arith, u.3, p.below u.0 u.1 (omega (arith, u.3))) ];
      }

module _ (can : ℕ → ℕ → Bool) (n m : ℕ) where
  -- every row is seated: the holders are a seating
  pub placed_carry : (H : ℕ → ℕ) → Placed can n m H n → Carries can n m
  placed_carry H p = (f, (λ r l. ((f_of r l).0, (f_of r l).1.0)), λ r q lr lq e. sym (f_of r lr).1.1 ∙ ap H e ∙ (f_of q lq).1.1)
    where
      pick : (r : ℕ) → (r < n) ⊎ (n ≤ r) → ℕ
      pick r (inl l) = (p.upto r l).0
      pick r (inr l) = 0

      f : ℕ → ℕ
      f r = pick r (cases_lt r n)

      pick_of : (r : ℕ) → r < n → (w : (r < n) ⊎ (n ≤ r)) → (pick r w < m) × ((can r (pick r w) ≡ true) × (H (pick r w) ≡ r))
      pick_of r l (inl k) =
          let u = p.upto r k in
          (u.1, (subst (λ x. can x u.0 ≡ true) u.2 (p.fit u.0 u.1 (omega (arith, u.2))), u.2))
      pick_of r l (inr k) = absurd (omega arith)

      f_of : (r : ℕ) → r < n → (f r < m) × ((can r (f r) ≡ true) × (H (f r) ≡ r))
      f_of r l = pick_of r l (cases_lt r n)
