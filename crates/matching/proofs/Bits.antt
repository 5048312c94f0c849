-- The bits of masks: of two together, one that is set, and how many are.
use Rattle.std.proofs.Common.{◌≡◌, ℕ, zero, suc, ◌+◌, ◌-◌, ◌/◌, ◌%◌, ◌^◌, ◌<◌, ◌≤◌, ◌&&◌, ◌||◌, min, max, Bool, true, false, cond, not, eqb, w16, sym, refl, ap, ◌∙◌, subst, inl, inr, mod-lt, pow-suc, arith}
use lib.Bits.{bit_and, bit_or}
use lib.Count.{ones}
use Rattle.std.specs.Int.{bit_at, bit_not}
use Rattle.std.proofs.lemmas.Bool.{cases_eq, cases_lt, cond-false}
use Rattle.std.proofs.lemmas.Nat.{ones-le, ones_cat, shr_split, shr_below, le-div, pow_pos, pow-add}
use Rattle.std.proofs.lemmas.Nat.Bits.{bit_at_and, bit_at_or, bit_at_not, bit_at-lt, bit_at_cat_low}
use Rattle.std.proofs.lemmas.Bool.Decides.{nat_tests}
use Rattle.bounded.specs.Bit.{bit}
use Rattle.matching.specs.Board.{count}
use Rattle.matching.proofs.Count.{count_same}

-- the bits of two masks joined
pub bit_of_or : (x y s : ℕ) → bit (bit_or x y) s ≡ (bit x s || bit y s)
unfolding bit
bit_of_or x y s = ap (λ (z : ℕ). eqb z 1) (bit_at_or x y s) ∙ either (bit_at x s) (bit_at y s) (bit_at-lt x s) (bit_at-lt y s)
  where
    either : (a b : ℕ) → a < 2 → b < 2 → eqb (max a b) 1 ≡ (eqb a 1 || eqb b 1)
    either a b l k = grind (arith, nat_tests)

-- the bits that two masks have in common
pub bit_of_and : (x y s : ℕ) → bit (bit_and x y) s ≡ (bit x s && bit y s)
unfolding bit
bit_of_and x y s = ap (λ (z : ℕ). eqb z 1) (bit_at_and x y s) ∙ both (bit_at x s) (bit_at y s) (bit_at-lt x s) (bit_at-lt y s)
  where
    both : (a b : ℕ) → a < 2 → b < 2 → eqb (min a b) 1 ≡ (eqb a 1 && eqb b 1)
    both a b l k = grind (arith, nat_tests)

-- what a mask has that another has not
pub bit_of_without : (x y s : ℕ) → y < 2 ^ 16 → s < 16 → bit (bit_and x (bit_not w16 y)) s ≡ (bit x s && not (bit y s))
unfolding bit
bit_of_without x y s l k =
    bit_of_and x (bit_not w16 y) s
    ∙ ap (λ (b : Bool). eqb (bit_at x s) 1 && b) (ap (λ (z : ℕ). eqb z 1) (bit_at_not w16 y s l k) ∙ other (bit_at y s) (bit_at-lt y s))
  where
    other : (a : ℕ) → a < 2 → eqb (1 - a) 1 ≡ not (eqb a 1)
    other a l = grind (arith, nat_tests)

-- a mask that is not 0 has a bit
pub some_bit : (x : ℕ) → 0 < x → (s : ℕ) × (bit x s ≡ true)
unfolding bit
some_bit x p = within x x p (below_pow x)
  where
    below_pow : (n : ℕ) → n < 2 ^ n
    below_pow zero = omega arith
    below_pow (suc n) = omega (arith, pow-suc 2 n, below_pow n)

    within : (k x : ℕ) → 0 < x → x < 2 ^ k → (s : ℕ) × (bit x s ≡ true)
    within zero x p l = absurd (omega arith)
    within (suc k) x p l = elim (cases_lt x (2 ^ k)) [
      | inl below ↦ within k x p below
      | inr from ↦
          let high : x / 2 ^ k < 2 = shr_below x 1 k (omega (arith, pow-add 2 1 k, pow-suc 2 k)) in
          let low : 1 ≤ x / 2 ^ k = le-div 1 x (2 ^ k) (pow_pos k) (omega arith) in
          let one : x / 2 ^ k ≡ 1 = omega arith in
          (k, ap (λ (z : ℕ). eqb (z % 2) 1) one)
    ]

-- as many digits as bits that are set
pub ones_count : (n x : ℕ) → x < 2 ^ n → ones x ≡ count (bit x) n
unfolding bit ones
ones_count zero x l = omega (arith, ones-le 0 x l)
ones_count (suc n) x l =
    let high : ℕ = x / 2 ^ n in
    let low : ℕ = x % 2 ^ n in
    let below : low < 2 ^ n = mod-lt x (pow_pos n) in
    let cat : ones x ≡ ones high + ones low = subst (λ (z : ℕ). ones z ≡ ones high + ones low) (shr_split x n) (ones_cat n high low below) in
    let rest : count (bit low) n ≡ count (bit x) n =
    count_same (bit low) (bit x) n (λ s k. ap (λ (z : ℕ). eqb z 1) (sym (bit_at_cat_low high n low s k) ∙ ap (λ (z : ℕ). bit_at z s) (shr_split x n))) in
    let first : ones high ≡ cond (bit x n) 1 0 = top high (shr_below x 1 n (omega (arith, pow-add 2 1 n, pow-suc 2 n))) in
    omega (arith, cat, rest, first, ones_count n low below)
  where
    top : (high : ℕ) → high < 2 → ones high ≡ cond (eqb (high % 2) 1) 1 0
    top zero _ = refl
    top (suc zero) _ = refl
    top (suc (suc a)) l = absurd (omega arith)

-- no more pass from m on
pub count_beyond : (P : ℕ → Bool) (m n : ℕ) → m ≤ n → ((s : ℕ) → m ≤ s → P s ≡ false) → count P n ≡ count P m
count_beyond P m zero l none = let e : m ≡ 0 = omega arith in ap (count P) (sym e)
count_beyond P m (suc n) l none = elim (cases_eq m (suc n)) [
  | inl e ↦ ap (count P) (sym e)
  | inr ne ↦
      let more : count P n ≡ count P m = count_beyond P m n (omega arith) none in
      omega (arith, cond-false {A = ℕ} (P n) 1 0 (none n (omega arith)))
]
