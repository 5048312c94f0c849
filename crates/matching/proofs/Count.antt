-- Counting: a test less one number, and an injection from one test's numbers into another's.
use Rattle.std.proofs.Common.{◌≡◌, ℕ, zero, suc, ◌+◌, ◌<◌, ◌≤◌, Bool, true, not, ◌&&◌, ◌||◌, eqb, sym, refl, ap, ◌∙◌, add-one, inl, inr, arith}
use Rattle.std.proofs.lemmas.Bool.{cases_eq, cases_Bool, or_cases, cond-true, cond-false, true≢false}
use Rattle.std.proofs.lemmas.Bool.Decides.{nat_tests}
use Rattle.matching.specs.Board.{count, any}

-- a test without the number k
abbrev pub less : (ℕ → Bool) → ℕ → ℕ → Bool
less P k s = P s && not (eqb s k)

pub less_other : (P : ℕ → Bool) (k s : ℕ) → (s ≡ k → ⊥) → less P k s ≡ P s
less_other P k s ne = grind (arith, nat_tests)

pub less_from : (P : ℕ → Bool) (k s : ℕ) → P s ≡ true → (s ≡ k → ⊥) → less P k s ≡ true
less_from P k s p ne = less_other P k s ne ∙ p

pub count_same : (P Q : ℕ → Bool) (n : ℕ) → ((s : ℕ) → s < n → P s ≡ Q s) → count P n ≡ count Q n
count_same P Q zero h = refl
count_same P Q (suc n) h = grind (arith, nat_tests, h n, count_same P Q n (λ s l. h s (omega arith)))

pub count_less : (P : ℕ → Bool) (k n : ℕ) → k < n → P k ≡ true → count (less P k) n + 1 ≡ count P n
count_less P k zero l p = absurd (omega arith)
count_less P k (suc n) l p = elim (cases_eq k n) [
  | inl e ↦
      let same : count (less P k) n ≡ count P n = count_same (less P k) P n (λ s ls. less_other P k s (λ q. omega arith)) in
      grind (arith, nat_tests)
  | inr ne ↦
      let ih : count (less P k) n + 1 ≡ count P n = count_less P k n (omega arith) p in
      grind (arith, nat_tests)
]

-- numbers of P below n go to numbers of Q below m, no two to one: Q has as many
pub count_inj : (P Q : ℕ → Bool) (f : ℕ → ℕ) (n m : ℕ)
    → ((r : ℕ) → r < n → P r ≡ true → (f r < m) × (Q (f r) ≡ true))
    → ((r q : ℕ) → r < n → q < n → P r ≡ true → P q ≡ true → f r ≡ f q → r ≡ q)
    → count P n ≤ count Q m
count_inj P Q f zero m into inj = omega arith
count_inj P Q f (suc n) m into inj = elim (cases_Bool (P n)) [
  | inl on ↦
      let here : (f n < m) × (Q (f n) ≡ true) = into n (omega arith) on in
      let ih : count P n ≤ count (less Q (f n)) m =
      count_inj P (less Q (f n)) f n m
      (λ r l p.
      let there : (f r < m) × (Q (f r) ≡ true) = into r (omega arith) p in
      (there.0, less_from Q (f n) (f r) there.1 (λ e. let z : r ≡ n = inj r n (omega arith) (omega arith) p on e in omega arith)))
      (λ r q lr lq. inj r q (omega arith) (omega arith)) in
      omega (arith, count_less Q (f n) m here.0 here.1, cond-true {A = ℕ} (P n) 1 0 on)
  | inr off ↦
      let ih : count P n ≤ count Q m = count_inj P Q f n m (λ r l. into r (omega arith)) (λ r q lr lq. inj r q (omega arith) (omega arith)) in
      omega (arith, cond-false {A = ℕ} (P n) 1 0 off)
]

pub any_from : (P : ℕ → Bool) (n k : ℕ) → k < n → P k ≡ true → any P n ≡ true
any_from P zero k l p = absurd (omega arith)
any_from P (suc n) k l p = grind (arith, nat_tests, any_from P n k)

pub any_some : (P : ℕ → Bool) (n : ℕ) → any P n ≡ true → (k : ℕ) × (k < n) × (P k ≡ true)
any_some P zero e = absurd (true≢false (sym e))
any_some P (suc n) e = elim (or_cases (P n) (any P n) e) [
  | inl p ↦ (n, omega arith, p)
  | inr q ↦ let h : (k : ℕ) × (k < n) × (P k ≡ true) = any_some P n q in (h.0, omega arith, h.2)
]

-- one more at the end
pub any_more : (P : ℕ → Bool) (n : ℕ) → any P (n + 1) ≡ (P n || any P n)
any_more P n = ap (any P) (add-one n)
