-- Numbers held as bits of words, 64 to a word.
use Rattle.std.proofs.Common.{◌≡◌, ℕ, ◌/◌, ◌%◌, ◌^◌, ◌<◌, Bool, true, false, ◌||◌, eqb, List, length, get_or, set, replicate, sym, ap, ◌∙◌, inl, inr, arith}
use lib.Bits.{bit_and, bit_or}
use Rattle.std.proofs.lemmas.List.{get_or_past, get_or-replicate, get_or-set_same, get_or-set_other, length-replicate}
use Rattle.std.proofs.lemmas.Bool.{cases_eq, cases_lt, eq-eqb, ne_eqb}
use Rattle.bounded.specs.Bit.{bit}
use Rattle.bounded.proofs.Mask.{test_is, bit_zero, set_here, set_other}

abbrev pub within : List ℕ → ℕ → Bool
within ws n = bit (get_or ws (n / 64) 0) (n % 64)

zeros : (w i : ℕ) → ◌≡◌ {A = ℕ} (get_or (replicate w 0) i 0) 0
zeros w i = elim (cases_lt i w) [
  | inl h ↦ get_or-replicate w i 0 0 h
  | inr h ↦ get_or_past (replicate w 0) i 0 (let e : length {A = ℕ} (replicate w 0) ≡ w = length-replicate w 0 in omega arith)
]

pub none_within : (w n : ℕ) → within (replicate w 0) n ≡ false
none_within w n = ap (λ (x : ℕ). bit x (n % 64)) (zeros w (n / 64)) ∙ bit_zero (n % 64)

-- the code's test
pub is_within : (ws : List ℕ) (n : ℕ) → bit_and (get_or ws (n / 64) 0 / 2 ^ (n % 64)) 1 ≡ 1 → within ws n ≡ true
is_within ws n e = sym (test_is (get_or ws (n / 64) 0) (n % 64)) ∙ eq-eqb _ _ e

pub not_within : (ws : List ℕ) (n : ℕ) → (bit_and (get_or ws (n / 64) 0 / 2 ^ (n % 64)) 1 ≡ 1 → ⊥) → within ws n ≡ false
not_within ws n e = sym (test_is (get_or ws (n / 64) 0) (n % 64)) ∙ ne_eqb _ _ e

pub put_within : (ws : List ℕ) (n k : ℕ) → n / 64 < length ws → within (set ws (n / 64) (bit_or (get_or ws (n / 64) 0) (2 ^ (n % 64)))) k ≡ (eqb k n || within ws k)
put_within ws n k h = elim (cases_eq (k / 64) (n / 64)) [
  | inl d ↦ elim (cases_eq (k % 64) (n % 64)) [
    | inl m ↦
        let e : k ≡ n = omega arith in
        ap (λ (x : ℕ). bit x (k % 64)) (here d) ∙ ap (bit (bit_or (get_or ws (n / 64) 0) (2 ^ (n % 64)))) m ∙ set_here (get_or ws (n / 64) 0) (n % 64)
        ∙ sym (ap (λ (b : Bool). b || within ws k) (eq-eqb k n e))
    | inr m ↦
        ap (λ (x : ℕ). bit x (k % 64)) (here d) ∙ set_other (get_or ws (n / 64) 0) (n % 64) (k % 64) m ∙ ap (λ (i : ℕ). bit (get_or ws i 0) (k % 64)) (sym d)
        ∙ sym (ap (λ (b : Bool). b || within ws k) (ne_eqb k n (λ e. m (ap (λ (x : ℕ). x % 64) e))))
  ]
  | inr d ↦
      ap (λ (x : ℕ). bit x (k % 64)) (get_or-set_other ws (n / 64) (k / 64) (bit_or (get_or ws (n / 64) 0) (2 ^ (n % 64))) 0 d)
      ∙ sym (ap (λ (b : Bool). b || within ws k) (ne_eqb k n (λ e. d (ap (λ (x : ℕ). x / 64) e))))
]
  where
    here : k / 64 ≡ n / 64 → get_or (set ws (n / 64) (bit_or (get_or ws (n / 64) 0) (2 ^ (n % 64)))) (k / 64) 0 ≡ bit_or (get_or ws (n / 64) 0) (2 ^ (n % 64))
    here d = ap (λ (i : ℕ). get_or (set ws (n / 64) (bit_or (get_or ws (n / 64) 0) (2 ^ (n % 64)))) i 0) d ∙ get_or-set_same ws (n / 64) (bit_or (get_or ws (n / 64) 0) (2 ^ (n % 64))) 0 h
