-- Masks: what the program's `(x >> s) & 1 == 1` and `x | (1 << s)` say of the bits.
use Rattle.std.proofs.Common.{◌≡◌, ℕ, ◌/◌, ◌%◌, ◌^◌, ◌<◌, max, true, false, eqb, ap, ◌∙◌, arith}
use lib.Bits.{bit_and}
use Rattle.std.specs.Int.RustNames.{bit_or}
use Rattle.std.proofs.lemmas.Nat.Bits.{shr_and_one, bit_at_or, bit_at-pow_same, bit_at-pow_other, bit_at-zero, bit_at-lt}
use Rattle.bounded.specs.Bit.{bit}

max_one : (z : ℕ) → z < 2 → max z 1 ≡ 1
max_one z l = omega arith

max_none : (z : ℕ) → max z 0 ≡ z
max_none z = omega arith

pub test_is : (x s : ℕ) → eqb (bit_and (x / 2 ^ s) 1) 1 ≡ bit x s
unfolding bit
test_is x s = ap (λ z. eqb z 1) (shr_and_one x s)

pub set_here : (x s : ℕ) → bit (bit_or x (2 ^ s)) s ≡ true
unfolding bit
set_here x s = ap (λ z. eqb z 1) (bit_at_or x (2 ^ s) s ∙ ap (max (x / 2 ^ s % 2)) (bit_at-pow_same s) ∙ max_one (x / 2 ^ s % 2) (bit_at-lt x s))

pub set_other : (x s t : ℕ) → (t ≡ s → ⊥) → bit (bit_or x (2 ^ s)) t ≡ bit x t
unfolding bit
set_other x s t ne = ap (λ z. eqb z 1) (bit_at_or x (2 ^ s) t ∙ ap (max (x / 2 ^ t % 2)) (bit_at-pow_other s t ne) ∙ max_none (x / 2 ^ t % 2))

pub bit_zero : (s : ℕ) → bit 0 s ≡ false
unfolding bit
bit_zero s = ap (λ z. eqb z 1) (bit_at-zero s)
