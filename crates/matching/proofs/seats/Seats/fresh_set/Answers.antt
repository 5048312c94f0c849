use Rattle.std.proofs.Common.{◌≡◌, ℕ, ◌^◌, ◌<◌, ◌≤◌, Bool, true, false, not, eqb, length, MatchOption, Option, bit_and, w16, inl, inr, sym, ap, ◌∙◌, subst, arith}
use Rattle.std.specs.Bool.{then_some}
use Rattle.std.specs.Int.{bit_not, trailing_zeros}
use Rattle.std.proofs.lemmas.Bool.{cases_eq, eq-eqb, ne_eqb, and_parts}
use Rattle.std.specs.Int.Bits.{and_lt}
use Rattle.std.proofs.lemmas.Nat.Bits.{bit_at-trailing_zeros}
use Rattle.bounded.specs.Bit.{bit}
use Rattle.bounded.proofs.Mask.{bit_zero}
use Rattle.matching.specs.Masks.{row_mask, can}
use Rattle.matching.specs.Seats.{fresh}
use Rattle.matching.proofs.Bits.{bit_of_without}
use Rattle.matching.proofs.seats.Seats.fresh_set.Goals as goal

-- the lowest of the sets that pass, by a mask of them
lowest : (n x : ℕ) (P : ℕ → Bool) (r : Option ℕ) → r ≡ then_some (not (eqb x 0)) (trailing_zeros w16 x) → x < 2 ^ 16 → n ≤ 16
    → ((s : ℕ) → s < 16 → bit x s ≡ P s) → ((s : ℕ) → P s ≡ true → s < n)
    → MatchOption r ((s : ℕ) → s < n → P s ≡ false) (λ s. (s < n) × (P s ≡ true))
unfolding bit
lowest n x P r e l m is within = elim (cases_eq x 0) [
  | inl zero ↦ rw (e, zero) (λ s k. sym (is s (omega arith)) ∙ ap (λ z. bit z s) zero ∙ bit_zero s)
  | inr some ↦
      let t = bit_at-trailing_zeros w16 x (omega arith) l in
      let here : bit x (trailing_zeros w16 x) ≡ true = eq-eqb _ 1 t.1 in
      let passes : P (trailing_zeros w16 x) ≡ true = sym (is _ t.0) ∙ here in
      rw (e, ne_eqb x 0 some) (within _ passes, passes)
]

pub returns : goal.returns
returns c =
    let seats = c.args.self.now in
    let usable : ℕ = row_mask seats.board.now c.args.row in
    lowest (length seats.holders.now) (bit_and usable (bit_not w16 seats.visited)) (fresh seats c.args.row) c.then_some.result
    (subst (λ (z : ℕ). c.then_some.result ≡ then_some (not (eqb (bit_and z (bit_not w16 seats.visited)) 0)) (trailing_zeros w16 (bit_and z (bit_not w16 seats.visited)))) c.mask_at.ensures c.then_some.ensures)
    (and_lt 16 usable (bit_not w16 seats.visited) (subst (λ (z : ℕ). z < 2 ^ 16) c.mask_at.ensures (omega arith)) (omega arith))
    seats.shaped.sets
    (λ s l. bit_of_without usable seats.visited s (omega arith) l)
    (λ s p. seats.shaped.within c.args.row s c.requires (and_parts (can seats.board.now c.args.row s) (not (bit seats.visited s)) p).0)
