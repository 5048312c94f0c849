-- The seatings of the examples, each as a table of sets and the table back to the rows; and the group that blocks.
use Rattle.std.proofs.Common.{◌≡◌, ℕ, zero, suc, ◌^◌, ◌<◌, Bool, true, false, List, [], sym, refl, ap, ◌∙◌, subst, arith}
use lib.Bits.{bit_or}
use Rattle.std.proofs.lemmas.Bool.{both_ways}
use Rattle.bounded.specs.Bit.{bit}
use Rattle.bounded.proofs.Mask.{bit_zero, set_other}
use Rattle.judges.specs.declared.words.Proposal.{Proposal}
use Rattle.search.specs.Carrying.{Carries, Blocks}
use Rattle.search.specs.Lists.{At, passes_at}
use Rattle.search.proofs.Bridge.{blocks_refute}
use Rattle.search.proofs.Places.{pass_some}
use Rattle.worked.specs.Seated.{can, sets, two, three, four, last_three, SeatingExamples}

-- Where each row is found again from its set, no two rows have one set.
own_back : (seat back : ℕ → ℕ) (n : ℕ) → ((r : ℕ) → r < n → back (seat r) ≡ r) → (r q : ℕ) → r < n → q < n → seat r ≡ seat q → r ≡ q
own_back seat back n is r q l k e = sym (is r l) ∙ ap back e ∙ is q k

-- no row: no seat is asked for
no_rows : (fit : List ℕ → Proposal → Bool) (any : List (List ℕ)) → Carries fit any []
no_rows fit any = record { seat = λ r. r; fits = λ r p a. absurd (omega (arith, a.0)); own = λ r q l k e. e }

-- the two: 0 at set 0, 1 at set 1
abbrev two_at : ℕ → ℕ
two_at zero = 0
two_at (suc r) = 1

two_fit : (r : ℕ) (p : Proposal) → At p two r → passes_at (λ T. can T p) sets (two_at r) ≡ true
two_fit zero p a = subst (λ (q : Proposal). passes_at (λ T. can T q) sets 0 ≡ true) a.1 refl
two_fit (suc zero) p a = subst (λ (q : Proposal). passes_at (λ T. can T q) sets 1 ≡ true) a.1 refl
two_fit (suc (suc r)) p a = absurd (omega (arith, a.0))

two_back : (r : ℕ) → r < 2 → two_at (two_at r) ≡ r
two_back zero l = refl
two_back (suc zero) l = refl
two_back (suc (suc r)) l = absurd (omega arith)

two_seats : Carries can sets two
two_seats = record { seat = two_at; fits = λ r p a. pass_some (λ T. can T p) sets (two_at r) (two_fit r p a); own = own_back two_at two_at 2 two_back }

-- the three: 0 at set 2, 1 at set 0, 2 at set 1
abbrev three_at : ℕ → ℕ
three_at zero = 2
three_at (suc zero) = 0
three_at (suc (suc r)) = 1

abbrev three_row : ℕ → ℕ
three_row zero = 1
three_row (suc zero) = 2
three_row (suc (suc s)) = 0

three_fit : (r : ℕ) (p : Proposal) → At p three r → passes_at (λ T. can T p) sets (three_at r) ≡ true
three_fit zero p a = subst (λ (q : Proposal). passes_at (λ T. can T q) sets 2 ≡ true) a.1 refl
three_fit (suc zero) p a = subst (λ (q : Proposal). passes_at (λ T. can T q) sets 0 ≡ true) a.1 refl
three_fit (suc (suc zero)) p a = subst (λ (q : Proposal). passes_at (λ T. can T q) sets 1 ≡ true) a.1 refl
three_fit (suc (suc (suc r))) p a = absurd (omega (arith, a.0))

three_back : (r : ℕ) → r < 3 → three_row (three_at r) ≡ r
three_back zero l = refl
three_back (suc zero) l = refl
three_back (suc (suc zero)) l = refl
three_back (suc (suc (suc r))) l = absurd (omega arith)

pub three_seats : Carries can sets three
three_seats = record { seat = three_at; fits = λ r p a. pass_some (λ T. can T p) sets (three_at r) (three_fit r p a); own = own_back three_at three_row 3 three_back }

-- 14 has no bit from 4 on: it is 2, 4 and 8
last_inside : (q : ℕ) → last_three q ≡ true → q < 4
last_inside zero b = omega arith
last_inside (suc zero) b = omega arith
last_inside (suc (suc zero)) b = omega arith
last_inside (suc (suc (suc zero))) b = omega arith
last_inside (suc (suc (suc (suc q)))) b =
    let k = suc (suc (suc (suc q))) in
    let off : bit (bit_or (bit_or (bit_or 0 (2 ^ 1)) (2 ^ 2)) (2 ^ 3)) k ≡ false =
    set_other (bit_or (bit_or 0 (2 ^ 1)) (2 ^ 2)) 3 k (λ e. omega arith) ∙ set_other (bit_or 0 (2 ^ 1)) 2 k (λ e. omega arith) ∙ set_other 0 1 k (λ e. omega arith) ∙ bit_zero k in
    absurd (both_ways (bit 14 k) off b)

-- three rows, and two sets that they can use
pub last_block : Blocks can sets four last_three
unfolding bit
last_block = record { some = omega arith; inside = last_inside; few = omega arith }

pub seating : SeatingExamples
unfolding bit
seating =
    record {
      two_carried = two_seats;
      three_carried = three_seats;
      four_not_carried = blocks_refute can sets four last_three last_block;
      last_three_are = refl;
      last_three_block = last_block;
      last_three_use = refl;
      nothing_carried = no_rows;
      nothing_by_none = no_rows can [];
    }
