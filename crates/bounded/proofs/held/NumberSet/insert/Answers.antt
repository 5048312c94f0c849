use Rattle.std.proofs.Common.{◌≡◌, ℕ, ◌*◌, ◌/◌, ◌%◌, ◌^◌, not, get_or, set, sym, refl, ap, ◌∙◌, arith}
use lib.Bits.{bit_or}
use Rattle.std.proofs.lemmas.Nat.{one_shl}
use Rattle.std.proofs.lemmas.Bool.{true≢false, false≢true}
use Rattle.bounded.specs.Numbers.{holds}
use Rattle.bounded.proofs.Members.{within, is_within, not_within, put_within}
use Rattle.bounded.proofs.held.NumberSet.insert.Goals as goal

pub returns-then-bits-place-eq1 : goal.returns-then-bits-place-eq1
unfolding holds
returns-then-bits-place-eq1 c =
    record {
      fresh = sym (ap not (is_within c.args.self.now.words c.args.number c.if-bits-place-eq1.true));
      same = λ e. refl;
      held = λ e. absurd (false≢true e);
    }

pub returns : goal.returns
unfolding holds
returns c =
    let ws = c.args.self.now.words in
    let number = c.args.number in
    let e : 1 * 2 ^ (number % 64) % 2 ^ 64 ≡ 2 ^ (number % 64) = one_shl (number % 64) 64 (omega arith) in
    record {
      fresh = sym (ap not (not_within ws number c.if-bits-place-eq1.false));
      same = λ t. absurd (true≢false t);
      held = λ t n. ap (λ (x : ℕ). within (set ws (number / 64) (bit_or (get_or ws (number / 64) 0) x)) n) e ∙ put_within ws number n (omega (arith, c.args.self.now.sized));
    }
