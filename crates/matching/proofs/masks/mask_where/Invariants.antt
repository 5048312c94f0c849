use Rattle.std.proofs.Common.{◌≡◌, ℕ, ◌^◌, ◌<◌, ◌≤◌, false, slice_index_or}
use Rattle.std.specs.Fn.{FnReturnsAt}
use Rattle.bounded.specs.Bit.{bit}
use Rattle.matching.proofs.masks.mask_where.Given as goal

abbrev pub invariant-loop-k : goal.invariant-loop-k
invariant-loop-k g l = record {
  items : (k : ℕ) (x : _) → k < l.k → slice_index_or l.items k x ≡ x → FnReturnsAt g.F.Fn l.passes x (bit l.mask k);
  beyond : (k : ℕ) → l.k ≤ k → bit l.mask k ≡ false;
  fits : (k : ℕ) → l.k ≤ k → l.mask < 2 ^ k;
}
