use Rattle.std.proofs.Common.{◌≡◌, ℕ, true, false, sym, ap, ◌∙◌}
use Rattle.std.proofs.Math.Bool.{or_comm}
use Rattle.bounded.specs.Bit.{bit}
use Rattle.bounded.proofs.Mask.{bit_zero}
use Rattle.matching.specs.Board.{reach}
use Rattle.matching.specs.Masks.{can}
use Rattle.matching.proofs.Bits.{bit_of_or}
use Rattle.matching.proofs.Count.{any_more}
use Rattle.matching.proofs.seats.Seats.reached.Goals as goal

pub loop-row-init : goal.loop-row-init
loop-row-init c = bit_zero

pub loop-row-preserved : goal.loop-row-preserved
loop-row-preserved c = λ s.
    let row = c.loop-row.row in
    let asked : c.has.result ≡ bit c.args.group row = c.has.ensures ∙ ap (λ (x : ℕ). bit x row) c.from.ensures in
    elim c.if-has.branch [
      | goal.then-has w ↦
          let on : bit c.args.group row ≡ true = sym asked ∙ w.if-has.true in
          rw (w.sets-is, bit_of_or c.loop-row.sets w.mask_at-sets.result s, w.mask_at-sets.ensures, any_more, on, c.loop-row.invariant s)
          (or_comm (reach (can c.args.self.now.board.now) row (bit c.args.group) s) (can c.args.self.now.board.now row s))
      | goal.else-has w ↦
          let off : bit c.args.group row ≡ false = sym asked ∙ w.if-has.false in
          rw (w.sets-is, any_more, off) (c.loop-row.invariant s)
    ]
