use Rattle.std.proofs.Common.{◌≡◌, ℕ, ◌<◌, true, sym, ap, ◌∙◌, inl, inr, arith}
use Rattle.std.proofs.lemmas.Bool.{cases_eq, both_ways}
use Rattle.bounded.specs.Bit.{bit}
use Rattle.bounded.proofs.Mask.{bit_zero}
use Rattle.matching.specs.Calls.{at, tall}
use Rattle.matching.proofs.Groups.{grouped_more, grouped_past}
use Rattle.matching.proofs.seats.Seats.group.Goals as goal

pub loop-set-init : goal.loop-set-init
loop-set-init c = record {
  group = record {
    root = c.with-group.ensures.here;
    rows = λ s l. absurd (omega arith);
    back = λ q b. elim (cases_eq q c.args.row) [ inl e ↦ inl e | inr ne ↦ absurd (both_ways (bit c.with-group.result q) (c.with-group.ensures.other q ne ∙ bit_zero q) b) ];
  };
  fits = c.with-group.ensures.fits 32 (omega (arith, c.args.self.now.shaped.rows)) (omega arith);
}

pub loop-set-preserved : goal.loop-set-preserved
loop-set-preserved c =
    let old = c.loop-set.invariant in
    let seats = c.args.self.now in
    let s = c.loop-set.set in
    let asked : c.has.result ≡ bit seats.visited s = c.has.ensures ∙ ap (λ (x : ℕ). bit x s) c.from.ensures in
    elim c.if-has.branch [
      | goal.then-has w ↦
          let now = w.with-group-then-has.ensures in
          let on : bit seats.visited s ≡ true = sym asked ∙ w.if-has.true in
          let low : at seats.holders.now s < tall seats.board.now = c.requires.held s (omega arith) on in
          record {
            group = rw w.group-is (grouped_more old.group on (rw w.from-then-has.ensures at now.here) (rw w.from-then-has.ensures at now.other));
            fits = omega (arith, now.fits 32 (omega (arith, seats.shaped.rows)) old.fits);
          }
      | goal.else-has w ↦ record {
        group = rw w.group-is (grouped_past old.group (sym asked ∙ w.if-has.false));
        fits = omega (arith, old.fits);
      }
    ]
