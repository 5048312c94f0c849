-- The run begins, goes on from turn to turn, and ends with what is printed.
use Rattle.std.proofs.Common.{◌≡◌, ℕ, List, string_bytes, ap, ◌∙◌, subst}
use Rattle.cutting.specs.Pieces.{portion, left}
use Rattle.replay.specs.Bench.{Step, Printed}
use Rattle.replay.specs.Told.{Prints}
use Rattle.replay.proofs.Answered.{one_text}
use Rattle.replay.proofs.Pass.{begin, turn, all}
use Rattle.replay.proofs.whole.run.Goals as goal

pub loop-piece-init : goal.loop-piece-init
loop-piece-init c =
    let whole : left c.into_iter-piece-iterator.result ≡ c.args.input.now = ap left c.into_iter-piece-iterator.ensures.into_iter_gives ∙ c.of-piece-items.ensures in
    begin Step (Printed c.args.input.now) (string_bytes c.new-out.result) c.new-table.result (left c.into_iter-piece-iterator.result) c.new-out.ensures.bytes
    (λ out h. (c.new-table.result, (c.new-table.ensures, subst (λ (xs : List ℕ). Prints Step c.new-table.result xs out) whole h)))

pub loop-piece-preserved : goal.loop-piece-preserved
loop-piece-preserved c =
    turn Step (Printed c.args.input.now) (string_bytes c.loop-piece.out) c.loop-piece.table (left c.loop-piece.piece-iterator) c.loop-piece.invariant
    (portion c.in-Some.piece) (left c.next.new.self) c.in-Some.ensures.steps.0 c.perform.result _ c.perform.ensures _ c.in_ok-push_line.ensures

pub returns : goal.returns
returns c =
    let h = all Step (Printed c.args.input.now) (string_bytes c.loop-piece.out) c.loop-piece.table (left c.loop-piece.piece-iterator) c.loop-piece.invariant c.in-None.ensures.steps.0 in
    record { printed = h; alone = λ out k. one_text c.args.input.now _ out h k }
