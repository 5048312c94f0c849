use Rattle.std.proofs.Common.{◌≡◌, ◌≤◌, List, ◌++◌, length, drop, Some, None, refl, ap, ◌∙◌, arith, rules}
use Rattle.bounded.specs.Items.{items}
use Rattle.refusals.specs.Checks.{Passed}
use Rattle.search.specs.declared.seat.Seat.{Seat}
use Rattle.session.specs.Rules.{row_checks}
use Rattle.session.specs.Steps.{SeatingHeld}
use Rattle.session.proofs.state.Session.seating.Goals as goal

pub returns : goal.returns
returns g c =
    let list = c.args.list.now in
    let q = c.in-Some.seated in
    let rows = items q.seats in
    let room : 512 ≤ length c.args.scratch.now = c.in_ok-in_scratch.ensures.answer.0.0 in
    let h : Passed (row_checks (length list)) × SeatingHeld g.J.Judge.covers c.args.self.now (Some q) = search rules in
    let long : c.len.result ≡ length rows = omega (arith, c.len.ensures.count) in
    let put : c.copy_from_slice.new.self ≡ rows = c.copy_from_slice.ensures.after ∙ c.as_slice.ensures.list in
    let left : c.copy_from_slice.new.self ++ drop c.len.result list ≡ rows ++ drop (length rows) list = ap (λ (ws : List Seat). ws ++ drop c.len.result list) put ∙ ap (λ n. rows ++ drop n list) long in
    record { seated = ((room, h.0), (q, h.1, refl, left)); scratch = search rules }

pub returns-in_default : goal.returns-in_default
returns-in_default g c =
    let room : 512 ≤ length c.args.scratch.now = c.in_ok-in_scratch.ensures.answer.0.0 in
    let h : Passed (row_checks (length c.args.list.now)) × SeatingHeld g.J.Judge.covers c.args.self.now None = search rules in
    record { seated = ((room, h.0), h.1, refl); scratch = search rules }
