use Rattle.std.proofs.Common.{◌≡◌, ◌≤◌, Bool, true, false, not, [], length, sym, refl, inl, inr, rules}
use Rattle.std.proofs.lemmas.Result.{err_from_is_err_and}
use Rattle.refusals.specs.declared.refusal.Refusal.TheVariants.{TooNarrow}
use Rattle.refusals.proofs.Firsts.{first_early, first_later}
use Rattle.channels.specs.Holdings.{proposals}
use Rattle.search.specs.Scratch.{scratch_checks}
use Rattle.table.specs.Sets.{standing, set_checks}
use Rattle.session.specs.Calls.{set}
use Rattle.session.specs.Rules.{Carried, Whether, narrow_checks, result}
use Rattle.session.specs.Steps.{situation, held, setting_checks}
use Rattle.session.proofs.Ending.{never, refuses, set_passed}
use Rattle.session.proofs.state.Session.take.Goals as goal

no : (b : Bool) (P : Type 0) → Whether b P → b ≡ false → P → ⊥
no true P w e p = absurd (never (sym e))
no false P w e p = w p

yes : (b : Bool) (P : Type 0) → Whether b P → b ≡ true → P
yes true P w e = w
yes false P w e = absurd (never e)

pub returns-in_err-carried-in-Ok-clause-did : goal.returns-in_err-carried-in-Ok-clause-did
returns-in_err-carried-in-Ok-clause-did g c =
    let s = c.args.self.now in
    let m = c.args.message.now in
    let w = c.args.scratch.now in
    let e = err_from_is_err_and c.from_residual.result c.from_residual.ensures.1 in
    rw (e.1, e.2)
    (refuses g.J.Judge.lawful g.J.Judge.covers s (set m w) _ [] (first_early (setting_checks g.J.Judge.lawful g.J.Judge.covers s m) (scratch_checks w) _ c.in_err-carried-in-Ok.ensures.answer) refl)

pub returns-then-not-carried-clause-did : goal.returns-then-not-carried-clause-did
returns-then-not-carried-clause-did g c =
    let s = c.args.self.now in
    let m = c.args.message.now in
    let room : 512 ≤ length c.args.scratch.now = c.in_ok-carried-in-Ok.ensures.answer.0.0 in
    let d = c.in-Ok.ensures in
    let whether : Whether c.in_ok-carried-in-Ok.carried (Carried (g.J.Judge.covers s.judge) (standing c.in-Ok.table) (proposals (held s))) = search rules in
    let wide : Carried (g.J.Judge.covers s.judge) (standing c.in-Ok.table) (proposals (held s)) → ⊥ = no c.in_ok-carried-in-Ok.carried _ whether c.if-not-carried.true in
    refuses g.J.Judge.lawful g.J.Judge.covers s (set m c.args.scratch.now) TooNarrow []
    (inr (
      room,
      first_later (narrow_checks (g.J.Judge.lawful s.judge) (g.J.Judge.covers s.judge) s.number (situation s) m) (set_checks (g.J.Judge.lawful s.judge) m (standing s.table)) TooNarrow d.passed
          (inl (refl, λ l. wide (l (standing c.in-Ok.table) d.merged))),
    ))
    refl

pub returns-in_err-in_scratch-in-Err-clause-did : goal.returns-in_err-in_scratch-in-Err-clause-did
returns-in_err-in_scratch-in-Err-clause-did g c =
    let s = c.args.self.now in
    let m = c.args.message.now in
    let w = c.args.scratch.now in
    let e = err_from_is_err_and c.from_residual-in_err-in_scratch-in-Err.result c.from_residual-in_err-in_scratch-in-Err.ensures.1 in
    rw (e.1, e.2)
    (refuses g.J.Judge.lawful g.J.Judge.covers s (set m w) _ [] (first_early (setting_checks g.J.Judge.lawful g.J.Judge.covers s m) (scratch_checks w) _ c.in_err-in_scratch-in-Err.ensures.answer) refl)

pub returns-else-not-carried-clause-did : goal.returns-else-not-carried-clause-did
returns-else-not-carried-clause-did g c =
    let s = c.args.self.now in
    let m = c.args.message.now in
    let t = c.in-Ok.table in
    let room : 512 ≤ length c.args.scratch.now = c.in_ok-carried-in-Ok.ensures.answer.0.0 in
    let d = c.in-Ok.ensures in
    let whether : Whether c.in_ok-carried-in-Ok.carried (Carried (g.J.Judge.covers s.judge) (standing t) (proposals (held s))) = search rules in
    let wide : Carried (g.J.Judge.covers s.judge) (standing t) (proposals (held s)) = yes c.in_ok-carried-in-Ok.carried _ whether c.if-not-carried.false in
    record {
      ends = result (set_passed (g.J.Judge.lawful s.judge) (g.J.Judge.covers s.judge) s.number (situation s) m c.args.scratch.now room (standing t) d wide) refl;
      wrote = refl;
      same = λ e. absurd (never (sym e));
      leaves = λ _. record { channels = refl; table = d.merged };
      judge = refl;
      number = refl;
    }

pub returns-in_ok-in_scratch-in-Err-clause-did : goal.returns-in_ok-in_scratch-in-Err-clause-did
returns-in_ok-in_scratch-in-Err-clause-did g c =
    let s = c.args.self.now in
    let m = c.args.message.now in
    let room : 512 ≤ length c.args.scratch.now = c.in_ok-in_scratch-in-Err.ensures.answer.0.0 in
    refuses g.J.Judge.lawful g.J.Judge.covers s (set m c.args.scratch.now) _ []
    (inr (room, first_early (narrow_checks (g.J.Judge.lawful s.judge) (g.J.Judge.covers s.judge) s.number (situation s) m) (set_checks (g.J.Judge.lawful s.judge) m (standing s.table)) _ c.in-Err.ensures))
    refl
