use Rattle.std.proofs.Common.{Ok, Result, OnOk, MatchResult, ◌≡◌, ℕ, ◌≤◌, List, ◌++◌, length, drop, refl, ap, ◌∙◌, subst, arith, rules}
use Rattle.std.proofs.lemmas.Result.{err_from_is_err_and, MatchResult-at_ok}
use Rattle.bounded.specs.declared.held.NoRoom.{NoRoom}
use Rattle.bounded.specs.Items.{items}
use Rattle.channels.specs.Held.{asked, channels_of}
use Rattle.channels.specs.Holdings.{proposals}
use Rattle.keyed.specs.Keyed.{After}
use Rattle.refusals.specs.Checks.{First, Passed}
use Rattle.refusals.specs.declared.refusal.Refusal.TheVariants.{NotAvailable}
use Rattle.refusals.proofs.Firsts.{first_early}
use Rattle.search.specs.declared.found.NoteRow.{NoteRow}
use Rattle.search.specs.declared.found.Found.TheVariants.{Carried, Blocked}
use Rattle.search.specs.Answers.{Notes}
use Rattle.search.specs.Scratch.{scratch_checks}
use Rattle.table.specs.Sets.{standing}
use Rattle.session.specs.Calls.{ask}
use Rattle.session.specs.Rules.{list_checks, ask_checks, room_checks}
use Rattle.session.specs.Steps.{situation, asking_checks, FoundFor}
use Rattle.session.proofs.Asks.{ask_done}
use Rattle.session.proofs.Carries.{not_carried}
use Rattle.session.proofs.Ending.{refuses, note_kept, note_written, scratch_before_15, ask_early, ask_blocked, asked_some, carried_few, few_held}
use Rattle.session.proofs.state.Session.ask.Goals as goal

pub returns-in_err-in_scratch-clause-did : goal.returns-in_err-in_scratch-clause-did
returns-in_err-in_scratch-clause-did g c =
    let s = c.args.self.now in
    let lawful = g.J.Judge.lawful s.judge in
    let covers = g.J.Judge.covers s.judge in
    let n = c.args.number in
    let p = c.args.proposal in
    let note = c.args.note.now in
    let w = c.args.scratch.now in
    let rest = list_checks note ++ (ask_checks lawful covers s.number (situation s) n p ++ room_checks lawful covers s.number (situation s) n p) in
    let e = err_from_is_err_and c.from_residual.result c.from_residual.ensures.1 in
    let f = c.in_err-in_scratch.ensures.answer in
    rw (e.1, e.2)
    (refuses g.J.Judge.lawful g.J.Judge.covers s (ask n p note w) _ _ (first_early rest (scratch_checks w) _ f) (note_kept covers (situation s) n p _ _ (scratch_before_15 w _ f) refl))

pub returns-in_err-found-clause-did : goal.returns-in_err-found-clause-did
returns-in_err-found-clause-did g c =
    let s = c.args.self.now in
    let lawful = g.J.Judge.lawful s.judge in
    let covers = g.J.Judge.covers s.judge in
    let n = c.args.number in
    let p = c.args.proposal in
    let note = c.args.note.now in
    let w = c.args.scratch.now in
    let room : 512 ≤ length w = c.in_ok-in_scratch.ensures.answer.0.0 in
    let f : First (asking_checks g.J.Judge.lawful g.J.Judge.covers s n p (length note)) c.in_err-found.field-0.0 = search rules in
    let e = err_from_is_err_and c.from_residual-in_err-found.result c.from_residual-in_err-found.ensures.1 in
    let early = ask_early lawful covers s.number (situation s) n p note w room _ f in
    rw (e.1, e.2)
    (refuses g.J.Judge.lawful g.J.Judge.covers s (ask n p note w) _ _ early.0 (note_kept covers (situation s) n p _ _ early.1 refl))

pub unwrap-requires : goal.unwrap-requires
unwrap-requires g c =
    let s = c.args.self.now in
    let covers = g.J.Judge.covers s.judge in
    let n = c.args.number in
    let p = c.args.proposal in
    let found : MatchResult c.in_ok-in_scratch.field-0 (λ f. Passed (asking_checks g.J.Judge.lawful g.J.Judge.covers s n p (length c.args.note.now)) × FoundFor g.J.Judge.covers s n p f) (λ k. First (asking_checks g.J.Judge.lawful g.J.Judge.covers s n p (length c.args.note.now)) k) = search rules in
    let h = MatchResult-at_ok _ _ (Carried c.in-Carried.descriptor) (c.in_ok-found.was ∙ ap Ok c.in-Carried.is) found in
    few_held c.hold.result _ (channels_of s.channels) h.1.0 n p c.hold.ensures.full h.1.1 (carried_few covers s.table h.1.0 c.in-Carried.descriptor h.1.2)

pub returns-in-Carried : goal.returns-in-Carried
returns-in-Carried g c =
    let s = c.args.self.now in
    let n = c.args.number in
    let p = c.args.proposal in
    let d = c.in-Carried.descriptor in
    let found : MatchResult c.in_ok-in_scratch.field-0 (λ f. Passed (asking_checks g.J.Judge.lawful g.J.Judge.covers s n p (length c.args.note.now)) × FoundFor g.J.Judge.covers s n p f) (λ k. First (asking_checks g.J.Judge.lawful g.J.Judge.covers s n p (length c.args.note.now)) k) = search rules in
    let h = MatchResult-at_ok _ _ (Carried d) (c.in_ok-found.was ∙ ap Ok c.in-Carried.is) found in
    let fresh = subst (λ (r : Result (Unit {0}) NoRoom). OnOk r (After (channels_of s.channels) (asked n p) (channels_of c.hold.new.self))) c.unwrap.ensures c.hold.ensures.held in
    record {
      did = ask_done g.J.Judge.lawful g.J.Judge.covers s c.hold.new.self n p c.args.note.now c.args.scratch.now d c.in_ok-in_scratch.ensures.answer.0.0 h.0 h.1 fresh;
      handed = (refl, refl);
      scratch = c.in_ok-in_scratch.ensures.scratch;
    }

pub returns-in-Blocked : goal.returns-in-Blocked
returns-in-Blocked g c =
    let s = c.args.self.now in
    let lawful = g.J.Judge.lawful s.judge in
    let covers = g.J.Judge.covers s.judge in
    let n = c.args.number in
    let p = c.args.proposal in
    let note = c.args.note.now in
    let w = c.args.scratch.now in
    let t = standing s.table in
    let rows = items c.in-Blocked.blocks in
    let room : 512 ≤ length w = c.in_ok-in_scratch.ensures.answer.0.0 in
    let h : Passed (asking_checks g.J.Judge.lawful g.J.Judge.covers s n p (length note)) × FoundFor g.J.Judge.covers s n p (Blocked c.in-Blocked.blocks) = search rules in
    let ys = h.1.0 in
    let after = h.1.1 in
    let blocks : Notes covers t (proposals ys) t.descriptors rows = h.1.2 in
    let k = c.len-in-Blocked.result in
    let many : k ≡ length t.descriptors = c.len-in-Blocked.ensures.count ∙ blocks.long in
    let long : c.len.result ≡ length rows = omega (arith, c.len.ensures.count) in
    let put : c.copy_from_slice.new.self ≡ rows = c.copy_from_slice.ensures.after ∙ c.as_slice.ensures.list in
    let left : c.copy_from_slice.new.self ++ drop c.len.result note ≡ rows ++ drop (length rows) note = ap (λ (ws : List NoteRow). ws ++ drop c.len.result note) put ∙ ap (λ (i : ℕ). rows ++ drop i note) long in
    record {
      did =
          refuses g.J.Judge.lawful g.J.Judge.covers s (ask n p note w) (NotAvailable k) _
          (ask_blocked lawful covers s.number (situation s) n p note w room h.0.0 h.0.1 ys after k many (not_carried covers t (proposals ys) rows (asked_some (channels_of s.channels) ys n p after) blocks))
          (note_written covers (situation s) n p note rows _ k ys after blocks left);
      handed = tt;
      scratch = search rules;
    }
