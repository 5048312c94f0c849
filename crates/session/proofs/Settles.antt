-- How accept, decline and close end.
use Rattle.std.proofs.Common.{◌≡◌, ℕ, Bool, ◌⊎◌, List, [], Ok, Err, Result, sym, refl, ap, ◌∙◌, subst, inl, inr}
use Rattle.channels.specs.declared.held.Channels.{Channels}
use Rattle.channels.specs.declared.words.Event.{Event}
use Rattle.channels.specs.declared.words.Event.TheVariants.{Accept, Decline, Close}
use Rattle.channels.specs.declared.words.State.TheVariants.{Pending}
use Rattle.channels.specs.Held.{event_checks, expects, holding, Met}
use Rattle.channels.specs.Holdings.{Holding}
use Rattle.judges.specs.declared.words.Capability.{Capability}
use Rattle.judges.specs.declared.words.Proposal.{Proposal}
use Rattle.keyed.specs.Keyed.{Numbered, After}
use Rattle.refusals.specs.declared.refusal.Refusal.{Refusal}
use Rattle.refusals.specs.declared.refusal.Refusal.TheVariants.{Unknown}
use Rattle.refusals.specs.Checks.{First, Passed}
use Rattle.refusals.proofs.Firsts.{first_fails}
use Rattle.search.specs.declared.found.NoteRow.{NoteRow}
use Rattle.session.specs.declared.state.Session.{Session}
use Rattle.session.specs.declared.words.HandedBack.{HandedBack}
use Rattle.session.specs.Calls.{Call, ask, accept, decline, close, refused, done, opened, went}
use Rattle.session.specs.Rules.{pending_checks, checks, Ends, refusal, result, Wrote}
use Rattle.session.specs.Steps.{held, situation, of_settling, settling_of, of_close, Settled, Did}
use Rattle.session.proofs.Ending.{never, refuses, asked_at}

-- a pending open is refused as unknown, or as its channel is
module _ (own : ℕ) (xs : List (Numbered Holding)) (e : Event) (session n : ℕ) (is : expects e ≡ Pending) where
  pub pending_refused : (k : Refusal) → ((k ≡ Unknown) × (session ≡ own → ⊥)) ⊎ ((session ≡ own) × First (event_checks xs e n) k) → First (pending_checks own xs session n) k
  pending_refused k (inl (u, ne)) = inl (u, λ h. ne h.0)
  pending_refused k (inr (q, inl (u, f))) = inl (u, λ h. f h.1)
  pending_refused k (inr (q, inr (h, inl (u, f)))) = inr ((q, h), inl (u, λ p. f (p.0, p.1 ∙ ap (λ s. Rattle.std.specs.declared.option.Option.TheVariants.Some (holding p.0 s)) (sym is))))
  pending_refused k (inr (q, inr (h, inr (p, f)))) = absurd f

  pub pending_passed : session ≡ own → Passed (event_checks xs e n) → Passed (pending_checks own xs session n)
  pending_passed q (h, ((p, at_n), _)) = ((q, h), ((p, at_n ∙ ap (λ s. Rattle.std.specs.declared.option.Option.TheVariants.Some (holding p s)) is), tt))

module _ {J : Type 0} (lawful : J → Capability → Bool) (covers : J → Capability → Proposal → Bool) where
  refuses_at : (s t : Session J) (c : Call) (k : Refusal) (left : List NoteRow) → t ≡ s → First (checks (lawful s.judge) (covers s.judge) s.number (situation s) c) k
      → Wrote (covers s.judge) (situation s) c (refused k) left → Did lawful covers s c (refused k) left t
  refuses_at s t c k left e f w = subst (Did lawful covers s c (refused k) left) (sym e) (refuses lawful covers s c k left f w)

  module _ (s t : Session J) (session n : ℕ) where
    pub accepted : (r : Result (Unit {0}) HandedBack) → Settled s Accept session n (settling_of r) t → Did lawful covers s (accept session n) (of_settling r) [] t
    accepted (Ok _) h =
        record {
          ends = result (pending_passed s.number (held s) Accept session n refl h.answer.0 h.answer.1) refl;
          wrote = refl;
          same = λ e. absurd (never (sym e));
          leaves = λ _. record { channels = h.answer.2; table = ap Rattle.table.specs.Sets.standing h.table };
          judge = h.judge;
          number = h.number;
        }
    accepted (Err b) h = refuses_at s t (accept session n) b.refusal [] h.answer.0 (pending_refused s.number (held s) Accept session n refl b.refusal h.answer.1) refl

    pub declined : (r : Result (Unit {0}) HandedBack) → Settled s Decline session n (settling_of r) t → Did lawful covers s (decline session n) (of_settling r) [] t
    declined (Ok _) h =
        record {
          ends = result (pending_passed s.number (held s) Decline session n refl h.answer.0 h.answer.1) refl;
          wrote = refl;
          same = λ e. absurd (never (sym e));
          leaves = λ _. record { channels = h.answer.2; table = ap Rattle.table.specs.Sets.standing h.table };
          judge = h.judge;
          number = h.number;
        }
    declined (Err b) h = refuses_at s t (decline session n) b.refusal [] h.answer.0 (pending_refused s.number (held s) Decline session n refl b.refusal h.answer.1) refl

  -- the session with other channels
  abbrev with : Session J → Channels → Session J
  with s ch = record { judge = s.judge; number = s.number; table = s.table; channels = ch }

  pub closed : (s : Session J) (n : ℕ) (r : Result (Unit {0}) Refusal) (ch : Channels) → Met Close n s.channels r ch → Did lawful covers s (close n) (of_close r) [] (with s ch)
  closed s n (Ok _) ch h =
      record {
        ends = result h.0 refl;
        wrote = refl;
        same = λ e. absurd (never (sym e));
        leaves = λ _. record { channels = h.1; table = refl };
        judge = refl;
        number = refl;
      }
  closed s n (Err k) ch h = refuses_at s (with s ch) (close n) k [] (ap (with s) h.0) h.1 refl

  -- the accept that follows an ask is not refused
  pub just_asked : (s m : Session J) (n : ℕ) (p : Proposal) (note : List NoteRow) (w : List ℕ) (d : ℕ) (left : List NoteRow) (session channel : ℕ) → Did lawful covers s (ask n p note w) (opened d) left m → session ≡ s.number → channel ≡ n
      → Passed (pending_checks m.number (held m) session channel)
  just_asked s m n p note w d left session channel h e f =
      let here = asked_at (held s) (held m) n p (h.leaves refl).channels in
      let same = ap (Rattle.keyed.specs.Keyed.at (held m)) f ∙ here in
      ((e ∙ sym h.number, (holding p Pending, same)), ((p, same), tt))

  pub accept_fails : (m t : Session J) (session n : ℕ) (k : Refusal) (left : List NoteRow) → Did lawful covers m (accept session n) (refused k) left t → Passed (pending_checks m.number (held m) session n) → ⊥
  accept_fails m t session n k left h p = fails h.ends
    where
      gone : refused k ≡ done → ⊥
      gone e = never (ap went e)

      fails : Ends (lawful m.judge) (covers m.judge) m.number (situation m) (accept session n) (refused k) → ⊥
      fails (refusal f) = first_fails (pending_checks m.number (held m) session n) k f p
      fails (result q r) = gone r

  pub accept_goes : (m t : Session J) (session n : ℕ) (r : Result (Unit {0}) HandedBack) → Did lawful covers m (accept session n) (of_settling r) [] t → Passed (pending_checks m.number (held m) session n) → r ≡ Ok tt
  accept_goes m t session n (Ok _) h p = refl
  accept_goes m t session n (Err b) h p = absurd (accept_fails m t session n b.refusal [] h p)
