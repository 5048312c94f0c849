-- How an ask ends that is not refused.
use Rattle.std.proofs.Common.{ℕ, ◌≤◌, Bool, List, length, sym, refl}
use Rattle.channels.specs.declared.held.Channels.{Channels}
use Rattle.channels.specs.Held.{channels_of, asked}
use Rattle.channels.specs.Holdings.{proposals}
use Rattle.judges.specs.declared.words.Capability.{Capability}
use Rattle.judges.specs.declared.words.Proposal.{Proposal}
use Rattle.keyed.specs.Keyed.{After}
use Rattle.refusals.specs.Checks.{Passed}
use Rattle.search.specs.declared.found.Found.TheVariants.{Carried}
use Rattle.search.specs.declared.found.NoteRow.{NoteRow}
use Rattle.search.specs.Answers.{Smallest}
use Rattle.table.specs.Sets.{standing}
use Rattle.session.specs.declared.state.Session.{Session}
use Rattle.session.specs.Calls.{ask, opened}
use Rattle.session.specs.Rules.{result}
use Rattle.session.specs.Steps.{situation, asking_checks, FoundFor, Did}
use Rattle.session.proofs.Carries.{carried_by}
use Rattle.session.proofs.Ending.{never, concerns, note_kept, ask_passed}

module _ {J : Type 0} (lawful : J → Capability → Bool) (covers : J → Capability → Proposal → Bool) where
  pub ask_done : (s : Session J) (ch : Channels) (n : ℕ) (p : Proposal) (note : List NoteRow) (w : List ℕ) (d : ℕ) → 512 ≤ length w → Passed (asking_checks lawful covers s n p (length note)) → FoundFor covers s n p (Carried d)
      → After (channels_of s.channels) (asked n p) (channels_of ch) → Did lawful covers s (ask n p note w) (opened d) note (record { judge = s.judge; number = s.number; table = s.table; channels = ch })
  ask_done s ch n p note w d room passed (ys, after, small) fresh =
      record {
        ends = result (ask_passed (lawful s.judge) (covers s.judge) s.number (situation s) n p note w room passed.0 passed.1 ys after (carried_by (covers s.judge) (standing s.table) (proposals ys) d small))
            (d, concerns (λ zs. Smallest (covers s.judge) (standing s.table) (proposals zs) d) (channels_of s.channels) n p ys after small, refl);
        wrote = note_kept (covers s.judge) (situation s) n p _ _ refl refl;
        same = λ e. absurd (never (sym e));
        leaves = λ _. record { channels = fresh; table = refl };
        judge = refl;
        number = refl;
      }
