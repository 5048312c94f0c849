-- The law in three sentences that makers quote.
use Rattle.std.specs.Prelude.{◌≡◌, ℕ, Bool, List, [], ◌∷◌, ◌++◌, length, ◌≢◌}
use Rattle.channels.specs.Holdings.{proposals}
use Rattle.judges.specs.declared.words.Capability.{Capability}
use Rattle.judges.specs.declared.words.Proposal.{Proposal}
use Rattle.modes.specs.Modes.{modes_in}
use Rattle.records.specs.declared.held.Form.TheVariants.{Modes}
use Rattle.records.specs.Messages.{message_checks}
use Rattle.refusals.specs.declared.refusal.Refusal.TheVariants.{TooNarrow, NotAvailable, ModeUnavailable}
use Rattle.refusals.specs.Checks.{Passed}
use Rattle.search.specs.declared.found.NoteRow.{NoteRow}
use Rattle.search.specs.Answers.{NoneCarries}
use Rattle.search.specs.Lists.{At}
use Rattle.search.specs.Scratch.{scratch_checks}
use Rattle.session.specs.declared.state.Session.{Session}
use Rattle.session.specs.Calls.{Call, set, ask, request, Answer, refused}
use Rattle.session.specs.Rules.{Situation, Concerned, list_checks, ask_checks}
use Rattle.table.specs.Sets.{message, Leaves, set_checks}
use Rattle.runs.specs.History.{Ended, ended, Situated}
use Rattle.runs.specs.Law.{Run}

-- each follows from the other
abbrev pub ExactlyWhen : Type 0 → Type 0 → Type 0
ExactlyWhen A B = (A → B) × (B → A)

module _ {J : Type 0} (lawful : J → Capability → Bool) (covers : J → Capability → Proposal → Bool) where
  -- In a run over the judge j of a session with the number own, the call c answered a, and v is the situation just before it.
  pub record Answered (j : J) (own : ℕ) (c : Call) (a : Answer) (v : Situation) : Type 0 where
    pub history : List Ended
    pub notes : List (List NoteRow)
    pub session : Session J
    pub run : Run lawful covers j own history notes session
    pub later : List Ended
    pub before : List Ended
    pub among : history ≡ later ++ (ended c a ∷ before)
    pub situated : Situated before v

  -- Past its earlier checks, an ask is refused as not available exactly when no standing descriptor carries the channels held and the asked one.
  abbrev pub IsNotAvailable : Type 0
  IsNotAvailable =
      (j : J) (own n : ℕ) (p : Proposal) (note : List NoteRow) (w : List ℕ) (a : Answer) (v : Situation) → Answered j own (ask n p note w) a v
      → Passed (scratch_checks w ++ (list_checks note ++ ask_checks (lawful j) (covers j) own v n p))
      → ExactlyWhen (a ≡ refused (NotAvailable (length v.table.descriptors))) (Concerned v.channels n p (λ ys. NoneCarries (covers j) v.table (proposals ys)))

  -- Past its earlier checks, a set is refused as too narrow exactly when channels are held and no descriptor of the table after it carries them.
  abbrev pub IsTooNarrow : Type 0
  IsTooNarrow =
      (j : J) (own : ℕ) (m w : List ℕ) (a : Answer) (v : Situation) → Answered j own (set m w) a v
      → Passed (scratch_checks w ++ set_checks (lawful j) m v.table)
      → ExactlyWhen (a ≡ refused TooNarrow) ((v.channels ≢ []) × Leaves v.table (message m) (λ t. NoneCarries (covers j) t (proposals v.channels)))

  -- Past its earlier checks, a mode request is refused as unavailable exactly when no standing descriptor carries any of its modes.
  abbrev pub IsModeUnavailable : Type 0
  IsModeUnavailable =
      (j : J) (own : ℕ) (m w : List ℕ) (a : Answer) (v : Situation) → Answered j own (request m w) a v
      → Passed (scratch_checks w ++ message_checks Modes m)
      → ExactlyWhen (a ≡ refused ModeUnavailable) ((k : ℕ) (ps : List Proposal) → At ps (modes_in (message m)) k → NoneCarries (covers j) v.table ps)
