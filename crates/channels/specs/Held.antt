-- The channels held, what is asked of one before an event, and what the event leaves.
use Rattle.std.specs.Prelude.{◌≡◌, ℕ, ◌≤◌, List, [], ◌∷◌, length, IfSome, Some, None, Ok, Err, Option, Result, ◌≢◌}
use Rattle.std.specs.Option.{option_map}
use Rattle.bounded.specs.Items.{items}
use Rattle.judges.specs.declared.words.Proposal.{Proposal}
use Rattle.keyed.specs.Keyed.{Numbered, Mention, After, at}
use Rattle.refusals.specs.declared.refusal.Refusal.{Refusal}
use Rattle.refusals.specs.declared.refusal.Refusal.TheVariants.{Unknown, WrongState}
use Rattle.refusals.specs.Checks.{Check, check, First, Passed}
use Rattle.search.specs.Lists.{At}
use Rattle.channels.specs.declared.held.Channels.{Channels}
use Rattle.channels.specs.declared.words.Channel.{Channel}
use Rattle.channels.specs.declared.words.Event.{Event}
use Rattle.channels.specs.declared.words.Event.TheVariants.{Accept, Decline, Close}
use Rattle.channels.specs.declared.words.State.{State}
use Rattle.channels.specs.declared.words.State.TheVariants.{Pending, Established}
use Rattle.channels.specs.Holdings.{Holding, channel_row, channel_rows}

-- the channels, by rising number
abbrev pub channels_of : Channels → List (Numbered Holding)
channels_of c = channel_rows (items c.list)

abbrev pub holding : Proposal → State → Holding
holding p s = record { proposal = p; state = s }

-- what is said of one number: what shall be held there, none where the channel goes
abbrev pub shall : ℕ → Option Holding → List (Mention Holding)
shall n o = record { number = n; shall = o } ∷ []

-- an ask makes the channel pending
abbrev pub asked : ℕ → Proposal → List (Mention Holding)
asked n p = shall n (Some (holding p Pending))

abbrev pub established : Option Holding → Option Holding
established None = None
established (Some x) = Some (holding x.proposal Established)

-- what an event leaves of what was held: an accepted channel is established, any other goes
abbrev pub becomes : Event → Option Holding → Option Holding
becomes Accept o = established o
becomes Decline o = None
becomes Close o = None

-- the state in which a channel can meet an event
abbrev pub expects : Event → State
expects Accept = Pending
expects Decline = Pending
expects Close = Established

module _ (xs : List (Numbered Holding)) where
  -- a channel of the number is held
  abbrev pub Held : ℕ → Type 0
  Held n = (x : Holding) × (at xs n ≡ Some x)

  -- a channel of the number is held in the state
  abbrev pub HeldAs : ℕ → State → Type 0
  HeldAs n s = (p : Proposal) × (at xs n ≡ Some (holding p s))

  -- before an event: the channel is held, and in the state that the event expects
  abbrev pub event_checks : Event → ℕ → List Check
  event_checks e n = check Unknown (Held n) ∷ (check WrongState (HeldAs n (expects e)) ∷ [])

  -- the channel at a rank, from 0, or none
  abbrev pub Ranked : ℕ → Option Channel → Type 0
  Ranked k (Some c) = At (channel_row c) xs k
  Ranked k None = length xs ≤ k

-- What becomes of a channel that meets an event: what shall be held, or a refusal in any other state than the event expects.
abbrev pub Turned : Channel → Event → Result (Option Channel) Refusal → Type 0
Turned c e (Ok o) = (c.state ≡ expects e) × (becomes e (Some (channel_row c).value) ≡ option_map (λ d. (channel_row d).value) o) × IfSome o (λ d. d.number ≡ c.number)
Turned c e (Err k) = (k ≡ WrongState) × (c.state ≢ expects e)

-- What an event does to the channels: the first refusal, which leaves them as they were; or what shall be held at the number.
abbrev pub Met : Event → ℕ → Channels → Result (Unit {0}) Refusal → Channels → Type 0
Met e n entry (Ok _) exit =
    Passed (event_checks (channels_of entry) e n) × After (channels_of entry) (shall n (becomes e (at (channels_of entry) n))) (channels_of exit)
Met e n entry (Err k) exit = (exit ≡ entry) × First (event_checks (channels_of entry) e n) k
