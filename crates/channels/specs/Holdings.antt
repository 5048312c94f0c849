-- What is held at a channel number.
use Rattle.std.specs.Prelude.{List, map}
use Rattle.judges.specs.declared.words.Proposal.{Proposal}
use Rattle.keyed.specs.Keyed.{Numbered}
use Rattle.channels.specs.declared.words.Channel.{Channel}
use Rattle.channels.specs.declared.words.State.{State}

-- What stands at the number of a channel: what it carries, and its state.
pub record Holding : Type 0 where
  pub proposal : Proposal
  pub state : State

abbrev pub channel_row : Channel → Numbered Holding
channel_row c = record { number = c.number; value = record { proposal = c.proposal; state = c.state } }

abbrev pub channel_rows : List Channel → List (Numbered Holding)
channel_rows cs = map channel_row cs

-- the proposals of channels, in their order
abbrev pub proposals : List (Numbered Holding) → List Proposal
proposals xs = map (λ x. x.value.proposal) xs
