-- The calls of a session with their arguments, and what they answer.
use Rattle.std.specs.Prelude.{ℕ, Bool, true, false, List, ◌==◌}
use Rattle.judges.specs.declared.words.Proposal.{Proposal}
use Rattle.modes.specs.declared.available.Available.{Available}
use Rattle.refusals.specs.declared.refusal.Refusal.{Refusal}
use Rattle.refusals.specs.Number.{number}
use Rattle.search.specs.declared.found.NoteRow.{NoteRow}

-- A call: its arguments, the octets of messages and the memory that is lent among them. Accept and decline have the session number and the channel number of the pending open.
pub data Call : Type 0 where
  set : (message scratch : List ℕ) → Call
  ask : (channel : ℕ) (proposal : Proposal) (note : List NoteRow) (scratch : List ℕ) → Call
  accept : (session channel : ℕ) → Call
  decline : (session channel : ℕ) → Call
  close : (channel : ℕ) → Call
  request : (message scratch : List ℕ) → Call

-- What a call answers: a refusal; that it is done; a set its sequence number; an ask the descriptor; a mode request the mode's place and the descriptor.
pub data Answer : Type 0 where
  refused : Refusal → Answer
  done : Answer
  numbered : ℕ → Answer
  opened : ℕ → Answer
  available : Available → Answer

-- the call was not refused
abbrev pub went : Answer → Bool
went (refused k) = false
went done = true
went (numbered n) = true
went (opened d) = true
went (available v) = true

-- it was refused as not available, with 15
abbrev pub unavailable : Answer → Bool
unavailable (refused k) = number k == 15
unavailable done = false
unavailable (numbered n) = false
unavailable (opened d) = false
unavailable (available v) = false
