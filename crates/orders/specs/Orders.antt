-- What the octets of an open record (tag 9) and of a close record (tag 10) say.
use Rattle.std.specs.Prelude.{ℕ, Bool, ◌&&◌, List, drop, ◌==◌, slice_index}
use Rattle.judges.specs.declared.words.Proposal.{Proposal}
use Rattle.records.specs.Layout.{be16, be32, all_zero}

-- the channel of an open record or a close record, any number of 16 bits
abbrev pub channel_in : List ℕ → ℕ
channel_in o = be16 o 2

-- the proposal of an open record: its kind, p and q, each of any value
abbrev pub proposal_in : List ℕ → Proposal
proposal_in o = record { kind = slice_index o 1; p = be32 o 4; q = be32 o 8 }

-- an open record is in range where each octet past q is zero
abbrev pub is_open_in_range : List ℕ → Bool
is_open_in_range o = all_zero (drop 12 o)

-- a close record is in range where each octet but the tag and the channel is zero
abbrev pub is_close_in_range : List ℕ → Bool
is_close_in_range o = slice_index o 1 == 0 && all_zero (drop 4 o)
