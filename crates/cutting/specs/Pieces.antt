-- What a piece of the code stands for, and which pieces are still to come.
use Rattle.std.specs.Prelude.{◌≡◌, ℕ, List, [], length, Option, Some, None}
use Rattle.cutting.specs.declared.front.Pieces.{Pieces}
use Rattle.cutting.specs.declared.piece.Piece.{Piece}
use Rattle.cutting.specs.declared.piece.Piece.TheVariants.{Set, Mode, Bad, Short}
use Rattle.cutting.specs.Cut.{Portion, set_message, mode_message, bad_record, short_rest, Size, Cut}

-- the kind and the octets of a piece
abbrev pub portion : Piece → Portion
portion (Set message) = record { kind = set_message; octets = message.now }
portion (Mode message) = record { kind = mode_message; octets = message.now }
portion (Bad octets) = record { kind = bad_record; octets = octets.now }
portion (Short rest) = record { kind = short_rest; octets = rest.now }

-- the octets that are not cut yet
abbrev pub left : Pieces → List ℕ
left s = s.rest.now

-- the piece at the front is taken, or no octet is left, then and afterwards
abbrev pub Takes : Pieces → Option Piece → Pieces → Type 0
Takes s None t = (left s ≡ []) × (left t ≡ [])
Takes s (Some p) t = Cut (left s) (portion p) (left t) × Size (portion p).kind (length (portion p).octets)
