-- What the bench does with a piece, and what it prints of an input.
use Rattle.std.specs.Prelude.{◌≡◌, ℕ, ◌≤◌, List, [], length, Ok, Err, Result, MatchResult, slice_index}
use Rattle.cutting.specs.Cut.{Kind, set_message, mode_message, bad_record, short_rest, Portion}
use Rattle.lines.specs.declared.line.Line.{Line}
use Rattle.lines.specs.declared.line.Line.TheVariants.{Set, Mode, Bad, Short}
use Rattle.refusals.specs.declared.refusal.Refusal.{Refusal}
use Rattle.refusals.specs.Checks.{First}
use Rattle.refusals.specs.Number.{number}
use Rattle.judges.specs.Tests.{standard_lawful, standard_covers}
use Rattle.modes.specs.declared.available.Available.{Available}
use Rattle.modes.specs.Requests.{Granted, mode_checks}
use Rattle.table.specs.declared.standing.Table.{Table}
use Rattle.table.specs.Sets.{Sets, standing, entries_of, descriptors_of}
use Rattle.replay.specs.Told.{Prints}

-- what a line has of an answer of the table: success, or the number of the refusal
abbrev pub refusal : Result ℕ Refusal → Result Unit ℕ
refusal (Ok n) = Ok tt
refusal (Err k) = Err (number k)

-- the answer to a mode message on a table, in scratch memory that is long enough
abbrev pub Asks : List ℕ → Table → Result Available Refusal → Type 0
Asks octets s r =
    (scratch : List ℕ) × ((512 ≤ length scratch)
    × MatchResult r (Granted standard_covers (standing s) octets scratch) (First (mode_checks standard_covers (standing s) octets scratch)))

-- the line of that answer
abbrev pub line_of_mode : Result Available Refusal → Line
line_of_mode (Ok a) = Mode (Ok a)
line_of_mode (Err k) = Mode (Err (number k))

-- a piece of a kind leads from the table s to t, and l is its line
abbrev pub Does : Kind → List ℕ → Table → Line → Table → Type 0
Does set_message octets s l t = (r : Result ℕ Refusal) × (Sets standard_lawful octets s r t × (l ≡ Set (slice_index octets 1) (refusal r)))
Does mode_message octets s l t = (r : Result Available Refusal) × (Asks octets s r × ((l ≡ line_of_mode r) × (t ≡ s)))
Does bad_record octets s l t = (l ≡ Bad (slice_index octets 0)) × (t ≡ s)
Does short_rest octets s l t = (l ≡ Short) × (t ≡ s)

-- the piece p leads from the table s to t, and l is its line
abbrev pub Step : Table → Portion → Line → Table → Type 0
Step s p l t = Does p.kind p.octets s l t

-- a table in which nothing stands
abbrev pub New : Table → Type 0
New s = (entries_of s ≡ []) × (descriptors_of s ≡ [])

-- out is what the bench prints of the input xs: its lines on a new table
abbrev pub Printed : List ℕ → List ℕ → Type 0
Printed xs out = (s : Table) × (New s × Prints Step s xs out)
