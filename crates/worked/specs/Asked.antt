-- How asks of a session over the standard judge end.
use Rattle.std.specs.Prelude.{ℕ, ◌≤◌, List, [], ◌∷◌, length, ◌≢◌}
use Rattle.channels.specs.declared.words.State.TheVariants.{Established}
use Rattle.channels.specs.Held.{holding}
use Rattle.channels.specs.Holdings.{Holding, proposals}
use Rattle.judges.specs.declared.words.Proposal.{Proposal}
use Rattle.judges.specs.Tests.{standard_lawful, standard_covers}
use Rattle.keyed.specs.Keyed.{Numbered}
use Rattle.refusals.specs.declared.refusal.Refusal.TheVariants.{NotSupported, NotAvailable}
use Rattle.search.specs.declared.found.NoteRow.{NoteRow}
use Rattle.search.specs.Answers.{Notes}
use Rattle.session.specs.Calls.{ask, Answer, refused, opened}
use Rattle.session.specs.Rules.{Situation, Concerned, Ends}
use Rattle.table.specs.Sets.{Standing}
use Rattle.worked.specs.Judged.{offered, wanted}
use Rattle.worked.specs.Seated.{entry, entries, sets}

-- an established channel
abbrev pub held : ℕ → Proposal → Numbered Holding
held n p = record { number = n; value = holding p Established }

-- the table of the seatings: three entries, and descriptor 0 with {1, 2}, {2, 3} and {1}
abbrev pub three_sets : Standing
three_sets = record { entries = entries; descriptors = record { number = 0; value = sets } ∷ [] }

-- with two channels held, and with three
abbrev pub with_two : Situation
with_two = record { channels = held 201 (wanted 1 20 0) ∷ (held 202 (wanted 2 20 0) ∷ []); table = three_sets }

abbrev pub with_three : Situation
with_three = record { channels = held 201 (wanted 1 20 0) ∷ (held 202 (wanted 2 20 0) ∷ (held 203 (wanted 3 4 0) ∷ [])); table = three_sets }

-- no channel is held, and nothing stands
abbrev pub with_nothing : Situation
with_nothing = record { channels = []; table = record { entries = []; descriptors = [] } }

-- no channel is held, and entry 1 stands, G.711 A-law with 20 frames, but no descriptor
abbrev pub with_an_entry : Situation
with_an_entry = record { channels = []; table = record { entries = entry 1 (offered 1 20 0) ∷ []; descriptors = [] } }

-- the channels 202, 203 and 204, at the places 1, 2 and 3, and two sets
abbrev pub last_three_noted : NoteRow
last_three_noted = record { descriptor = 0; group = 14; sets = 2 }

-- in a session of any number, and with a note and scratch memory that are long enough
module _ (own : ℕ) (note : List NoteRow) (scratch : List ℕ) where
  abbrev pub Asks : Situation → ℕ → Proposal → Answer → Type 0
  Asks s n p a = Ends standard_lawful standard_covers own s (ask n p note scratch) a

pub record SessionExamples : Type 0 where
  -- 203 is carried, by moving two channels: descriptor 0
  pub third_opened : (own : ℕ) (note : List NoteRow) (scratch : List ℕ) → 16 ≤ length note → 512 ≤ length scratch → Asks own note scratch with_two 203 (wanted 3 4 0) (opened 0)
  -- then 204 is refused as not available, with one row for the one descriptor
  pub fourth_refused : (own : ℕ) (note : List NoteRow) (scratch : List ℕ) → 16 ≤ length note → 512 ≤ length scratch → Asks own note scratch with_three 204 (wanted 2 20 0) (refused (NotAvailable 1))
  -- and the three channels 202, 203, 204 with two sets are a lawful row
  pub fourth_noted : Concerned with_three.channels 204 (wanted 2 20 0) (λ ys. Notes standard_covers three_sets (proposals ys) three_sets.descriptors (last_three_noted ∷ []))
  -- an empty table supports no proposal
  pub nothing_supported : (own : ℕ) (note : List NoteRow) (scratch : List ℕ) → 16 ≤ length note → 512 ≤ length scratch → (n : ℕ) (p : Proposal) → (n ≢ 0) → Asks own note scratch with_nothing n p (refused NotSupported)
  -- an entry that no descriptor names supports its proposal, but nothing carries it, and the note has no rows
  pub entry_unavailable : (own : ℕ) (note : List NoteRow) (scratch : List ℕ) → 16 ≤ length note → 512 ≤ length scratch → (n : ℕ) → (n ≢ 0) → Asks own note scratch with_an_entry n (wanted 1 20 0) (refused (NotAvailable 0))
