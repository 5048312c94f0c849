-- What the rules give to a call, on the channels held and the table just before it.
use Rattle.std.specs.Prelude.{◌≡◌, ℕ, ◌≤◌, Bool, true, false, ◌⊎◌, List, [], ◌∷◌, ◌++◌, length, drop, ◌≢◌, slice_index}
use Rattle.channels.specs.declared.words.Event.TheVariants.{Accept, Decline, Close}
use Rattle.channels.specs.declared.words.State.TheVariants.{Pending}
use Rattle.channels.specs.Held.{asked, shall, becomes, Held, HeldAs, event_checks}
use Rattle.channels.specs.Holdings.{Holding, proposals}
use Rattle.judges.specs.declared.words.Capability.{Capability}
use Rattle.judges.specs.declared.words.Proposal.{Proposal}
use Rattle.keyed.specs.Keyed.{Numbered, After, at}
use Rattle.modes.specs.declared.available.Available.{Available}
use Rattle.modes.specs.Modes.{modes_in}
use Rattle.modes.specs.Requests.{FirstCarried, mode_checks}
use Rattle.refusals.specs.declared.refusal.Refusal.{Refusal}
use Rattle.refusals.specs.declared.refusal.Refusal.TheVariants.{List as ShortList, TooNarrow, Zero, InUse, NotSupported, NotAvailable, Unknown, WrongState}
use Rattle.refusals.specs.Checks.{Check, check, First, Passed}
use Rattle.search.specs.declared.found.NoteRow.{NoteRow}
use Rattle.search.specs.Answers.{Stands, CarriedBy, Smallest, Notes}
use Rattle.search.specs.Lists.{In}
use Rattle.search.specs.Scratch.{scratch_checks}
use Rattle.table.specs.Sets.{Standing, message, Merged, Leaves, set_checks}
use Rattle.session.specs.Calls.{Call, set, ask, accept, decline, close, request, Answer, refused, done, numbered, opened, available, unavailable}

-- The answer to a question is whether it is so.
abbrev pub Whether : Bool → Type 0 → Type 0
Whether true P = P
Whether false P = P → ⊥

-- What a session shows: the channels held, by rising number, and what stands in its table.
pub record Situation : Type 0 where
  pub channels : List (Numbered Holding)
  pub table : Standing

-- The channels that an ask concerns, those held and the asked one, are so.
abbrev pub Concerned : List (Numbered Holding) → ℕ → Proposal → (List (Numbered Holding) → Type 0) → Type 0
Concerned xs n p P = (ys : List (Numbered Holding)) → After xs (asked n p) ys → P ys

module _ (covers : Capability → Proposal → Bool) where
  -- Proposals are carried: there are none, or a standing descriptor carries them.
  abbrev pub Carried : Standing → List Proposal → Type 0
  Carried t ps = (ps ≡ []) ⊎ ((d : Stands) × In d t.descriptors × CarriedBy covers t ps d)

  -- an entry covers the proposal
  abbrev pub Supported : Standing → Proposal → Type 0
  Supported t p = (e : Numbered Capability) × In e t.entries × (covers e.value p ≡ true)

-- a list has so many rows: 16 or more
abbrev pub row_checks : ℕ → List Check
row_checks rows = check ShortList (16 ≤ rows) ∷ []

-- the note of an ask, and the list of a seating, has 16 rows or more
abbrev pub list_checks : {X : Type 0} → List X → List Check
list_checks rows = row_checks (length rows)

-- a pending open is of this session, and its channel is held; the channel is pending
abbrev pub pending_checks : ℕ → List (Numbered Holding) → ℕ → ℕ → List Check
pending_checks own xs session n = check Unknown ((session ≡ own) × Held xs n) ∷ (check WrongState (HeldAs xs n Pending) ∷ [])

module _ (lawful : Capability → Bool) (covers : Capability → Proposal → Bool) (own : ℕ) (s : Situation) where
  -- an ask before its last check: its number, that it is free, and that an entry covers its proposal
  abbrev pub ask_checks : ℕ → Proposal → List Check
  ask_checks n p =
      check Zero (n ≢ 0)
      ∷ (check InUse (Held s.channels n → ⊥)
      ∷ (check NotSupported (Supported covers s.table p)
      ∷ []))

  -- its last check: the channels concerned are carried; the refusal says how many descriptors stand, a row of the note for each
  abbrev pub room_checks : ℕ → Proposal → List Check
  room_checks n p = check (NotAvailable (length s.table.descriptors)) (Concerned s.channels n p (λ ys. Carried covers s.table (proposals ys))) ∷ []

  -- the last check of a set: the table after it carries the channels held
  abbrev pub narrow_checks : List ℕ → List Check
  narrow_checks m = check TooNarrow (Leaves s.table (message m) (λ t. Carried covers t (proposals s.channels))) ∷ []

  -- The checks of each call, in their order.
  abbrev pub checks : Call → List Check
  checks (set m w) = scratch_checks w ++ (set_checks lawful m s.table ++ narrow_checks m)
  checks (ask n p note w) = scratch_checks w ++ (list_checks note ++ (ask_checks n p ++ room_checks n p))
  checks (accept i n) = pending_checks own s.channels i n
  checks (decline i n) = pending_checks own s.channels i n
  checks (close n) = event_checks s.channels Close n
  checks (request m w) = mode_checks covers s.table m w

  -- What a call answers that no check refuses.
  abbrev pub Result : Call → Answer → Type 0
  Result (set m w) a = a ≡ numbered (slice_index m 1)
  Result (ask n p note w) a = (d : ℕ) × Concerned s.channels n p (λ ys. Smallest covers s.table (proposals ys) d) × (a ≡ opened d)
  Result (accept i n) a = a ≡ done
  Result (decline i n) a = a ≡ done
  Result (close n) a = a ≡ done
  Result (request m w) a = (v : Available) × FirstCarried covers s.table (modes_in (message m)) v × (a ≡ available v)

  -- How a call ends: with the first refusal in order, or else with its result.
  pub data Ends (c : Call) : Answer → Type 0 where
    refusal : {k : Refusal} → First (checks c) k → Ends c (refused k)
    result : {a : Answer} → Passed (checks c) → Result c a → Ends c a

-- The channels that are held after a call that was not refused, from those held before.
abbrev pub HoldsThen : Call → List (Numbered Holding) → List (Numbered Holding) → Type 0
HoldsThen (set m w) xs ys = ys ≡ xs
HoldsThen (ask n p note w) xs ys = After xs (asked n p) ys
HoldsThen (accept i n) xs ys = After xs (shall n (becomes Accept (at xs n))) ys
HoldsThen (decline i n) xs ys = After xs (shall n (becomes Decline (at xs n))) ys
HoldsThen (close n) xs ys = After xs (shall n (becomes Close (at xs n))) ys
HoldsThen (request m w) xs ys = ys ≡ xs

-- What stands in the table after it.
abbrev pub StandsThen : Call → Standing → Standing → Type 0
StandsThen (set m w) t u = Merged t (message m) u
StandsThen (ask n p note w) t u = u ≡ t
StandsThen (accept i n) t u = u ≡ t
StandsThen (decline i n) t u = u ≡ t
StandsThen (close n) t u = u ≡ t
StandsThen (request m w) t u = u ≡ t

pub record LeavesThen (c : Call) (s t : Situation) : Type 0 where
  pub channels : HoldsThen c s.channels t.channels
  pub table : StandsThen c s.table t.table

module _ (covers : Capability → Proposal → Bool) (s : Situation) where
  -- What an ask leaves in its note. Refused as not available: a row for each standing descriptor, by rising number, with a group that blocks it; the rows beyond are as they were. Else all are.
  pub record NotesLeft (n : ℕ) (p : Proposal) (note : List NoteRow) (a : Answer) (left : List NoteRow) : Type 0 where
    pub blocked : unavailable a ≡ true → (rows : List NoteRow) × Concerned s.channels n p (λ ys. Notes covers s.table (proposals ys) s.table.descriptors rows) × (left ≡ rows ++ drop (length rows) note)
    pub kept : unavailable a ≡ false → left ≡ note

  -- What a call leaves in the note that it is lent; no other call than an ask is lent one.
  abbrev pub Wrote : Call → Answer → List NoteRow → Type 0
  Wrote (set m w) a left = left ≡ []
  Wrote (ask n p note w) a left = NotesLeft n p note a left
  Wrote (accept i n) a left = left ≡ []
  Wrote (decline i n) a left = left ≡ []
  Wrote (close n) a left = left ≡ []
  Wrote (request m w) a left = left ≡ []
