-- What each call does to a session, as its contract has it.
use Rattle.std.specs.Prelude.{◌≡◌, ℕ, Bool, true, false, ◌⊎◌, List, [], ◌++◌, length, drop, Some, None, Ok, Err, Option, Result, MatchResult, ◌≢◌}
use Rattle.bounded.specs.Items.{items}
use Rattle.channels.specs.declared.words.Channel.{Channel}
use Rattle.channels.specs.declared.words.Event.{Event}
use Rattle.channels.specs.Held.{channels_of, asked, shall, becomes, event_checks, Ranked}
use Rattle.channels.specs.Holdings.{Holding, proposals}
use Rattle.judges.specs.declared.words.Capability.{Capability}
use Rattle.judges.specs.declared.words.Proposal.{Proposal}
use Rattle.keyed.specs.Keyed.{Numbered, After, at}
use Rattle.modes.specs.declared.available.Available.{Available}
use Rattle.refusals.specs.declared.refusal.Refusal.{Refusal}
use Rattle.refusals.specs.declared.refusal.Refusal.TheVariants.{Unknown}
use Rattle.refusals.specs.Checks.{Check, First, Passed}
use Rattle.search.specs.declared.found.Found.{Found}
use Rattle.search.specs.declared.found.NoteRow.{NoteRow}
use Rattle.search.specs.declared.seat.Seat.{Seat}
use Rattle.search.specs.declared.seat.Seating.{Seating}
use Rattle.search.specs.Answers.{Outcome}
use Rattle.search.specs.Scratch.{scratch_checks}
use Rattle.search.specs.Seats.{SeatingOf}
use Rattle.table.specs.Sets.{set_checks, standing, entries_of, descriptors_of}
use Rattle.session.specs.declared.state.Session.{Session}
use Rattle.session.specs.declared.words.HandedBack.{HandedBack}
use Rattle.session.specs.declared.words.Opened.{Opened}
use Rattle.session.specs.declared.words.PendingOpen.{PendingOpen}
use Rattle.session.specs.Calls.{Call, ask, accept, Answer, refused, done, numbered, opened, available, went}
use Rattle.session.specs.Rules.{Situation, ask_checks, row_checks, list_checks, narrow_checks, Ends, LeavesThen, Wrote}

-- The answer that each call's result stands for.
abbrev pub of_set : Result ℕ Refusal → Answer
of_set (Ok n) = numbered n
of_set (Err k) = refused k

abbrev pub of_ask : Result Opened Refusal → Answer
of_ask (Ok o) = opened o.descriptor
of_ask (Err k) = refused k

-- accept and decline, which hand a pending open back where they refuse
abbrev pub of_settling : Result (Unit {0}) HandedBack → Answer
of_settling (Ok _) = done
of_settling (Err b) = refused b.refusal

-- what their answer says without the pending open
abbrev pub settling_of : Result (Unit {0}) HandedBack → Result (Unit {0}) Refusal
settling_of (Ok u) = Ok u
settling_of (Err b) = Err b.refusal

abbrev pub of_close : Result (Unit {0}) Refusal → Answer
of_close (Ok _) = done
of_close (Err k) = refused k

abbrev pub of_request : Result Available Refusal → Answer
of_request (Ok v) = available v
of_request (Err k) = refused k

-- an ask that is done hands out the pending open of its session and channel
abbrev pub HandsOut : ℕ → ℕ → Result Opened Refusal → Type 0
HandsOut session n (Ok o) = (o.pending.session ≡ session) × (o.pending.channel ≡ n)
HandsOut session n (Err k) = Unit {0}

-- a refusal hands the very pending open back
abbrev pub HandsBack : PendingOpen → Result (Unit {0}) HandedBack → Type 0
HandsBack o (Ok _) = Unit {0}
HandsBack o (Err b) = b.pending ≡ o

module _ {J : Type 0} where
  -- the channels that a session holds, by rising number
  abbrev pub held : Session J → List (Numbered Holding)
  held s = channels_of s.channels

  -- what a session shows
  abbrev pub situation : Session J → Situation
  situation s = record { channels = held s; table = standing s.table }

  -- A session that was just made: over the judge, with the number, no entries, no descriptors and no channels.
  pub record Made (j : J) (n : ℕ) (s : Session J) : Type 0 where
    pub judge : s.judge ≡ j
    pub number : s.number ≡ n
    pub entries : entries_of s.table ≡ []
    pub descriptors : descriptors_of s.table ≡ []
    pub channels : held s ≡ []

  -- The read-outs: how many channels are held, the channel at a rank, the entry at a number.
  abbrev pub Counts : Session J → ℕ → Type 0
  Counts s r = r ≡ length (held s)

  abbrev pub Ranks : Session J → ℕ → Option Channel → Type 0
  Ranks s k r = Ranked (held s) k r

  abbrev pub Reads : Session J → ℕ → Option Capability → Type 0
  Reads s n r = r ≡ at (entries_of s.table) n

module _ {J : Type 0} where
  -- What accept or decline does to the channel that a pending open of a session number and a channel number names.
  pub record Settled (s : Session J) (e : Event) (session n : ℕ) (r : Result (Unit {0}) Refusal) (t : Session J) : Type 0 where
    pub answer : MatchResult r (λ _. (session ≡ s.number) × Passed (event_checks (held s) e n) × After (held s) (shall n (becomes e (at (held s) n))) (held t)) (λ k. (t ≡ s) × (((k ≡ Unknown) × (session ≢ s.number)) ⊎ ((session ≡ s.number) × First (event_checks (held s) e n) k)))
    pub judge : t.judge ≡ s.judge
    pub number : t.number ≡ s.number
    pub table : t.table ≡ s.table

module _ {J : Type 0} (lawful : J → Capability → Bool) (covers : J → Capability → Proposal → Bool) where
  -- A call took the session s to t, answered a and left the note so: it ended as the rules give it on what s shows. Refused, it left s as it stood.
  pub record Did (s : Session J) (c : Call) (a : Answer) (note : List NoteRow) (t : Session J) : Type 0 where
    pub ends : Ends (lawful s.judge) (covers s.judge) s.number (situation s) c a
    pub wrote : Wrote (covers s.judge) (situation s) c a note
    pub same : went a ≡ false → t ≡ s
    pub leaves : went a ≡ true → LeavesThen c (situation s) (situation t)
    pub judge : t.judge ≡ s.judge
    pub number : t.number ≡ s.number

module _ {J : Type 0} (lawful : J → Capability → Bool) (covers : J → Capability → Proposal → Bool) where
  -- A channel is opened at once: an ask, and where that is not refused, an accept of its pending open, which is not refused.
  abbrev pub Opens : Session J → ℕ → Proposal → List NoteRow → List ℕ → Result ℕ Refusal → List NoteRow → Session J → Type 0
  Opens s n p note scratch (Ok d) left t = (m : Session J) × Did lawful covers s (ask n p note scratch) (opened d) left m × Did lawful covers m (accept s.number n) done [] t
  Opens s n p note scratch (Err k) left t = Did lawful covers s (ask n p note scratch) (refused k) left t

module _ {J : Type 0} (covers : J → Capability → Proposal → Bool) where
  -- The checks of a seating, in their order.
  abbrev pub seating_checks : List Seat → List ℕ → List Check
  seating_checks list scratch = scratch_checks scratch ++ list_checks list

  -- A seating of the channels held: none with no channels, or where no standing descriptor carries them; else the smallest descriptor that carries them, and a row for each channel, by rising number.
  abbrev pub SeatingHeld : Session J → Option Seating → Type 0
  SeatingHeld s r = SeatingOf (λ (x : Numbered Holding). x.number) (λ x. x.value.proposal) (covers s.judge) (standing s.table) (held s) r

  -- What a seating answers and leaves in its list: the rows are written from the first on, the others stay.
  abbrev pub SeatedAs : Session J → List Seat → List ℕ → Result (Option ℕ) Refusal → List Seat → Type 0
  SeatedAs s list scratch (Ok None) left = Passed (seating_checks list scratch) × SeatingHeld s None × (left ≡ list)
  SeatedAs s list scratch (Ok (Some d)) left =
      Passed (seating_checks list scratch)
      × ((q : Seating) × SeatingHeld s (Some q) × (d ≡ q.descriptor) × (left ≡ items q.seats ++ drop (length (items q.seats)) list))
  SeatedAs s list scratch (Err k) left = First (seating_checks list scratch) k × (left ≡ list)

module _ {J : Type 0} (lawful : J → Capability → Bool) (covers : J → Capability → Proposal → Bool) where
  -- The checks that a set message is put to, in their order, once there is memory to work in.
  abbrev pub setting_checks : Session J → List ℕ → List Check
  setting_checks s m = set_checks (lawful s.judge) m (standing s.table) ++ narrow_checks (lawful s.judge) (covers s.judge) s.number (situation s) m

  -- The checks that an ask is put to before its last, with a note of so many rows.
  abbrev pub asking_checks : Session J → ℕ → Proposal → ℕ → List Check
  asking_checks s n p rows = row_checks rows ++ ask_checks (lawful s.judge) (covers s.judge) s.number (situation s) n p

module _ {J : Type 0} (covers : J → Capability → Proposal → Bool) where
  -- What is found of the channels that an ask concerns.
  abbrev pub FoundFor : Session J → ℕ → Proposal → Found → Type 0
  FoundFor s n p f = (ys : List (Numbered Holding)) × After (held s) (asked n p) ys × Outcome (covers s.judge) (standing s.table) (proposals ys) f
