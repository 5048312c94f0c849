-- The law over runs.
use Rattle.std.specs.Prelude.{◌≡◌, ℕ, ◌≤◌, Bool, List, [], ◌∷◌, ◌++◌, length, None, Ok, Option}
use Rattle.channels.specs.declared.words.Channel.{Channel}
use Rattle.channels.specs.Held.{Ranked}
use Rattle.channels.specs.Holdings.{Holding, proposals}
use Rattle.judges.specs.declared.words.Capability.{Capability}
use Rattle.judges.specs.declared.words.Proposal.{Proposal}
use Rattle.keyed.specs.Keyed.{Numbered, at}
use Rattle.search.specs.declared.found.NoteRow.{NoteRow}
use Rattle.search.specs.declared.seat.Seat.{Seat}
use Rattle.session.specs.declared.state.Session.{Session}
use Rattle.session.specs.Calls.{Call, Answer}
use Rattle.session.specs.Rules.{Situation, Carried, Ends, Wrote}
use Rattle.session.specs.Steps.{held, situation, Made, Counts, Ranks, Reads, Did, SeatedAs}
use Rattle.table.specs.Sets.{Standing, standing}
use Rattle.runs.specs.History.{Ended, ended, calls, HeldAfter, StandsAfter, Situated, Reckoned}

module _ {J : Type 0} (lawful : J → Capability → Bool) (covers : J → Capability → Proposal → Bool) (j : J) (own : ℕ) where
  -- A run: a session that was made over a judge with a number, and then called, each time as the call's own contract says. It has a history, and what each call left in its note.
  pub data Run : List Ended → List (List NoteRow) → Session J → Type 0 where
    made : {s : Session J} → Made j own s → Run [] [] s
    called : {h : List Ended} {ns : List (List NoteRow)} {s t : Session J} {c : Call} {a : Answer} {left : List NoteRow}
        → Run h ns s → Did lawful covers s c a left t → Run (ended c a ∷ h) (left ∷ ns) t

  -- What holds after a run with a history h, the notes ns and the session s.
  pub record HoldsGood (h : List Ended) (ns : List (List NoteRow)) (s : Session J) : Type 0 where
    -- the read-outs show exactly the channels held after the history, by rising number, and exactly the entries that then stand
    pub situated : Situated h (situation s)
    pub count : (r : ℕ) → Counts s r → (xs : List (Numbered Holding)) → HeldAfter h xs → r ≡ length xs
    pub ranked : (k : ℕ) (r : Option Channel) → Ranks s k r → (xs : List (Numbered Holding)) → HeldAfter h xs → Ranked xs k r
    pub entry : (n : ℕ) (r : Option Capability) → Reads s n r → (t : Standing) → StandsAfter h t → r ≡ at t.entries n
    -- at most 16 channels are held
    pub few : length (held s) ≤ 16
    -- if any are held, one standing descriptor carries them all, and a seating answers none only where none is held
    pub carried : Carried (covers j) (standing s.table) (proposals (held s))
    pub seated : (list left : List Seat) (scratch : List ℕ) → SeatedAs covers s list scratch (Ok None) left → held s ≡ []
    -- each call ended with the result, or else the first refusal in order, that the rules give on the channels held and the table just before it; and each ask that was refused as not available left its note so
    pub reckoned : Reckoned (lawful j) (covers j) own h ns
    pub judged : (g : List Ended) (c : Call) (a : Answer) (k : List Ended) (ms : List (List NoteRow)) (left : List NoteRow) (js : List (List NoteRow)) (v : Situation)
        → h ≡ g ++ (ended c a ∷ k) → ns ≡ ms ++ (left ∷ js) → length ms ≡ length g → Situated k v → Ends (lawful j) (covers j) own v c a × Wrote (covers j) v c a left
    -- the arguments alone decide: whatever the rules give to the same calls has the same answers, and leaves the same channels and the same table
    pub decided : (k : List Ended) (ms : List (List NoteRow)) (v : Situation) → Reckoned (lawful j) (covers j) own k ms → calls k ≡ calls h → Situated k v → (k ≡ h) × (v ≡ situation s)

-- For a judge's meaning: any session number, any sequence of calls, with any arguments.
abbrev pub Law : {J : Type 0} → (J → Capability → Bool) → (J → Capability → Proposal → Bool) → Type 0
Law {J} lawful covers = (j : J) (own : ℕ) (h : List Ended) (ns : List (List NoteRow)) (s : Session J) → Run lawful covers j own h ns s → HoldsGood lawful covers j own h ns s
