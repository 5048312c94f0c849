-- What a history of calls leaves held and standing, and which histories the rules give.
use Rattle.std.specs.Prelude.{◌≡◌, ℕ, Bool, true, List, [], ◌∷◌, Some}
use Rattle.channels.specs.declared.words.State.TheVariants.{Pending, Established}
use Rattle.channels.specs.Held.{holding}
use Rattle.channels.specs.Holdings.{Holding}
use Rattle.judges.specs.declared.words.Capability.{Capability}
use Rattle.judges.specs.declared.words.Proposal.{Proposal}
use Rattle.keyed.specs.Keyed.{Numbered, rising, numbers, at}
use Rattle.search.specs.declared.found.NoteRow.{NoteRow}
use Rattle.session.specs.Calls.{Call, set, ask, accept, decline, close, Answer, went}
use Rattle.session.specs.Rules.{Situation, Ends, Wrote}
use Rattle.table.specs.Sets.{Standing, message, Merged}

-- A call with its arguments, and what it answered. A history is a list of these, the newest first.
pub data Ended : Type 0 where
  ended : Call → Answer → Ended

abbrev pub calls : List Ended → List Call
calls [] = []
calls (ended c a ∷ h) = c ∷ calls h

-- the call speaks of the channel of this number, to take it, to accept it or to remove it
pub data Concerns : Call → ℕ → Type 0 where
  asking : {n : ℕ} {p : Proposal} {note : List NoteRow} {w : List ℕ} → Concerns (ask n p note w) n
  accepting : {i n : ℕ} → Concerns (accept i n) n
  declining : {i n : ℕ} → Concerns (decline i n) n
  closing : {n : ℕ} → Concerns (close n) n

-- Held after a history, at a number: an ask that was done took it, and is pending; an accept that was done has made it established; no decline or close that was done has removed it since.
pub data Holds : List Ended → ℕ → Holding → Type 0 where
  took : {n : ℕ} {p : Proposal} {note : List NoteRow} {w : List ℕ} {a : Answer} {h : List Ended} → went a ≡ true → Holds (ended (ask n p note w) a ∷ h) n (holding p Pending)
  accepted : {i n : ℕ} {p : Proposal} {a : Answer} {h : List Ended} → went a ≡ true → Holds h n (holding p Pending) → Holds (ended (accept i n) a ∷ h) n (holding p Established)
  kept : {n : ℕ} {x : Holding} {c : Call} {a : Answer} {h : List Ended} → Holds h n x → (went a ≡ true → Concerns c n → ⊥) → Holds (ended c a ∷ h) n x

pub data IsSet : Call → Type 0 where
  is_set : {m w : List ℕ} → IsSet (set m w)

-- What stands in the table after a history: nothing at first, and after each set that was done what it leaves of what stood before.
pub data StandsAfter : List Ended → Standing → Type 0 where
  nothing : {t : Standing} → t.entries ≡ [] → t.descriptors ≡ [] → StandsAfter [] t
  merged : {m w : List ℕ} {a : Answer} {h : List Ended} {t u : Standing} → went a ≡ true → StandsAfter h t → Merged t (message m) u → StandsAfter (ended (set m w) a ∷ h) u
  stays : {c : Call} {a : Answer} {h : List Ended} {t : Standing} → StandsAfter h t → (went a ≡ true → IsSet c → ⊥) → StandsAfter (ended c a ∷ h) t

-- These are exactly the channels held after a history, by rising number.
pub record HeldAfter (h : List Ended) (xs : List (Numbered Holding)) : Type 0 where
  pub rises : rising 0 (numbers xs) ≡ true
  pub each : (n : ℕ) (x : Holding) → Holds h n x → at xs n ≡ Some x
  pub only : (n : ℕ) (x : Holding) → at xs n ≡ Some x → Holds h n x

-- The channels held after a history, and what stands then.
pub record Situated (h : List Ended) (s : Situation) : Type 0 where
  pub channels : HeldAfter h s.channels
  pub table : StandsAfter h s.table

module _ (lawful : Capability → Bool) (covers : Capability → Proposal → Bool) (own : ℕ) where
  -- A history that the rules give to a session of a number: each call ended, and left its note, as the rules have it on the channels held and the table just before it.
  pub data Reckoned : List Ended → List (List NoteRow) → Type 0 where
    start : Reckoned [] []
    next : {h : List Ended} {ns : List (List NoteRow)} {s : Situation} {c : Call} {a : Answer} {left : List NoteRow}
        → Reckoned h ns → Situated h s → Ends lawful covers own s c a → Wrote covers s c a left → Reckoned (ended c a ∷ h) (left ∷ ns)
