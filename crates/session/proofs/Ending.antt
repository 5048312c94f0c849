-- How calls end: refused, or done.
use Rattle.std.proofs.Common.{◌≡◌, ℕ, ◌<◌, ◌≤◌, Bool, true, false, eqb, List, [], ◌∷◌, ◌++◌, length, drop, Some, Ok, Err, Result, sym, refl, ap, ◌∙◌, subst, inl, inr, arith}
use Rattle.std.specs.Result.{IsOk, OnErr}
use Rattle.std.proofs.lemmas.List.{length-map}
use Rattle.std.proofs.lemmas.Bool.{both_ways, cond-true, eq-eqb}
use Rattle.bounded.specs.declared.held.NoRoom.{NoRoom}
use Rattle.channels.specs.declared.words.State.TheVariants.{Pending}
use Rattle.channels.specs.Held.{asked, holding}
use Rattle.channels.specs.Holdings.{Holding, proposals}
use Rattle.judges.specs.declared.words.Capability.{Capability}
use Rattle.judges.specs.declared.words.Proposal.{Proposal}
use Rattle.keyed.specs.Keyed.{Numbered, After, Word, silent, said, afterwards, at}
use Rattle.keyed.proofs.Merged.{after_one}
use Rattle.refusals.specs.declared.refusal.Refusal.{Refusal}
use Rattle.refusals.specs.declared.refusal.Refusal.TheVariants.{NotAvailable}
use Rattle.refusals.specs.Checks.{First, Passed}
use Rattle.refusals.proofs.Firsts.{first_early, first_later, passed_both}
use Rattle.search.specs.declared.found.NoteRow.{NoteRow}
use Rattle.search.specs.Answers.{Smallest, Notes}
use Rattle.search.specs.Carrying.{usable}
use Rattle.search.specs.Scratch.{scratch_checks}
use Rattle.search.proofs.Front.{carries_few, narrow}
use Rattle.table.specs.declared.standing.Table.{Table}
use Rattle.table.specs.Sets.{Standing, Done, message, set_checks, standing, entries_of}
use Rattle.table.proofs.Judged.{one_after}
use Rattle.session.specs.declared.state.Session.{Session}
use Rattle.session.specs.Calls.{Call, set, ask, Answer, refused, unavailable}
use Rattle.session.specs.Rules.{Situation, Carried, list_checks, ask_checks, room_checks, narrow_checks, checks, refusal, NotesLeft, Wrote}
use Rattle.session.specs.Steps.{situation, Did}

pub never : false ≡ true → ⊥
never e = both_ways false refl e

module _ {J : Type 0} (lawful : J → Capability → Bool) (covers : J → Capability → Proposal → Bool) where
  -- a refused call leaves the session as it stood
  pub refuses : (s : Session J) (c : Call) (k : Refusal) (left : List NoteRow) → First (checks (lawful s.judge) (covers s.judge) s.number (situation s) c) k
      → Wrote (covers s.judge) (situation s) c (refused k) left → Did lawful covers s c (refused k) left s
  refuses s c k left f w = record { ends = refusal f; wrote = w; same = λ _. refl; leaves = λ e. absurd (never e); judge = refl; number = refl }

-- what holds of the channels concerned holds of any such list
pub concerns : (P : List (Numbered Holding) → Type 0) (xs : List (Numbered Holding)) (n : ℕ) (p : Proposal) (ys : List (Numbered Holding)) → After xs (asked n p) ys → P ys → (zs : List (Numbered Holding)) → After xs (asked n p) zs → P zs
concerns P xs n p ys after h zs g = subst P (after_one xs (asked n p) ys zs after g) h

-- an ask that is not refused as not available leaves its note
pub note_kept : (covers : Capability → Proposal → Bool) (s : Situation) (n : ℕ) (p : Proposal) (note left : List NoteRow) {a : Answer} → unavailable a ≡ false → left ≡ note → NotesLeft covers s n p note a left
note_kept covers s n p note left {a} e is = record { blocked = λ h. absurd (both_ways (unavailable a) e h); kept = λ _. is }

-- one that is leaves the rows of the note before those that it had
pub note_written : (covers : Capability → Proposal → Bool) (s : Situation) (n : ℕ) (p : Proposal) (note rows left : List NoteRow) (k : ℕ) (ys : List (Numbered Holding)) → After s.channels (asked n p) ys
    → Notes covers s.table (proposals ys) s.table.descriptors rows → left ≡ rows ++ drop (length rows) note → NotesLeft covers s n p note (refused (NotAvailable k)) left
note_written covers s n p note rows left k ys after h is =
    record {
      blocked = λ _. (rows, concerns (λ zs. Notes covers s.table (proposals zs) s.table.descriptors rows) s.channels n p ys after h, is);
      kept = λ e. absurd (never (sym e));
    }

-- scratch of 512 octets is not refused
pub not_short : (w : List ℕ) (k : Refusal) → 512 ≤ length w → First (scratch_checks w) k → ⊥
not_short w k h (inl (_, l)) = l h
not_short w k h (inr (_, f)) = f

-- too little scratch is not refused with 15
pub scratch_before_15 : (w : List ℕ) (k : Refusal) → First (scratch_checks w) k → unavailable (refused k) ≡ false
scratch_before_15 w k (inl (e, _)) = ap (λ (j : Refusal). unavailable (refused j)) e
scratch_before_15 w k (inr (_, f)) = absurd f

module _ (lawful : Capability → Bool) (covers : Capability → Proposal → Bool) (own : ℕ) (s : Situation) where
  -- a set message that is done
  module _ (m w : List ℕ) (room : 512 ≤ length w) where
    module _ (t : Standing) (d : Done lawful m s.table t) where
      pub set_passed : Carried covers t (proposals s.channels) → Passed (checks lawful covers own s (set m w))
      set_passed c = (
        room,
        passed_both (narrow_checks lawful covers own s m) (set_checks lawful m s.table) d.passed
            ((λ u g. subst (λ (v : Standing). Carried covers v (proposals s.channels)) (one_after s.table (message m) t u d.merged g) c), tt),
      )

  -- no check of an ask before its last is 15
  pub other_than_15 : (n : ℕ) (p : Proposal) (k : Refusal) → First (ask_checks lawful covers own s n p) k → unavailable (refused k) ≡ false
  other_than_15 n p k (inl (e, _)) = ap (λ (j : Refusal). unavailable (refused j)) e
  other_than_15 n p k (inr (_, inl (e, _))) = ap (λ (j : Refusal). unavailable (refused j)) e
  other_than_15 n p k (inr (_, inr (_, inl (e, _)))) = ap (λ (j : Refusal). unavailable (refused j)) e
  other_than_15 n p k (inr (_, inr (_, inr f))) = absurd f.1

  -- an ask: refused before its last check, not available, or done
  module _ (n : ℕ) (p : Proposal) (note : List NoteRow) (w : List ℕ) (room : 512 ≤ length w) where
    pub ask_early : (k : Refusal) → First (list_checks note ++ ask_checks lawful covers own s n p) k → First (checks lawful covers own s (ask n p note w)) k × (unavailable (refused k) ≡ false)
    ask_early k (inl (e, f)) = (inr (room, inl (e, f)), ap (λ (j : Refusal). unavailable (refused j)) e)
    ask_early k (inr (rows, f)) = (inr (room, inr (rows, first_early (room_checks lawful covers own s n p) (ask_checks lawful covers own s n p) k f)), other_than_15 n p k f)

    module _ (rows : 16 ≤ length note) where
      module _ (passed : Passed (ask_checks lawful covers own s n p)) (ys : List (Numbered Holding)) (after : After s.channels (asked n p) ys) where
        pub ask_blocked : (k : ℕ) → k ≡ length s.table.descriptors → (Carried covers s.table (proposals ys) → ⊥) → First (checks lawful covers own s (ask n p note w)) (NotAvailable k)
        ask_blocked k e not =
            inr (room, inr (rows, first_later (room_checks lawful covers own s n p) (ask_checks lawful covers own s n p) (NotAvailable k) passed (inl (ap NotAvailable e, λ all. not (all ys after)))))

        pub ask_passed : Carried covers s.table (proposals ys) → Passed (checks lawful covers own s (ask n p note w))
        ask_passed c = (
          room,
          (
            rows,
            passed_both (room_checks lawful covers own s n p) (ask_checks lawful covers own s n p) passed
                ((λ zs g. subst (λ (vs : List (Numbered Holding)). Carried covers s.table (proposals vs)) (after_one s.channels (asked n p) ys zs after g) c), tt),
          ),
        )

-- the asked channel is among those concerned
pub asked_at : (xs ys : List (Numbered Holding)) (n : ℕ) (p : Proposal) → After xs (asked n p) ys → at ys n ≡ Some (holding p Pending)
asked_at xs ys n p after =
    after.stands n ∙ ap (λ (v : Word Holding). afterwards v (at xs n)) (cond-true (eqb n n) (said (Some (holding p Pending))) silent (eq-eqb n n refl))

pub asked_some : (xs ys : List (Numbered Holding)) (n : ℕ) (p : Proposal) → After xs (asked n p) ys → proposals ys ≡ [] → ⊥
asked_some xs [] n p after e = absurd (let a = asked_at xs [] n p after in let z : ◌≡◌ {A = ℕ} 0 1 = cc in omega arith)
asked_some xs (y ∷ ys) n p after e = absurd (omega (arith, ap length e))

-- a table's descriptors carry at most 16 channels
pub carried_few : (covers : Capability → Proposal → Bool) (t : Table) (xs : List (Numbered Holding)) (d : ℕ) → Smallest covers (standing t) (proposals xs) d → length xs ≤ 16
carried_few covers t xs d s =
    omega (arith, narrow t s.descriptor s.stands, carries_few (usable covers (entries_of t)) s.descriptor.value (proposals xs) s.carries, length-map xs (λ x. x.value.proposal))

-- at most 16 channels are held
pub few_held : (r : Result (Unit {0}) NoRoom) (same : Type 0) (xs ys : List (Numbered Holding)) (n : ℕ) (p : Proposal) → OnErr r (same × ((zs : List (Numbered Holding)) → After xs (asked n p) zs → 16 < length zs)) → After xs (asked n p) ys → length ys ≤ 16 → IsOk r
few_held (Ok _) same xs ys n p full after few = refl
few_held (Err k) same xs ys n p full after few = absurd (let many = full.1 ys after in omega arith)
