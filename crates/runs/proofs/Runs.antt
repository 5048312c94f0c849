-- The law over runs.
use Rattle.std.proofs.Common.{◌≡◌, ℕ, Bool, true, false, List, [], ◌∷◌, length, Some, None, Option, sym, refl, ap, ◌∙◌, subst, inl, inr, arith}
use Rattle.std.proofs.lemmas.Bool.{both_ways}
use Rattle.channels.proofs.Amends.{few_held}
use Rattle.channels.specs.declared.words.State.TheVariants.{Pending, Established}
use Rattle.channels.specs.Held.{shall, established, holding, Ranked}
use Rattle.channels.specs.Holdings.{Holding, proposals}
use Rattle.judges.specs.declared.words.Capability.{Capability}
use Rattle.judges.specs.declared.words.Proposal.{Proposal}
use Rattle.keyed.specs.Keyed.{Numbered, After, at, rising, numbers}
use Rattle.refusals.specs.Checks.{Passed}
use Rattle.refusals.proofs.Firsts.{passed_last}
use Rattle.search.specs.declared.found.NoteRow.{NoteRow}
use Rattle.search.specs.Answers.{Smallest}
use Rattle.session.specs.declared.state.Session.{Session}
use Rattle.session.specs.Calls.{Call, set, ask, accept, decline, close, request, Answer, refused, went}
use Rattle.session.specs.Rules.{Situation, Carried, checks, narrow_checks, Result, Ends, refusal, result, LeavesThen, Wrote}
use Rattle.session.specs.Steps.{held, situation, Made, Counts, Ranks, Reads, Did, SeatedAs}
use Rattle.session.proofs.Carries.{carried_by}
use Rattle.table.specs.Sets.{Standing, standing, set_checks}
use Rattle.runs.specs.History.{Ended, ended, calls, IsSet, StandsAfter, nothing, merged, stays, HeldAfter, Situated, Reckoned, start, next}
use Rattle.runs.specs.Law.{Run, made, called, HoldsGood, Law}
use Rattle.runs.proofs.Fewer.{carried_fewer}
use Rattle.runs.proofs.One.{result_went, situated_one, held_one, stands_one, history_one, judged}
use Rattle.runs.proofs.Turns.{held_idle, held_set, held_request, held_ask, held_accept, held_decline, held_close, among_others}

not_ask : {n : ℕ} {p : Proposal} {note : List NoteRow} {w : List ℕ} → IsSet (ask n p note w) → ⊥
not_ask s = elim s [ ]

not_accept : {i n : ℕ} → IsSet (accept i n) → ⊥
not_accept s = elim s [ ]

not_decline : {i n : ℕ} → IsSet (decline i n) → ⊥
not_decline s = elim s [ ]

not_close : {n : ℕ} → IsSet (close n) → ⊥
not_close s = elim s [ ]

not_request : {m w : List ℕ} → IsSet (request m w) → ⊥
not_request s = elim s [ ]

never_some : {x : Holding} → None ≡ Some x → ⊥
never_some {x} e = let z : ◌≡◌ {A = ℕ} 0 1 = cc in omega arith

module _ (lawful : Capability → Bool) (covers : Capability → Proposal → Bool) (own : ℕ) where
  -- what is kept from call to call
  pub record Kept (h : List Ended) (s : Situation) : Type 0 where
    pub situated : Situated h s
    pub carried : Carried covers s.table (proposals s.channels)

  module _ {h : List Ended} {s : Situation} (k : Kept h s) (a : Answer) (went_on : went a ≡ true) where
    -- channels among those held before are carried by the table that stays
    fewer : (t : Situation) (n : ℕ) (o : Option Holding) → After s.channels (shall n o) t.channels → t.table ≡ s.table
        → ((y : Holding) → o ≡ Some y → (x : Holding) × (at s.channels n ≡ Some x) × (x.proposal ≡ y.proposal)) → Carried covers t.table (proposals t.channels)
    fewer t n o after same here =
        subst (λ (u : Standing). Carried covers u (proposals t.channels)) (sym same)
        (carried_fewer s.channels t.channels k.situated.channels.rises after.order (among_others s.channels t.channels n o after here) covers s.table k.carried)

    stayed : {c : Call} (t : Situation) → t.table ≡ s.table → (IsSet c → ⊥) → StandsAfter (ended c a ∷ h) t.table
    stayed {c} t same not = subst (StandsAfter (ended c a ∷ h)) (sym same) (stays k.situated.table (λ _ i. not i))

    goes : (c : Call) (t : Situation) → Passed (checks lawful covers own s c) → Result lawful covers own s c a → LeavesThen c s t → Kept (ended c a ∷ h) t
    goes (set m w) t p r l =
        record {
          situated = record { channels = subst (HeldAfter (ended (set m w) a ∷ h)) (sym l.channels) (held_set k.situated.channels a went_on m w); table = merged went_on k.situated.table l.table };
          carried = subst (λ (xs : List (Numbered Holding)). Carried covers t.table (proposals xs)) (sym l.channels) ((passed_last (narrow_checks lawful covers own s m) (set_checks lawful m s.table) p.1).0 t.table l.table);
        }
    goes (ask n p note w) t q (d, f, e) l =
        record {
          situated = record { channels = held_ask k.situated.channels a went_on t.channels n p note w l.channels; table = stayed t l.table not_ask };
          carried = subst (λ (u : Standing). Carried covers u (proposals t.channels)) (sym l.table) (carried_by covers s.table (proposals t.channels) d (f t.channels l.channels));
        }
    goes (accept i n) t q r l =
        let (p, was) = q.1.0 in
        record {
          situated = record { channels = held_accept k.situated.channels a went_on t.channels n i p was l.channels; table = stayed t l.table not_accept };
          carried = fewer t n (established (at s.channels n)) l.channels l.table (λ y e. accepted_as y p was e);
        }
      where
        accepted_as : (y : Holding) (p : Proposal) → at s.channels n ≡ Some (holding p Pending) → established (at s.channels n) ≡ Some y → (x : Holding) × (at s.channels n ≡ Some x) × (x.proposal ≡ y.proposal)
        accepted_as y p was e =
            let both : Some (holding p Established) ≡ Some y = sym (ap established was) ∙ e in
            let is : holding p Established ≡ y = cc in
            (holding p Pending, was, ap (λ (z : Holding). z.proposal) is)
    goes (decline i n) t q r l =
        record {
          situated = record { channels = held_decline k.situated.channels a went_on t.channels n i l.channels; table = stayed t l.table not_decline };
          carried = fewer t n None l.channels l.table (λ y e. absurd (never_some e));
        }
    goes (close n) t q r l =
        record {
          situated = record { channels = held_close k.situated.channels a went_on t.channels n l.channels; table = stayed t l.table not_close };
          carried = fewer t n None l.channels l.table (λ y e. absurd (never_some e));
        }
    goes (request m w) t q r l =
        record {
          situated = record { channels = subst (HeldAfter (ended (request m w) a ∷ h)) (sym l.channels) (held_request k.situated.channels a went_on m w); table = stayed t l.table not_request };
          carried = subst (λ (xs : List (Numbered Holding)). Carried covers t.table (proposals xs)) (sym l.channels) (subst (λ (u : Standing). Carried covers u (proposals s.channels)) (sym l.table) k.carried);
        }

  -- a refused call leaves all
  idle : {h : List Ended} {s : Situation} (c : Call) (a : Answer) → went a ≡ false → Kept h s → Kept (ended c a ∷ h) s
  idle {h} {s} c a no_more k =
      record {
        situated = record { channels = held_idle c a no_more k.situated.channels; table = stays k.situated.table (λ e _. both_ways (went a) no_more e) };
        carried = k.carried;
      }

  pub turn : {h : List Ended} {s t : Situation} (c : Call) (a : Answer) → Kept h s → Ends lawful covers own s c a → (went a ≡ false → t ≡ s) → (went a ≡ true → LeavesThen c s t) → Kept (ended c a ∷ h) t
  turn {h} {s} {t} c a k (refusal {k = j} f) same leaves = subst (Kept (ended c a ∷ h)) (sym (same refl)) (idle c (refused j) refl k)
  turn {h} {s} {t} c a k (result p r) same leaves = let e = result_went lawful covers own s c a r in goes k a e c t p r (leaves e)

module _ {J : Type 0} (lawful : J → Capability → Bool) (covers : J → Capability → Proposal → Bool) (j : J) (own : ℕ) where
  -- what is kept of a run
  record Going (h : List Ended) (ns : List (List NoteRow)) (s : Session J) : Type 0 where
    judge : s.judge ≡ j
    number : s.number ≡ own
    reckoned : Reckoned (lawful j) (covers j) own h ns
    kept : Kept (lawful j) (covers j) own h (situation s)

  -- a session that was just made
  first : (s : Session J) → Made j own s → Going [] [] s
  first s m =
      record {
        judge = m.judge;
        number = m.number;
        reckoned = start;
        kept = record {
          situated = record {
            channels = record {
              rises = ap (λ (xs : List (Numbered Holding)). rising 0 (numbers xs)) m.channels;
              each = λ n x y. elim y [ ];
              only = λ n x e. absurd (never_some (ap (λ (xs : List (Numbered Holding)). at xs n) (sym m.channels) ∙ e));
            };
            table = nothing m.entries m.descriptors;
          };
          carried = inl (ap proposals m.channels);
        };
      }

  -- one call more
  more : {h : List Ended} {ns : List (List NoteRow)} {s t : Session J} {c : Call} {a : Answer} {left : List NoteRow} → Going h ns s → Did lawful covers s c a left t → Going (ended c a ∷ h) (left ∷ ns) t
  more {h} {ns} {s} {t} {c} {a} {left} g d =
      let ends : Ends (lawful j) (covers j) own (situation s) c a =
      subst (λ (i : ℕ). Ends (lawful j) (covers j) i (situation s) c a) g.number (subst (λ (k : J). Ends (lawful k) (covers k) s.number (situation s) c a) g.judge d.ends) in
      let wrote : Wrote (covers j) (situation s) c a left = subst (λ (k : J). Wrote (covers k) (situation s) c a left) g.judge d.wrote in
      record {
        judge = d.judge ∙ g.judge;
        number = d.number ∙ g.number;
        reckoned = next g.reckoned g.kept.situated ends wrote;
        kept = turn (lawful j) (covers j) own c a g.kept ends (λ e. ap situation (d.same e)) d.leaves;
      }

  runs : {h : List Ended} {ns : List (List NoteRow)} {s : Session J} → Run lawful covers j own h ns s → Going h ns s
  runs (made m) = first _ m
  runs (called r d) = more (runs r) d

  good : {h : List Ended} {ns : List (List NoteRow)} {s : Session J} → Going h ns s → HoldsGood lawful covers j own h ns s
  good {h} {ns} {s} g =
      record {
        situated = g.kept.situated;
        count = λ r c xs x. c ∙ ap length (held_one g.kept.situated.channels x);
        ranked = λ k r c xs x. subst (λ (ys : List (Numbered Holding)). Ranked ys k r) (held_one g.kept.situated.channels x) c;
        entry = λ n r c t x. c ∙ ap (λ (u : Standing). at u.entries n) (stands_one g.kept.situated.table x);
        few = few_held s.channels;
        carried = g.kept.carried;
        seated = λ list left scratch q. unseated q.1;
        reckoned = g.reckoned;
        judged = judged (lawful j) (covers j) own g.reckoned;
        decided = λ k ms v r e x. one k ms v r e x;
      }
    where
      unseated : Rattle.session.specs.Steps.SeatingHeld covers s None → held s ≡ []
      unseated (inl e) = e
      unseated (inr none) = absurd_or (held s) g.kept.carried (subst (λ (i : J). Rattle.search.specs.Answers.NoneCarries (covers i) (standing s.table) (proposals (held s))) g.judge none)
        where
          absurd_or : (xs : List (Numbered Holding)) → Carried (covers j) (standing s.table) (proposals xs) → Rattle.search.specs.Answers.NoneCarries (covers j) (standing s.table) (proposals xs) → xs ≡ []
          absurd_or [] c n = refl
          absurd_or (x ∷ xs) (inl e) n = absurd (omega (arith, ap length e))
          absurd_or (x ∷ xs) (inr (d, i, c)) n = absurd (n d i c)

      one : (k : List Ended) (ms : List (List NoteRow)) (v : Situation) → Reckoned (lawful j) (covers j) own k ms → calls k ≡ calls h → Situated k v → (k ≡ h) × (v ≡ situation s)
      one k ms v r e x =
          let same = history_one (lawful j) (covers j) own r g.reckoned e in
          (same, situated_one (subst (λ (z : List Ended). Situated z v) same x) g.kept.situated)

pub law : {J : Type 0} (lawful : J → Capability → Bool) (covers : J → Capability → Proposal → Bool) → Law lawful covers
law lawful covers j own h ns s r = good lawful covers j own (runs lawful covers j own r)
