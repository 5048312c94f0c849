-- What makers quote, from how a call ends.
use Rattle.std.proofs.Common.{◌≡◌, ℕ, zero, suc, ◌<◌, Bool, true, false, List, [], ◌∷◌, ◌++◌, length, sym, refl, ap, ◌∙◌, subst, inl, inr, arith}
use Rattle.std.proofs.lemmas.Bool.{both_ways, cases_eq, cases_lt}
use Rattle.channels.specs.Held.{asked}
use Rattle.channels.specs.Holdings.{Holding, proposals}
use Rattle.judges.specs.declared.words.Capability.{Capability}
use Rattle.judges.specs.declared.words.Proposal.{Proposal}
use Rattle.keyed.specs.Keyed.{Numbered, After, rising, numbers}
use Rattle.keyed.specs.Merge.{merging}
use Rattle.keyed.proofs.Merged.{merging_after, after_one}
use Rattle.modes.specs.Modes.{modes_in}
use Rattle.records.specs.declared.held.Form.TheVariants.{Modes}
use Rattle.records.specs.Messages.{message_checks}
use Rattle.refusals.specs.declared.refusal.Refusal.{Refusal}
use Rattle.refusals.specs.declared.refusal.Refusal.TheVariants.{TooNarrow, NotAvailable, ModeUnavailable}
use Rattle.refusals.specs.Checks.{Check, check, First, Passed}
use Rattle.refusals.proofs.Firsts.{first_later, first_fails, first_one, passed_both, passed_last}
use Rattle.search.specs.declared.found.NoteRow.{NoteRow}
use Rattle.search.specs.Answers.{Stands, CarriedBy, Smallest, NoneCarries}
use Rattle.search.specs.Lists.{At, In}
use Rattle.search.specs.Scratch.{scratch_checks}
use Rattle.session.specs.Calls.{Call, set, ask, request, Answer, refused, went}
use Rattle.session.specs.Rules.{Situation, Concerned, Carried, list_checks, ask_checks, checks, Ends, refusal, result}
use Rattle.session.proofs.Ending.{asked_some}
use Rattle.records.specs.Layout.{Rec}
use Rattle.table.specs.Message.{entries_in, descriptors_in}
use Rattle.table.specs.Sets.{Standing, message, Merged, Once, Leaves, set_checks}
use Rattle.table.proofs.Judged.{one_after}
use Rattle.runs.specs.History.{Ended, ended, StandsAfter, nothing, merged, stays, Reckoned, next}
use Rattle.runs.specs.Words.{Answered, IsNotAvailable, IsTooNarrow, IsModeUnavailable}
use Rattle.runs.proofs.After.{concerned_some}
use Rattle.runs.proofs.One.{result_went, situated_one}
use Rattle.runs.proofs.Runs.{law}

never : false ≡ true → ⊥
never e = both_ways false refl e

-- checks in a row, the last of which is one
module _ (lawful : Capability → Bool) (covers : Capability → Proposal → Bool) (own : ℕ) (v : Situation) (c : Call) (before : List Check) (k : Refusal) (A : Type 0) (is : checks lawful covers own v c ≡ before ++ (check k A ∷ [])) (p : Passed before) where
  -- past the others, the call is refused by the last exactly when what that asks is not so
  refused_last : (a : Answer) → Ends lawful covers own v c a → a ≡ refused k → A → ⊥
  refused_last a (refusal {k = j} f) e x =
      first_fails (before ++ (check k A ∷ [])) j (subst (λ (cs : List Check). First cs j) is f) (passed_both (check k A ∷ []) before p (x, tt))
  refused_last a (result q r) e x = never (sym (ap went e) ∙ result_went lawful covers own v c a r)

  last_refused : (a : Answer) → Ends lawful covers own v c a → (A → ⊥) → a ≡ refused k
  last_refused a (refusal {k = j} f) not =
      ap refused (first_one (before ++ (check k A ∷ [])) j k (subst (λ (cs : List Check). First cs j) is f) (first_later (check k A ∷ []) before k p (inl (refl, not))))
  last_refused a (result q r) not = absurd (not (passed_last (check k A ∷ []) before (subst Passed is q)).0)

-- a table after a history is by rising number
stands_rise : {h : List Ended} {t : Standing} → StandsAfter h t → (rising 0 (numbers t.entries) ≡ true) × (rising 0 (numbers t.descriptors) ≡ true)
stands_rise (nothing e f) = (ap (λ (xs : List (Numbered Capability)). rising 0 (numbers xs)) e, ap (λ (xs : List (Numbered (List (List ℕ)))). rising 0 (numbers xs)) f)
stands_rise (merged w s m) = (m.entries.order, m.descriptors.order)
stands_rise (stays s d) = stands_rise s

-- so a message that names nothing twice leaves a table
leaves_some : {h : List Ended} (t : Standing) (m : List Rec) → StandsAfter h t → Once m → (u : Standing) × Merged t m u
leaves_some t m s once =
    let up = stands_rise s in (
      record { entries = merging (entries_in m) t.entries; descriptors = merging (descriptors_in m) t.descriptors },
      record { entries = merging_after (entries_in m) t.entries once.entries up.0; descriptors = merging_after (descriptors_in m) t.descriptors once.descriptors up.1 },
    )

-- where a standing descriptor carries, it is absurd that none is the smallest
module _ (covers : Capability → Proposal → Bool) (t : Standing) (ps : List Proposal) (none : (n : ℕ) → Smallest covers t ps n → ⊥) where
  none_below : (m : ℕ) (d : Stands) → d.number < m → In d t.descriptors → CarriedBy covers t ps d → ⊥
  none_below zero d l i c = omega arith
  none_below (suc m) d l i c = elim (cases_eq d.number m) [
    | inl e ↦
        none m (record {
          descriptor = d;
          stands = i;
          carries = c;
          number = e;
          least = λ f j k. elim (cases_lt f.number m) [
            | inl b ↦ absurd (none_below m f b j k)
            | inr b ↦ b
          ];
        })
    | inr ne ↦ none_below m d (omega arith) i c
  ]

  pub none_smallest : NoneCarries covers t ps
  none_smallest d i c = none_below (suc d.number) d (omega arith) i c

module _ {J : Type 0} (lawful : J → Capability → Bool) (covers : J → Capability → Proposal → Bool) where
  -- a call of a run ended as the rules have it
  ended_so : (j : J) (own : ℕ) (c : Call) (a : Answer) (v : Situation) → Answered lawful covers j own c a v → Ends (lawful j) (covers j) own v c a
  ended_so j own c a v h =
      moment_of h.later h.notes (subst (λ (z : List Ended). Reckoned (lawful j) (covers j) own z h.notes) h.among (law lawful covers j own h.history h.notes h.session h.run).reckoned)
    where
      moment_of : (g : List Ended) (ns : List (List NoteRow)) → Reckoned (lawful j) (covers j) own (g ++ (ended c a ∷ h.before)) ns → Ends (lawful j) (covers j) own v c a
      moment_of [] ns (next {s = s} r sit p w) = subst (λ (z : Situation). Ends (lawful j) (covers j) own z c a) (situated_one sit h.situated) p
      moment_of (x ∷ g) ns (next {ns = ms} r sit p w) = moment_of g ms r

  pub not_available : IsNotAvailable lawful covers
  not_available j own n p note w a v h passed = (none_carries, refused_so)
    where
      none_carries : a ≡ refused (NotAvailable (length v.table.descriptors)) → Concerned v.channels n p (λ ys. NoneCarries (covers j) v.table (proposals ys))
      none_carries e ys after d i c =
          refused_last (lawful j) (covers j) own v (ask n p note w) (scratch_checks w ++ (list_checks note ++ ask_checks (lawful j) (covers j) own v n p)) (NotAvailable (length v.table.descriptors)) (Concerned v.channels n p (λ ys. Carried (covers j) v.table (proposals ys))) refl passed a (ended_so j own (ask n p note w) a v h) e
          (λ zs g. inr (d, i, subst (λ (us : List (Numbered Holding)). CarriedBy (covers j) v.table (proposals us) d) (after_one v.channels (asked n p) ys zs after g) c))

      refuted : (ys : List (Numbered Holding)) → After v.channels (asked n p) ys → NoneCarries (covers j) v.table (proposals ys) → Carried (covers j) v.table (proposals ys) → ⊥
      refuted ys after none (inl e) = asked_some v.channels ys n p after e
      refuted ys after none (inr (d, i, c)) = none d i c

      refused_so : Concerned v.channels n p (λ ys. NoneCarries (covers j) v.table (proposals ys)) → a ≡ refused (NotAvailable (length v.table.descriptors))
      refused_so none =
          let (ys, after) = concerned_some v.channels n p h.situated.channels.rises in
          last_refused (lawful j) (covers j) own v (ask n p note w) (scratch_checks w ++ (list_checks note ++ ask_checks (lawful j) (covers j) own v n p)) (NotAvailable (length v.table.descriptors)) (Concerned v.channels n p (λ ys. Carried (covers j) v.table (proposals ys))) refl passed a (ended_so j own (ask n p note w) a v h) (λ all. refuted ys after (none ys after) (all ys after))

  pub too_narrow : IsTooNarrow lawful covers
  too_narrow j own m w a v h passed = (none_carries, refused_so)
    where
      not_so : a ≡ refused TooNarrow → (Leaves v.table (message m) (λ t. Carried (covers j) t (proposals v.channels))) → ⊥
      not_so e = refused_last (lawful j) (covers j) own v (set m w) (scratch_checks w ++ set_checks (lawful j) m v.table) TooNarrow (Leaves v.table (message m) (λ t. Carried (covers j) t (proposals v.channels))) refl passed a (ended_so j own (set m w) a v h) e

      none_carries : a ≡ refused TooNarrow → (v.channels ≡ [] → ⊥) × Leaves v.table (message m) (λ t. NoneCarries (covers j) t (proposals v.channels))
      none_carries e = (
        (λ none. not_so e (λ t g. inl (ap proposals none))),
        (λ t g d i c. not_so e (λ u f. subst (λ (z : Standing). Carried (covers j) z (proposals v.channels)) (one_after v.table (message m) t u g f) (inr (d, i, c)))),
      )

      refuted : (t : Standing) (xs : List (Numbered Holding)) → (xs ≡ [] → ⊥) → NoneCarries (covers j) t (proposals xs) → Carried (covers j) t (proposals xs) → ⊥
      refuted t [] some none c = some refl
      refuted t (x ∷ xs) some none (inl e) = omega (arith, ap length e)
      refuted t (x ∷ xs) some none (inr (d, i, c)) = none d i c

      refused_so : (v.channels ≡ [] → ⊥) × Leaves v.table (message m) (λ t. NoneCarries (covers j) t (proposals v.channels)) → a ≡ refused TooNarrow
      refused_so (some, none) =
          let (t, g) = leaves_some v.table (message m) h.situated.table passed.1.1.1.1.1.0 in
          last_refused (lawful j) (covers j) own v (set m w) (scratch_checks w ++ set_checks (lawful j) m v.table) TooNarrow (Leaves v.table (message m) (λ t. Carried (covers j) t (proposals v.channels))) refl passed a (ended_so j own (set m w) a v h) (λ all. refuted t v.channels some (none t g) (all t g))

  pub mode_unavailable : IsModeUnavailable lawful covers
  mode_unavailable j own m w a v h passed = (none_carries, refused_so)
    where
      none_carries : a ≡ refused ModeUnavailable → (k : ℕ) (ps : List Proposal) → At ps (modes_in (message m)) k → NoneCarries (covers j) v.table ps
      none_carries e k ps at-k =
          none_smallest (covers j) v.table ps (λ n s. refused_last (lawful j) (covers j) own v (request m w) (scratch_checks w ++ message_checks Modes m) ModeUnavailable ((k n : ℕ) × (ps : List Proposal) × At ps (modes_in (message m)) k × Smallest (covers j) v.table ps n) refl passed a (ended_so j own (request m w) a v h) e (k, n, ps, at-k, s))

      refused_so : ((k : ℕ) (ps : List Proposal) → At ps (modes_in (message m)) k → NoneCarries (covers j) v.table ps) → a ≡ refused ModeUnavailable
      refused_so none =
          last_refused (lawful j) (covers j) own v (request m w) (scratch_checks w ++ message_checks Modes m) ModeUnavailable ((k n : ℕ) × (ps : List Proposal) × At ps (modes_in (message m)) k × Smallest (covers j) v.table ps n) refl passed a (ended_so j own (request m w) a v h)
          (λ (k, n, ps, at-k, s). none k ps at-k s.descriptor s.stands s.carries)
