-- How the asks of the examples end.
use Rattle.std.proofs.Common.{◌≡◌, ℕ, zero, suc, ◌≤◌, List, [], ◌∷◌, length, Some, None, refl, subst, inl, inr, arith}
use Rattle.bounded.specs.Bit.{bit}
use Rattle.channels.specs.Held.{asked}
use Rattle.channels.specs.Holdings.{Holding, proposals}
use Rattle.judges.specs.declared.words.Proposal.{Proposal}
use Rattle.judges.specs.Tests.{standard_lawful, standard_covers}
use Rattle.keyed.specs.Keyed.{After}
use Rattle.keyed.specs.Merge.{merging}
use Rattle.keyed.proofs.Merged.{merging_after}
use Rattle.refusals.specs.declared.refusal.Refusal.TheVariants.{NotSupported, NotAvailable}
use Rattle.search.specs.declared.found.NoteRow.{NoteRow}
use Rattle.search.specs.Answers.{Stands, Smallest, Notes, Noted}
use Rattle.search.specs.Lists.{At}
use Rattle.session.specs.Calls.{ask, refused, opened}
use Rattle.session.specs.Rules.{Ends, refusal, result}
use Rattle.session.proofs.Carries.{carried_by, not_carried}
use Rattle.session.proofs.Ending.{concerns, asked_some, ask_early, ask_blocked, ask_passed}
use Rattle.worked.specs.Asked.{three_sets, with_two, with_three, with_nothing, with_an_entry, last_three_noted, SessionExamples}
use Rattle.worked.specs.Judged.{offered, wanted}
use Rattle.worked.specs.Seated.{entry, sets, four}
use Rattle.worked.proofs.Seated.{three_seats, last_block}

none_at : {A : Type 0} {x : Holding} → None ≡ Some x → A
none_at {A} {x} e = absurd (let z : ◌≡◌ {A = ℕ} 0 1 = cc in omega arith)

after_third : After with_two.channels (asked 203 (wanted 3 4 0)) (merging (asked 203 (wanted 3 4 0)) with_two.channels)
after_third = merging_after (asked 203 (wanted 3 4 0)) with_two.channels refl refl

after_fourth : After with_three.channels (asked 204 (wanted 2 20 0)) (merging (asked 204 (wanted 2 20 0)) with_three.channels)
after_fourth = merging_after (asked 204 (wanted 2 20 0)) with_three.channels refl refl

smallest_third : Smallest standard_covers three_sets (proposals (merging (asked 203 (wanted 3 4 0)) with_two.channels)) 0
smallest_third = record { descriptor = record { number = 0; value = sets }; stands = (0, (omega arith, refl)); carries = three_seats; number = refl; least = λ d i c. omega arith }

notes_fourth : Notes standard_covers three_sets (proposals (merging (asked 204 (wanted 2 20 0)) with_three.channels)) three_sets.descriptors (last_three_noted ∷ [])
unfolding bit
notes_fourth = record { long = refl; each = each }
  where
    each : (k : ℕ) (d : Stands) (w : NoteRow) → At d three_sets.descriptors k → At w (last_three_noted ∷ []) k → Noted standard_covers three_sets (proposals (merging (asked 204 (wanted 2 20 0)) with_three.channels)) d w
    each zero d w a b =
        subst (λ (x : NoteRow). Noted standard_covers three_sets four d x) b.1
        (subst (λ (x : Stands). Noted standard_covers three_sets four x last_three_noted) a.1 (record { number = refl; blocks = last_block; sets = refl }))
    each (suc k) d w a b = absurd (omega (arith, a.0))

module _ (own : ℕ) (note : List NoteRow) (scratch : List ℕ) (rows : 16 ≤ length note) (room : 512 ≤ length scratch) where
  third : Ends standard_lawful standard_covers own with_two (ask 203 (wanted 3 4 0) note scratch) (opened 0)
  third =
      result
      (ask_passed standard_lawful standard_covers own with_two 203 (wanted 3 4 0) note scratch room rows
      ((λ e. omega arith), ((λ h. none_at h.1), ((entry 3 (offered 3 4 0), (2, (omega arith, refl)), refl), tt)))
      _ after_third (carried_by standard_covers three_sets _ 0 smallest_third))
      (0, concerns (λ ys. Smallest standard_covers three_sets (proposals ys) 0) with_two.channels 203 (wanted 3 4 0) _ after_third smallest_third, refl)

  fourth : Ends standard_lawful standard_covers own with_three (ask 204 (wanted 2 20 0) note scratch) (refused (NotAvailable 1))
  fourth =
      refusal
      (ask_blocked standard_lawful standard_covers own with_three 204 (wanted 2 20 0) note scratch room rows
      ((λ e. omega arith), ((λ h. none_at h.1), ((entry 2 (offered 2 20 0), (1, (omega arith, refl)), refl), tt)))
      _ after_fourth 1 refl (not_carried standard_covers three_sets _ (last_three_noted ∷ []) (asked_some with_three.channels _ 204 (wanted 2 20 0) after_fourth) notes_fourth))

  nothing : (n : ℕ) (p : Proposal) → (n ≡ 0 → ⊥) → Ends standard_lawful standard_covers own with_nothing (ask n p note scratch) (refused NotSupported)
  nothing n p some =
      refusal
      (ask_early standard_lawful standard_covers own with_nothing n p note scratch room NotSupported
      (inr (rows, inr (some, inr ((λ h. none_at h.1), inl (refl, λ s. omega (arith, s.1.1.0))))))).0

  alone : (n : ℕ) → (n ≡ 0 → ⊥) → Ends standard_lawful standard_covers own with_an_entry (ask n (wanted 1 20 0) note scratch) (refused (NotAvailable 0))
  alone n some =
      let after = merging_after (asked n (wanted 1 20 0)) [] refl refl in
      refusal
      (ask_blocked standard_lawful standard_covers own with_an_entry n (wanted 1 20 0) note scratch room rows
      (some, ((λ h. none_at h.1), ((entry 1 (offered 1 20 0), (0, (omega arith, refl)), refl), tt)))
      _ after 0 refl (not_carried standard_covers with_an_entry.table _ [] (asked_some [] _ n (wanted 1 20 0) after) (record { long = refl; each = λ k d w a b. absurd (omega (arith, a.0)) })))

pub session : SessionExamples
session =
    record {
      third_opened = third;
      fourth_refused = fourth;
      fourth_noted = concerns (λ ys. Notes standard_covers three_sets (proposals ys) three_sets.descriptors (last_three_noted ∷ [])) with_three.channels 204 (wanted 2 20 0) _ after_fourth notes_fourth;
      nothing_supported = nothing;
      entry_unavailable = alone;
    }
