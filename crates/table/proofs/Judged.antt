-- The first check of a table that is not met, and what stands where all are.
use Rattle.std.proofs.Common.{◌≡◌, ℕ, ◌<◌, ◌≤◌, Bool, true, false, List, map, length, Ok, Err, Result, sym, refl, ap, ◌∙◌, subst, inl, inr, arith}
use Rattle.std.specs.List.{list_all}
use Rattle.std.specs.Result.{MatchResult, IsErrAnd}
use Rattle.std.proofs.lemmas.List.{length-map}
use Rattle.std.proofs.lemmas.Bool.{both_ways}
use Rattle.bounded.specs.declared.held.Bounded.{Bounded}
use Rattle.bounded.specs.Items.{items}
use Rattle.bounded.proofs.Most.{items_most}
use Rattle.judges.specs.declared.words.Capability.{Capability}
use Rattle.refusals.specs.declared.refusal.Refusal.{Refusal}
use Rattle.refusals.specs.declared.refusal.Refusal.TheVariants.{Entries, Descriptors, Undefined}
use Rattle.refusals.specs.Checks.{Check, First, Passed}
use Rattle.refusals.proofs.Firsts.{first_later, passed_both}
use Rattle.records.specs.declared.held.Cursor.{Cursor}
use Rattle.records.specs.declared.held.Form.TheVariants.{Set}
use Rattle.records.specs.Layout.{Rec, all_in_range}
use Rattle.records.specs.Messages.{message_checks}
use Rattle.records.specs.Order.{set_order}
use Rattle.records.specs.Reads.{rows, rows_of, says, says_of, tags}
use Rattle.records.proofs.Known.{sound, tags_said, all_sound}
use Rattle.records.proofs.Orders.{set_from}
use Rattle.keyed.specs.Keyed.{Numbered, mentioned, repeats, rising, numbers}
use Rattle.keyed.specs.Merge.{merging}
use Rattle.keyed.proofs.Merged.{merging_after, after_one}
use Rattle.table.specs.declared.held.Descriptor.{Descriptor}
use Rattle.table.specs.declared.held.Entry.{Entry}
use Rattle.table.specs.declared.standing.Table.{Table}
use Rattle.table.specs.Message.{entries_in, descriptors_in, all_lawful, narrow}
use Rattle.table.specs.Rows.{entry_row, entry_rows, descriptor_row, descriptor_rows}
use Rattle.table.specs.Sets.{Standing, Merged, Once, Leaves, Done, entries_of, descriptors_of, standing, message, table_checks, set_checks}
use Rattle.table.specs.Shape.{is_named, is_shaped, defined}
use Rattle.table.proofs.Shapes.{merging_all, named_in, shaped_in, order_narrow}

abbrev mk : List (Numbered Capability) → List (Numbered (List (List ℕ))) → Standing
mk es ds = record { entries = es; descriptors = ds }

pub same_standing : (t u : Standing) → t.entries ≡ u.entries → t.descriptors ≡ u.descriptors → t ≡ u
same_standing t u p q =
    let v : Standing = mk u.entries t.descriptors in
    let i : t ≡ v = ap (λ (es : List (Numbered Capability)). mk es t.descriptors) p in
    let j : v ≡ u = ap (mk u.entries) q in
    i ∙ j

pub one_after : (before : Standing) (m : List Rec) (t u : Standing) → Merged before m t → Merged before m u → t ≡ u
one_after before m t u p q = same_standing t u (after_one _ _ _ _ p.entries q.entries) (after_one _ _ _ _ p.descriptors q.descriptors)

-- a list with a view is so long
pub fits : {X : Type 0} {V : Type 0} {N : ℕ} (view : X → Numbered V) (b : Bounded X N) (all : List (Numbered V)) → map view (items b) ≡ all → length all ≤ N
fits view b all e = omega (arith, items_most b, length-map (items b) view, ap length e)

-- a refusal that is handed on
pub handed : {T : Type 0} (P : T → Type 0) (Q : Refusal → Type 0) (r : Result T Refusal) {j k : Refusal} → IsErrAnd r (λ e. e ≡ j) → j ≡ k → Q k → MatchResult r P Q
handed P Q (Ok u) is e q = absurd is
handed P Q (Err i) is e q = subst Q (sym (is ∙ e)) q

-- A message whose first checks are met, its records, and the checks of a table on them.
module _ (lawful : Capability → Bool) (octets : List ℕ) (t : Table) (records : Cursor) (read : Passed (message_checks Set octets) × (rows records ≡ rows_of octets)) where
  abbrev rs : List Rec
  rs = says records

  abbrev checks : List Rec → List Check
  checks m = table_checks lawful m (standing t)

  said : rs ≡ message octets
  said = ap says_of read.1

  refused : (k : Refusal) → First (checks rs) k → First (set_checks lawful octets (standing t)) k
  refused k f = first_later (checks (message octets)) (message_checks Set octets) k read.0 (subst (λ (m : List Rec). First (checks m) k) said f)

  -- what comes has its shape
  sounds : list_all sound rs ≡ true
  sounds = all_sound (rows records) (ap all_in_range read.1 ∙ read.0.1.1.0)

  pub narrows : narrow rs ≡ true
  narrows = order_narrow rs (ap set_order (tags_said (rows records) ∙ ap tags read.1) ∙ set_from _ read.0.1.0)

  module _ (lawfully : true ≡ all_lawful lawful (entries_in rs)) (once_es : repeats (mentioned (entries_in rs)) ≡ false) (once_ds : repeats (mentioned (descriptors_in rs)) ≡ false) where
    once : Once rs
    once = record { entries = once_es; descriptors = once_ds }

    abbrev after : Standing
    after = mk (merging (entries_in rs) (entries_of t)) (merging (descriptors_in rs) (descriptors_of t))

    merged : Merged (standing t) rs after
    merged = record { entries = merging_after _ _ once_es t.ordered; descriptors = merging_after _ _ once_ds t.arranged }

    -- what holds of it holds of the table after the message
    leaves : (P : Standing → Type 0) → P after → Leaves (standing t) rs P
    leaves P p u q = subst P (one_after (standing t) rs after u merged q) p

    pub many_entries : 64 < length after.entries → First (set_checks lawful octets (standing t)) Entries
    many_entries h = refused Entries (inr (sym lawfully, inr (once, inl (refl, λ f. let l = f after merged in omega arith))))

    module _ (es : Bounded Entry 64) (of_es : entry_rows (items es) ≡ after.entries) where
      few : Leaves (standing t) rs (λ u. length u.entries ≤ 64)
      few = leaves (λ u. length u.entries ≤ 64) (fits entry_row es _ of_es)

      pub many_descriptors : 16 < length after.descriptors → First (set_checks lawful octets (standing t)) Descriptors
      many_descriptors h = refused Descriptors (inr (sym lawfully, inr (once, inr (few, inl (refl, λ f. let l = f after merged in omega arith)))))

      module _ (ds : Bounded Descriptor 16) (of_ds : descriptor_rows (items ds) ≡ after.descriptors) where
        slim : Leaves (standing t) rs (λ u. length u.descriptors ≤ 16)
        slim = leaves (λ u. length u.descriptors ≤ 16) (fits descriptor_row ds _ of_ds)

        abbrev made : Standing
        made = mk (entry_rows (items es)) (descriptor_rows (items ds))

        same : after ≡ made
        same = same_standing after made (sym of_es) (sym of_ds)

        pub entries_rise : rising 0 (numbers (entry_rows (items es))) ≡ true
        entries_rise = rw of_es merged.entries.order

        pub descriptors_rise : rising 0 (numbers (descriptor_rows (items ds))) ≡ true
        descriptors_rise = rw of_ds merged.descriptors.order

        pub entries_named : list_all is_named (entry_rows (items es)) ≡ true
        entries_named = rw of_es (merging_all is_named (entries_in rs) (entries_of t) (named_in rs sounds) t.named)

        pub descriptors_shaped : list_all is_shaped (descriptor_rows (items ds)) ≡ true
        descriptors_shaped = rw of_ds (merging_all is_shaped (descriptors_in rs) (descriptors_of t) (shaped_in rs narrows sounds) t.shaped)

        -- the test of the lists is of the table after the message
        of_after : (b : Bool) → defined (entry_rows (items es)) (descriptor_rows (items ds)) ≡ b → defined after.entries after.descriptors ≡ b
        of_after b e = rw (← of_es, ← of_ds) e

        pub undefined_members : defined (entry_rows (items es)) (descriptor_rows (items ds)) ≡ false → First (set_checks lawful octets (standing t)) Undefined
        undefined_members e = refused Undefined (inr (sym lawfully, inr (once, inr (few, inr (slim, inl (refl, λ f. both_ways _ (of_after false e) (f after merged)))))))

        pub taken : defined (entry_rows (items es)) (descriptor_rows (items ds)) ≡ true → Done lawful octets (standing t) made
        taken whole = record {
          passed = passed_both (checks (message octets)) (message_checks Set octets) read.0
              (subst (λ (m : List Rec). Passed (checks m)) said (sym lawfully, (once, (few, (slim, (leaves (λ u. defined u.entries u.descriptors ≡ true) (of_after true whole), tt))))));
          merged = subst (λ (m : List Rec). Merged (standing t) m made) said (subst (Merged (standing t) rs) same merged);
        }
