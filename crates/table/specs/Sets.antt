-- What a set message does to a table.
use Rattle.std.specs.Prelude.{◌≡◌, ℕ, ◌≤◌, Bool, true, false, List, [], ◌∷◌, ◌++◌, length, Ok, Err, Result, slice_index}
use Rattle.std.specs.List.{list_all}
use Rattle.bounded.specs.Items.{items}
use Rattle.judges.specs.declared.words.Capability.{Capability}
use Rattle.refusals.specs.declared.refusal.Refusal.{Refusal}
use Rattle.refusals.specs.declared.refusal.Refusal.TheVariants.{Unlawful, Twice, Entries, Descriptors, Undefined}
use Rattle.refusals.specs.Checks.{Check, check, First, Passed}
use Rattle.records.specs.declared.held.Form.TheVariants.{Set}
use Rattle.records.specs.Layout.{Rec}
use Rattle.records.specs.Messages.{message_checks}
use Rattle.records.specs.Reads.{rows_of, says_of}
use Rattle.table.specs.declared.standing.Table.{Table}
use Rattle.keyed.specs.Keyed.{Numbered, After, mentioned, repeats, rising, numbers}
use Rattle.table.specs.Message.{entries_in, descriptors_in, all_lawful}
use Rattle.table.specs.Rows.{entry_rows, descriptor_rows}
use Rattle.table.specs.Shape.{is_named, is_shaped, defined}

-- What stands in a table: all that can be read of it.
pub record Standing : Type 0 where
  pub entries : List (Numbered Capability)
  pub descriptors : List (Numbered (List (List ℕ)))

abbrev pub entries_of : Table → List (Numbered Capability)
entries_of t = entry_rows (items t.entries)

abbrev pub descriptors_of : Table → List (Numbered (List (List ℕ)))
descriptors_of t = descriptor_rows (items t.descriptors)

abbrev pub standing : Table → Standing
standing t = record { entries = entries_of t; descriptors = descriptors_of t }

-- What the records of a message say.
abbrev pub message : List ℕ → List Rec
message octets = says_of (rows_of octets)

-- The table after a set message: what stands at each number is what the message says of it, else what stood there.
pub record Merged (before : Standing) (m : List Rec) (after : Standing) : Type 0 where
  pub entries : After before.entries (entries_in m) after.entries
  pub descriptors : After before.descriptors (descriptors_in m) after.descriptors

-- No entry is named twice, and no descriptor.
pub record Once (m : List Rec) : Type 0 where
  pub entries : repeats (mentioned (entries_in m)) ≡ false
  pub descriptors : repeats (mentioned (descriptors_in m)) ≡ false

-- The table after the message is so.
abbrev pub Leaves : Standing → List Rec → (Standing → Type 0) → Type 0
Leaves before m P = (after : Standing) → Merged before m after → P after

-- The checks of a set message on a table, in their order: those of any message, then its entries, its numbers and the table that it leaves.
abbrev pub table_checks : (Capability → Bool) → List Rec → Standing → List Check
table_checks lawful m before =
    check Unlawful (all_lawful lawful (entries_in m) ≡ true)
    ∷ (check Twice (Once m)
    ∷ (check Entries (Leaves before m (λ t. length t.entries ≤ 64))
    ∷ (check Descriptors (Leaves before m (λ t. length t.descriptors ≤ 16))
    ∷ (check Undefined (Leaves before m (λ t. defined t.entries t.descriptors ≡ true))
    ∷ []))))

abbrev pub set_checks : (Capability → Bool) → List ℕ → Standing → List Check
set_checks lawful octets before = message_checks Set octets ++ table_checks lawful (message octets) before

-- A message that passes every check, and what stands after it.
pub record Done (lawful : Capability → Bool) (octets : List ℕ) (before after : Standing) : Type 0 where
  pub passed : Passed (set_checks lawful octets before)
  pub merged : Merged before (message octets) after

-- A refused message leaves the table as it was; any other leaves what stands after it, and its sequence number is the answer.
abbrev pub Sets : (Capability → Bool) → List ℕ → Table → Result ℕ Refusal → Table → Type 0
Sets lawful octets entry (Ok n) exit = (n ≡ slice_index octets 1) × Done lawful octets (standing entry) (standing exit)
Sets lawful octets entry (Err k) exit = (exit ≡ entry) × First (set_checks lawful octets (standing entry)) k

-- What every table keeps.
pub record Keeps (t : Standing) : Type 0 where
  pub entries_rise : rising 0 (numbers t.entries) ≡ true
  pub entries_few : length t.entries ≤ 64
  pub entries_named : list_all is_named t.entries ≡ true
  pub descriptors_rise : rising 0 (numbers t.descriptors) ≡ true
  pub descriptors_few : length t.descriptors ≤ 16
  pub descriptors_shaped : list_all is_shaped t.descriptors ≡ true
  pub members_defined : defined t.entries t.descriptors ≡ true

abbrev pub EveryTable : Type 0
EveryTable = (t : Table) → Keeps (standing t)

-- A table and a message leave one table: no number, set, member or order of them is free.
abbrev pub OneTable : Type 0
OneTable = (before : Standing) (m : List Rec) (a b : Standing) → Merged before m a → Merged before m b → a ≡ b

-- Where the same stands, the same message has the same answer and leaves the same.
abbrev pub OneAnswer : Type 0
OneAnswer =
    (lawful : Capability → Bool) (octets : List ℕ) (s t u v : Table) (q r : Result ℕ Refusal)
    → standing s ≡ standing t → Sets lawful octets s q u → Sets lawful octets t r v → (q ≡ r) × (standing u ≡ standing v)
