-- What is read of a message, record by record.
use Rattle.std.specs.Prelude.{◌≡◌, ℕ, ◌<◌, true, false, List, [], ◌∷◌, map, length, Some, None, Option, Ok, Err, Result}
use Rattle.bounded.specs.declared.held.Bounded.{Bounded}
use Rattle.bounded.specs.declared.held.NumberSet.{NumberSet}
use Rattle.bounded.specs.Items.{items}
use Rattle.bounded.specs.Numbers.{holds}
use Rattle.refusals.specs.declared.refusal.Refusal.{Refusal}
use Rattle.refusals.specs.declared.refusal.Refusal.TheVariants.{Twice}
use Rattle.records.specs.declared.held.Cursor.{Cursor}
use Rattle.records.specs.declared.held.Said.{Said}
use Rattle.records.specs.Layout.{Rec}
use Rattle.records.specs.Reads.{rec, says}
use Rattle.keyed.specs.Keyed.{Numbered, Mention, among, repeats}
use Rattle.keyed.specs.Merge.{number_of, putting, added, merging}

-- a record names this number, or none
abbrev pub Names : (List Rec → List ℕ) → Rec → Option ℕ → Type 0
Names numbers r None = (rs : List Rec) → numbers (r ∷ rs) ≡ numbers rs
Names numbers r (Some n) = (rs : List Rec) → numbers (r ∷ rs) ≡ n ∷ numbers rs

-- These are the numbers that are read of records, one after another.
pub record Lists (reads : Said → Option ℕ → Type 0) (numbers : List Rec → List ℕ) : Type 0 where
  pub none : numbers [] ≡ []
  pub each : (s : Said) (o : Option ℕ) → reads s o → Names numbers (rec s) o

-- a set of the numbers, where none stands there twice
abbrev pub Distinct : List ℕ → Result NumberSet Refusal → Type 0
Distinct ns (Ok s) = (repeats ns ≡ false) × ((n : ℕ) → holds s n ≡ among n ns)
Distinct ns (Err k) = (k ≡ Twice) × (repeats ns ≡ true)

-- a record before others brings this row, or none
abbrev pub Brings : {V : Type 0} → (List Rec → List (Mention V)) → Rec → List Rec → Option (Numbered V) → Type 0
Brings {V} said_in r rs None = (xs : List (Numbered V)) → added (said_in (r ∷ rs)) xs ≡ added (said_in rs) xs
Brings {V} said_in r rs (Some y) = (xs : List (Numbered V)) → added (said_in (r ∷ rs)) xs ≡ added (said_in rs) (putting number_of y xs)

-- From some records and a list to the records that are left and their list: each item that is read is put at its place.
pub data Places {X : Type 0} (key : X → ℕ) (reads : Said → Cursor → Option X → Type 0) (all : List Rec) (kept : List X) : List Rec → List X → Type 0 where
  begun : (xs : List X) → xs ≡ kept → Places key reads all kept all xs
  passed : (s : Said) (left : Cursor) (rs : List Rec) (xs : List X) → rs ≡ rec s ∷ says left → reads s left None → Places key reads all kept rs xs → Places key reads all kept (says left) xs
  put : (s : Said) (left : Cursor) (x : X) (rs : List Rec) (xs ys : List X) → rs ≡ rec s ∷ says left → reads s left (Some x) → ys ≡ putting key x xs → Places key reads all kept rs xs → Places key reads all kept (says left) ys

-- the list with what is mentioned merged in, refused for k where it has no room
abbrev pub Merges : {X V : Type 0} {N : ℕ} → (X → Numbered V) → List (Mention V) → Bounded X N → Refusal → Result (Bounded X N) Refusal → Type 0
Merges {N} view ms before k (Ok b) = map view (items b) ≡ merging ms (map view (items before))
Merges {N} view ms before k (Err j) = (j ≡ k) × (N < length (merging ms (map view (items before))))
