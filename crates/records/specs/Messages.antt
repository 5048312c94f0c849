-- The two messages, and the checks that each is put to.
use Rattle.std.specs.Prelude.{◌≡◌, ℕ, ◌%◌, ◌<◌, ◌≤◌, true, ◌⊎◌, List, [], ◌∷◌, ◌++◌, length, replicate}
use Rattle.std.specs.List.{flat_map}
use Rattle.refusals.specs.declared.refusal.Refusal.TheVariants.{Length, Order, Field}
use Rattle.refusals.specs.Checks.{Check, check}
use Rattle.records.specs.declared.held.Form.{Form}
use Rattle.records.specs.declared.held.Form.TheVariants.{Set, Modes}
use Rattle.records.specs.Layout.{all_in_range}
use Rattle.records.specs.Order.{set_order, mode_order}
use Rattle.records.specs.Reads.{rows_of, tags}

-- Each of them is so.
abbrev pub Each : {X : Type 0} → (X → Type 0) → List X → Type 0
Each P [] = Unit {0}
Each P (x ∷ xs) = P x × Each P xs

-- the tags of a descriptor of k alternative sets, and of a mode of k elements
abbrev pub descriptor_of : ℕ → List ℕ
descriptor_of k = 4 ∷ replicate k 5

abbrev pub mode_of : ℕ → List ℕ
mode_of k = 7 ∷ replicate k 8

-- The tags of a set message: begin, entries and removed entries in any order, descriptors of at most 16 alternative sets each, end.
pub record SetMessage (ts : List ℕ) : Type 0 where
  pub entries : List ℕ
  pub descriptors : List ℕ
  pub named : Each (λ t. (t ≡ 2) ⊎ (t ≡ 3)) entries
  pub narrow : Each (λ k. k ≤ 16) descriptors
  pub whole : ts ≡ 1 ∷ (entries ++ (flat_map descriptor_of descriptors ++ 6 ∷ []))

-- The tags of a mode message: 1 to 16 modes of 1 to 16 elements each.
pub record ModeMessage (ts : List ℕ) : Type 0 where
  pub modes : List ℕ
  pub some : 1 ≤ length modes
  pub few : length modes ≤ 16
  pub narrow : Each (λ k. (1 ≤ k) × (k ≤ 16)) modes
  pub whole : ts ≡ flat_map mode_of modes

-- the most octets of a message: 512 records, and 272
abbrev pub limit : Form → ℕ
limit Set = 16384
limit Modes = 8704

abbrev pub Ordered : Form → List ℕ → Type 0
Ordered Set ts = SetMessage ts
Ordered Modes ts = ModeMessage ts

-- Whole records, at least one, and no more octets than the most.
pub record Sized (most n : ℕ) : Type 0 where
  pub some : 0 < n
  pub whole : n % 32 ≡ 0
  pub few : n ≤ most

-- The checks of a message, each over the whole of it before the next.
abbrev pub message_checks : Form → List ℕ → List Check
message_checks form octets =
    check Length (Sized (limit form) (length octets))
    ∷ (check Order (Ordered form (tags (rows_of octets)))
    ∷ (check Field (all_in_range (rows_of octets) ≡ true)
    ∷ []))

-- The tests that go from tag to tag find just the tags of the messages.
abbrev pub Orders : Type 0
Orders =
    (((ts : List ℕ) → set_order ts ≡ true → SetMessage ts) × ((ts : List ℕ) → SetMessage ts → set_order ts ≡ true))
    × (((ts : List ℕ) → mode_order ts ≡ true → ModeMessage ts) × ((ts : List ℕ) → ModeMessage ts → mode_order ts ≡ true))
