-- What the search answers of a table.
use Rattle.std.specs.Prelude.{◌≡◌, ℕ, ◌≤◌, Bool, ◌⊎◌, List, [], length, Some, None, Option, ◌≢◌}
use Rattle.bounded.specs.Bit.{bit}
use Rattle.bounded.specs.Items.{items}
use Rattle.judges.specs.declared.words.Capability.{Capability}
use Rattle.judges.specs.declared.words.Proposal.{Proposal}
use Rattle.keyed.specs.Keyed.{Numbered}
use Rattle.table.specs.Sets.{Standing}
use Rattle.search.specs.declared.found.Found.{Found}
use Rattle.search.specs.declared.found.Found.TheVariants.{Carried, Blocked}
use Rattle.search.specs.declared.found.NoteRow.{NoteRow}
use Rattle.search.specs.Carrying.{usable, Carries, grouped, used_by, Blocks}
use Rattle.search.specs.Lists.{At, In, how_many}

-- A descriptor: its number and its alternative sets.
abbrev pub Stands : Type 0
Stands = Numbered (List (List ℕ))

module _ (covers : Capability → Proposal → Bool) (t : Standing) (ps : List Proposal) where
  -- the descriptor carries the proposals
  abbrev pub CarriedBy : Stands → Type 0
  CarriedBy d = Carries (usable covers t.entries) d.value ps

  -- n is the smallest number of a standing descriptor that carries them
  pub record Smallest (n : ℕ) : Type 0 where
    pub descriptor : Stands
    pub stands : In descriptor t.descriptors
    pub carries : CarriedBy descriptor
    pub number : descriptor.number ≡ n
    pub least : (d : Stands) → In d t.descriptors → CarriedBy d → n ≤ d.number

  abbrev pub NoneCarries : Type 0
  NoneCarries = (d : Stands) → In d t.descriptors → CarriedBy d → ⊥

  -- Some: the smallest number. None: there is nothing to carry and nothing stands; or there is, and no standing descriptor carries it.
  abbrev pub Answer : Option ℕ → Type 0
  Answer (Some n) = Smallest n
  Answer None = ((ps ≡ []) × (t.descriptors ≡ [])) ⊎ ((ps ≢ []) × NoneCarries)

  -- A row of a note: the descriptor's number, a group that blocks it, and how many of its sets some of the group can use.
  pub record Noted (d : Stands) (w : NoteRow) : Type 0 where
    pub number : w.descriptor ≡ d.number
    pub blocks : Blocks (usable covers t.entries) d.value ps (bit w.group)
    pub sets : w.sets ≡ how_many (used_by (usable covers t.entries) (grouped (bit w.group) ps)) d.value

  -- a row for each of the descriptors, in their order
  pub record Notes (ds : List Stands) (ws : List NoteRow) : Type 0 where
    pub long : length ws ≡ length ds
    pub each : (k : ℕ) (d : Stands) (w : NoteRow) → At d ds k → At w ws k → Noted d w

  -- What is found: the smallest number, or what shows that no descriptor carries them.
  abbrev pub Outcome : Found → Type 0
  Outcome (Carried n) = Smallest n
  Outcome (Blocked note) = Notes t.descriptors (items note)
