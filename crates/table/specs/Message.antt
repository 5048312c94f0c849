-- What a set message mentions.
use Rattle.std.specs.Prelude.{ℕ, Bool, true, ◌&&◌, List, [], ◌∷◌, length, Some, None, Option, nat_le}
use Rattle.judges.specs.declared.words.Capability.{Capability}
use Rattle.records.specs.Layout.{Rec, begin, entry, removed, descriptor, alternatives, end, mode, element, other}
use Rattle.keyed.specs.Keyed.{Mention}

-- the entries: an entry comes in place of what stands at its number, a removed one goes
abbrev pub entries_in : List Rec → List (Mention Capability)
entries_in [] = []
entries_in (begin s ∷ rs) = entries_in rs
entries_in (entry n c ∷ rs) = record { number = n; shall = Some c } ∷ entries_in rs
entries_in (removed n ∷ rs) = record { number = n; shall = None } ∷ entries_in rs
entries_in (descriptor d ∷ rs) = entries_in rs
entries_in (alternatives ms ∷ rs) = entries_in rs
entries_in (end ∷ rs) = entries_in rs
entries_in (mode ∷ rs) = entries_in rs
entries_in (element p ∷ rs) = entries_in rs
entries_in (other t ∷ rs) = entries_in rs

-- the alternative sets that follow at once
abbrev pub following : List Rec → List (List ℕ)
following [] = []
following (begin s ∷ rs) = []
following (entry n c ∷ rs) = []
following (removed n ∷ rs) = []
following (descriptor d ∷ rs) = []
following (alternatives ms ∷ rs) = ms ∷ following rs
following (end ∷ rs) = []
following (mode ∷ rs) = []
following (element p ∷ rs) = []
following (other t ∷ rs) = []

-- a descriptor without an alternative set goes
abbrev pub sets_or_none : List (List ℕ) → Option (List (List ℕ))
sets_or_none [] = None
sets_or_none (s ∷ ss) = Some (s ∷ ss)

-- the descriptors: one comes in place of what stands at its number, one without an alternative set goes
abbrev pub descriptors_in : List Rec → List (Mention (List (List ℕ)))
descriptors_in [] = []
descriptors_in (begin s ∷ rs) = descriptors_in rs
descriptors_in (entry n c ∷ rs) = descriptors_in rs
descriptors_in (removed n ∷ rs) = descriptors_in rs
descriptors_in (descriptor d ∷ rs) = record { number = d; shall = sets_or_none (following rs) } ∷ descriptors_in rs
descriptors_in (alternatives ms ∷ rs) = descriptors_in rs
descriptors_in (end ∷ rs) = descriptors_in rs
descriptors_in (mode ∷ rs) = descriptors_in rs
descriptors_in (element p ∷ rs) = descriptors_in rs
descriptors_in (other t ∷ rs) = descriptors_in rs

abbrev pub lawful_if : (Capability → Bool) → Option Capability → Bool
lawful_if ok None = true
lawful_if ok (Some c) = ok c

-- each entry that comes is lawful
abbrev pub all_lawful : (Capability → Bool) → List (Mention Capability) → Bool
all_lawful ok [] = true
all_lawful ok (m ∷ ms) = lawful_if ok m.shall && all_lawful ok ms

-- no descriptor has more than 16 alternative sets
abbrev pub narrow : List Rec → Bool
narrow [] = true
narrow (begin s ∷ rs) = narrow rs
narrow (entry n c ∷ rs) = narrow rs
narrow (removed n ∷ rs) = narrow rs
narrow (descriptor d ∷ rs) = nat_le (length (following rs)) 16 && narrow rs
narrow (alternatives ms ∷ rs) = narrow rs
narrow (end ∷ rs) = narrow rs
narrow (mode ∷ rs) = narrow rs
narrow (element p ∷ rs) = narrow rs
narrow (other t ∷ rs) = narrow rs
