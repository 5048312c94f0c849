-- The shape of what stands in a table.
use Rattle.std.specs.Prelude.{ℕ, Bool, ◌&&◌, List, length, is_some, nat_le}
use Rattle.std.specs.List.{list_all}
use Rattle.judges.specs.declared.words.Capability.{Capability}
use Rattle.keyed.specs.Keyed.{Numbered, at}

-- from 1 to a number
abbrev pub up_to : ℕ → ℕ → Bool
up_to most n = nat_le 1 n && nat_le n most

-- an entry has a number from 1 on
abbrev pub is_named : Numbered Capability → Bool
is_named e = nat_le 1 e.number

-- a descriptor has 1 to 16 alternative sets of 1 to 15 members each
abbrev pub shapes : List (List ℕ) → Bool
shapes ss = up_to 16 (length ss) && list_all (λ s. up_to 15 (length s)) ss

abbrev pub is_shaped : Numbered (List (List ℕ)) → Bool
is_shaped d = shapes d.value

-- each member names what stands; each of each set; each of each set of each descriptor
abbrev pub all_defined : List (Numbered Capability) → List ℕ → Bool
all_defined es ms = list_all (λ m. is_some (at es m)) ms

abbrev pub sets_defined : List (Numbered Capability) → List (List ℕ) → Bool
sets_defined es ss = list_all (all_defined es) ss

abbrev pub defined : List (Numbered Capability) → List (Numbered (List (List ℕ))) → Bool
defined es ds = list_all (λ d. sets_defined es d.value) ds
