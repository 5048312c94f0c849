-- Which proposals the sets of one descriptor carry, and a group of proposals that forbids it.
use Rattle.std.specs.Prelude.{◌≡◌, ℕ, Bool, List, [], ◌∷◌}
use Rattle.bounded.specs.Bit.{bit}
use Rattle.judges.specs.Tests.{standard_covers}
use Rattle.judges.specs.declared.words.Capability.{Capability}
use Rattle.judges.specs.declared.words.Proposal.{Proposal}
use Rattle.search.specs.Carrying.{usable, Carries, grouped, used_by, Blocks}
use Rattle.search.specs.Lists.{how_many}
use Rattle.keyed.specs.Keyed.{Numbered}
use Rattle.worked.specs.Judged.{offered, wanted}

abbrev pub entry : ℕ → Capability → Numbered Capability
entry number capability = record { number = number; value = capability }

-- what stands in the table, at the numbers 1, 2 and 3
abbrev pub entries : List (Numbered Capability)
entries = entry 1 (offered 1 20 0) ∷ (entry 2 (offered 2 20 0) ∷ (entry 3 (offered 3 4 0) ∷ []))

-- the alternative sets of descriptor 0: {1, 2}, {2, 3} and {1}
abbrev pub sets : List (List ℕ)
sets = (1 ∷ (2 ∷ [])) ∷ ((2 ∷ (3 ∷ [])) ∷ ((1 ∷ []) ∷ []))

-- the set can be used for the proposal, as the standard judge finds
abbrev pub can : List ℕ → Proposal → Bool
can = usable standard_covers entries

abbrev pub two : List Proposal
two = wanted 1 20 0 ∷ (wanted 2 20 0 ∷ [])

abbrev pub three : List Proposal
three = wanted 1 20 0 ∷ (wanted 2 20 0 ∷ (wanted 3 4 0 ∷ []))

abbrev pub four : List Proposal
four = wanted 1 20 0 ∷ (wanted 2 20 0 ∷ (wanted 3 4 0 ∷ (wanted 2 20 0 ∷ [])))

-- the group of the places 1, 2 and 3: the bits of the number 14
abbrev pub last_three : ℕ → Bool
last_three = bit 14

pub record SeatingExamples : Type 0 where
  -- two proposals: the first can have the set {1, 2}, and the second {2, 3}
  pub two_carried : Carries can sets two
  -- a third, which can use {2, 3} alone: so the second moves to {1, 2}, and the first to {1}
  pub three_carried : Carries can sets three
  -- a fourth, which asks what the second asks: the sets do not carry all four
  pub four_not_carried : Carries can sets four → ⊥
  -- for the last three of them are a blocking group
  pub last_three_are : grouped last_three four ≡ wanted 2 20 0 ∷ (wanted 3 4 0 ∷ (wanted 2 20 0 ∷ []))
  pub last_three_block : Blocks can sets four last_three
  -- and the sets that some of these three can use are two: {1, 2} and {2, 3}
  pub last_three_use : how_many (used_by can (grouped last_three four)) sets ≡ 2
  -- where nothing is proposed, any sets carry it, whatever they can be used for
  pub nothing_carried : (fit : List ℕ → Proposal → Bool) (any : List (List ℕ)) → Carries fit any []
  -- and so where there is no set
  pub nothing_by_none : Carries can [] []
