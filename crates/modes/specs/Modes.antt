-- The modes of a message.
use Rattle.std.specs.Prelude.{◌≤◌, List, [], ◌∷◌, length}
use Rattle.judges.specs.declared.words.Proposal.{Proposal}
use Rattle.records.specs.Layout.{Rec, begin, entry, removed, descriptor, alternatives, end, mode, element, other}
use Rattle.records.specs.Messages.{Each}

-- the proposals of the elements that follow at once, in their order
abbrev pub elements_in : List Rec → List Proposal
elements_in [] = []
elements_in (begin s ∷ rs) = []
elements_in (entry n c ∷ rs) = []
elements_in (removed n ∷ rs) = []
elements_in (descriptor d ∷ rs) = []
elements_in (alternatives ms ∷ rs) = []
elements_in (end ∷ rs) = []
elements_in (mode ∷ rs) = []
elements_in (element p ∷ rs) = p ∷ elements_in rs
elements_in (other t ∷ rs) = []

-- The modes, in their order: each is the proposals of the elements that follow it at once.
abbrev pub modes_in : List Rec → List (List Proposal)
modes_in [] = []
modes_in (begin s ∷ rs) = modes_in rs
modes_in (entry n c ∷ rs) = modes_in rs
modes_in (removed n ∷ rs) = modes_in rs
modes_in (descriptor d ∷ rs) = modes_in rs
modes_in (alternatives ms ∷ rs) = modes_in rs
modes_in (end ∷ rs) = modes_in rs
modes_in (mode ∷ rs) = elements_in rs ∷ modes_in rs
modes_in (element p ∷ rs) = modes_in rs
modes_in (other t ∷ rs) = modes_in rs

-- a mode of 1 to 16 elements
abbrev pub Fit : List Proposal → Type 0
Fit ps = (1 ≤ length ps) × (length ps ≤ 16)

-- At most 16 modes of 1 to 16 elements each.
pub record Shaped (ms : List (List Proposal)) : Type 0 where
  pub few : length ms ≤ 16
  pub each : Each Fit ms
