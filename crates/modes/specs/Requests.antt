-- What a mode request is put to, and what it answers.
use Rattle.std.specs.Prelude.{◌≡◌, ℕ, ◌<◌, ◌≤◌, Bool, List, [], ◌∷◌, ◌++◌, length, Result, MatchResult}
use Rattle.judges.specs.declared.words.Capability.{Capability}
use Rattle.judges.specs.declared.words.Proposal.{Proposal}
use Rattle.refusals.specs.declared.refusal.Refusal.{Refusal}
use Rattle.refusals.specs.declared.refusal.Refusal.TheVariants.{ModeUnavailable}
use Rattle.refusals.specs.Checks.{Check, check, First, Passed}
use Rattle.records.specs.declared.held.Form.TheVariants.{Modes}
use Rattle.records.specs.Messages.{message_checks}
use Rattle.table.specs.Sets.{Standing, message}
use Rattle.search.specs.Answers.{Smallest, NoneCarries}
use Rattle.search.specs.Lists.{At}
use Rattle.search.specs.Scratch.{scratch_checks}
use Rattle.modes.specs.declared.available.Available.{Available}
use Rattle.modes.specs.Modes.{modes_in}

module _ (covers : Capability → Proposal → Bool) (t : Standing) where
  -- a mode is carried, and n is the smallest number of a standing descriptor that carries it
  abbrev pub CarriedMode : List Proposal → ℕ → Type 0
  CarriedMode ps n = Smallest covers t ps n

  -- The mode at the place is carried, with the descriptor as its smallest, and no mode before it is carried by any standing descriptor.
  pub record FirstCarried (modes : List (List Proposal)) (a : Available) : Type 0 where
    pub mode : List Proposal
    pub stands : At mode modes a.place
    pub carried : CarriedMode mode a.descriptor
    pub before : (k : ℕ) (ps : List Proposal) → k < a.place → At ps modes k → NoneCarries covers t ps

  -- one of the modes is carried
  abbrev pub carry_checks : List (List Proposal) → List Check
  carry_checks modes = check ModeUnavailable ((k n : ℕ) × (ps : List Proposal) × At ps modes k × CarriedMode ps n) ∷ []

  -- The checks of a mode request once there is memory to work in, in their order: those of any message, and that one of its modes is carried.
  abbrev pub checks_in : List ℕ → List Check
  checks_in octets = message_checks Modes octets ++ carry_checks (modes_in (message octets))

  -- The checks of a mode request, in their order: the scratch, then these.
  abbrev pub mode_checks : List ℕ → List ℕ → List Check
  mode_checks octets scratch = scratch_checks scratch ++ checks_in octets

  -- A request that passes every check, and its answer.
  pub record Granted (octets scratch : List ℕ) (a : Available) : Type 0 where
    pub passed : Passed (mode_checks octets scratch)
    pub first : FirstCarried (modes_in (message octets)) a

-- One judge, what stands, and one message have one answer, in any scratch memory that is long enough or in any that is not.
abbrev pub OneMode : Type 0
OneMode =
    (covers : Capability → Proposal → Bool) (t : Standing) (octets scratch scratch' : List ℕ) (q r : Result Available Refusal)
    → (512 ≤ length scratch → 512 ≤ length scratch') → (512 ≤ length scratch' → 512 ≤ length scratch)
    → MatchResult q (Granted covers t octets scratch) (First (mode_checks covers t octets scratch)) → MatchResult r (Granted covers t octets scratch') (First (mode_checks covers t octets scratch')) → q ≡ r
