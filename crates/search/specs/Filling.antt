-- The cover board: what each row can use, as the board is to say it.
use Rattle.std.specs.Prelude.{◌≡◌, ℕ, Bool, ◌&&◌, List, length, slice_index}
use Rattle.bounded.specs.Bit.{bit}
use Rattle.judges.specs.declared.words.Capability.{Capability}
use Rattle.judges.specs.declared.words.Proposal.{Proposal}
use Rattle.matching.specs.Board.{any}
use Rattle.keyed.specs.Keyed.{Numbered, among}
use Rattle.search.specs.Lists.{At, passes_at}

-- bit k of the mask: the entry at place k covers the proposal
abbrev pub Covering : (Capability → Proposal → Bool) → List (Numbered Capability) → Proposal → ℕ → Type 0
Covering covers es p mask = (k : ℕ) → bit mask k ≡ passes_at (λ e. covers e.value p) es k

-- bit k of the mask: the entry at place k is a member of the set
abbrev pub Placing : List (Numbered Capability) → List ℕ → ℕ → Type 0
Placing es members mask = (k : ℕ) → bit mask k ≡ passes_at (λ e. among e.number members) es k

-- an entry is a member of the set and is marked in the mask
abbrev pub meeting : List (Numbered Capability) → List ℕ → ℕ → Bool
meeting es members mask = any (λ k. passes_at (λ e. among e.number members) es k && bit mask k) (length es)

-- a mask for each proposal
pub record Covered (covers : Capability → Proposal → Bool) (es : List (Numbered Capability)) (ps : List Proposal) (masks : List ℕ) : Type 0 where
  pub long : length masks ≡ length ps
  pub each : (r : ℕ) (p : Proposal) → At p ps r → Covering covers es p (slice_index masks r)

-- the row at place r can use the set at place s
abbrev pub uses : (List ℕ → Proposal → Bool) → List (List ℕ) → List Proposal → ℕ → ℕ → Bool
uses fit sets ps r s = passes_at (λ p. passes_at (λ S. fit S p) sets s) ps r
