-- The rules of the two judges, as relations.
use Rattle.std.specs.Prelude.{◌≡◌, ℕ, ◌+◌, ◌*◌, ◌/◌, ◌%◌, ◌^◌, ◌≤◌, Bool, true, ◌≢◌}
use Rattle.judges.specs.declared.words.Capability.{Capability}
use Rattle.judges.specs.declared.words.Proposal.{Proposal}

-- a number of frames per packet
pub record Frames (p : ℕ) : Type 0 where
  pub some : 1 ≤ p
  pub most : p ≤ 256

-- p holds the minimum picture intervals of CIF and of QCIF, in units of 1/29.97 s: each is 1 to 4, or 0 where the
-- format is absent, and not both are absent
pub record Pictures (p cif qcif : ℕ) : Type 0 where
  pub held : p ≡ 16 * cif + qcif
  pub cif_most : cif ≤ 4
  pub qcif_most : qcif ≤ 4
  pub present : cif ≡ 0 → qcif ≢ 0

-- the lawful values of each standard kind: q is the silence suppression of G.723.1, and the bit rate of H.261 in units of
-- 100 bit/s; T.120 takes any bit rate p, in the same units; no other kind is lawful
pub data Lawful (kind p q : ℕ) : Type 0 where
  g711_a_law : kind ≡ 1 → Frames p → q ≡ 0 → Lawful kind p q
  g711_mu_law : kind ≡ 2 → Frames p → q ≡ 0 → Lawful kind p q
  g723_1 : kind ≡ 3 → Frames p → q ≤ 1 → Lawful kind p q
  h261 : kind ≡ 4 → (cif qcif : ℕ) → Pictures p cif qcif → 1 ≤ q → q ≤ 19200 → Lawful kind p q
  t120 : kind ≡ 5 → q ≡ 0 → Lawful kind p q

-- a format that is wanted is there, with an interval no larger than the wanted one
pub record Serves (have want : ℕ) : Type 0 where
  pub there : 1 ≤ want → 1 ≤ have
  pub soon : 1 ≤ want → have ≤ want

-- the pictures p serve the wanted pictures, format by format
pub record PicturesServe (p wanted : ℕ) : Type 0 where
  pub cif : ℕ
  pub qcif : ℕ
  pub wanted_cif : ℕ
  pub wanted_qcif : ℕ
  pub had : Pictures p cif qcif
  pub asked : Pictures wanted wanted_cif wanted_qcif
  pub cif_serves : Serves cif wanted_cif
  pub qcif_serves : Serves qcif wanted_qcif

-- a capability covers a proposal of its own kind, both lawful, within the limits of that kind
pub record Covers (c : Capability) (w : Proposal) : Type 0 where
  pub same_kind : c.kind ≡ w.kind
  pub capability_lawful : Lawful c.kind c.p c.q
  pub proposal_lawful : Lawful w.kind w.p w.q
  pub g711_a_law_frames : c.kind ≡ 1 → w.p ≤ c.p
  pub g711_mu_law_frames : c.kind ≡ 2 → w.p ≤ c.p
  pub g723_1_frames : c.kind ≡ 3 → w.p ≤ c.p
  pub g723_1_silence : c.kind ≡ 3 → w.q ≤ c.q
  pub h261_pictures : c.kind ≡ 4 → PicturesServe c.p w.p
  pub h261_rate : c.kind ≡ 4 → w.q ≤ c.q
  pub t120_rate : c.kind ≡ 5 → w.p ≤ c.p

-- bit i of n is set
abbrev pub Bit : ℕ → ℕ → Type 0
Bit n i = n / 2 ^ i % 2 ≡ 1

-- each bit set in w is set in q
abbrev pub BitsWithin : ℕ → ℕ → Type 0
BitsWithin w q = (i : ℕ) → Bit w i → Bit q i

-- what the own-kind judge finds lawful: its own kind up to the ceiling, and of the others what the judge below does
pub data OwnLawful (code ceiling : ℕ) (below : Capability → Bool) (c : Capability) : Type 0 where
  own : c.kind ≡ code → c.p ≤ ceiling → OwnLawful code ceiling below c
  passed : (c.kind ≢ code) → below c ≡ true → OwnLawful code ceiling below c

-- what a capability of the own kind covers
pub record OwnLimits (ceiling : ℕ) (c : Capability) (w : Proposal) : Type 0 where
  pub capability_lawful : c.p ≤ ceiling
  pub proposal_lawful : w.p ≤ ceiling
  pub amount : w.p ≤ c.p
  pub bits : BitsWithin w.q c.q

-- what the own-kind judge finds covered: nothing between its own kind and another
pub data OwnCovers (code ceiling : ℕ) (below : Capability → Proposal → Bool) (c : Capability) (w : Proposal) : Type 0 where
  own : c.kind ≡ code → w.kind ≡ code → OwnLimits ceiling c w → OwnCovers code ceiling below c w
  passed : (c.kind ≢ code) → (w.kind ≢ code) → below c w ≡ true → OwnCovers code ceiling below c w
