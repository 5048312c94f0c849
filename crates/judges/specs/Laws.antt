-- The judges' tests mean the rules.
use Rattle.std.specs.Prelude.{◌≡◌, ℕ, Bool, true, ◌↔◌, bit_and}
use Rattle.judges.specs.Rules.{Lawful, Covers, BitsWithin, OwnLawful, OwnCovers}
use Rattle.judges.specs.Tests.{standard_lawful, standard_covers, own_lawful, own_covers}
use Rattle.judges.specs.declared.words.Capability.{Capability}
use Rattle.judges.specs.declared.words.Proposal.{Proposal}

-- the standard judge finds lawful what the table has
abbrev pub StandardLawfulMeans : Type 0
StandardLawfulMeans = (c : Capability) → (standard_lawful c ≡ true) ↔ Lawful c.kind c.p c.q

-- and covered what the table's limits allow
abbrev pub StandardCoversMeans : Type 0
StandardCoversMeans = (c : Capability) (w : Proposal) → (standard_covers c w ≡ true) ↔ Covers c w

-- w masked by q is w where q has each of its bits
abbrev pub MaskMeans : Type 0
MaskMeans = (w q : ℕ) → (bit_and w q ≡ w) ↔ BitsWithin w q

-- the own-kind judge finds lawful, over any judge below, what its rule says
abbrev pub OwnLawfulMeans : Type 0
OwnLawfulMeans = (code ceiling : ℕ) (below : Capability → Bool) (c : Capability) →
    (own_lawful code ceiling below c ≡ true) ↔ OwnLawful code ceiling below c

-- and so it finds covered
abbrev pub OwnCoversMeans : Type 0
OwnCoversMeans = (code ceiling : ℕ) (below : Capability → Proposal → Bool) (c : Capability) (w : Proposal) →
    (own_covers code ceiling below c w ≡ true) ↔ OwnCovers code ceiling below c w
