-- What the standard judge finds of given values.
use Rattle.std.specs.Prelude.{◌≡◌, ℕ, true, false}
use Rattle.judges.specs.Tests.{standard_lawful, standard_covers}
use Rattle.judges.specs.declared.words.Capability.{Capability}
use Rattle.judges.specs.declared.words.Proposal.{Proposal}

abbrev pub offered : ℕ → ℕ → ℕ → Capability
offered kind p q = record { kind = kind; p = p; q = q }

abbrev pub wanted : ℕ → ℕ → ℕ → Proposal
wanted kind p q = record { kind = kind; p = p; q = q }

pub record StandardJudgeExamples : Type 0 where
  -- 20 frames of G.711 A-law per packet
  pub frames_as_many : standard_covers (offered 1 20 0) (wanted 1 20 0) ≡ true
  pub frames_one_more : standard_covers (offered 1 20 0) (wanted 1 21 0) ≡ false
  -- silence suppression of G.723.1 may be left unused, and has to be there where it is wanted
  pub silence_unused : standard_covers (offered 3 4 1) (wanted 3 4 0) ≡ true
  pub silence_lacking : standard_covers (offered 3 4 0) (wanted 3 4 1) ≡ false
  -- H.261, QCIF alone at the interval 1 and 384 kbit/s
  pub slower_pictures : standard_covers (offered 4 1 3840) (wanted 4 2 3840) ≡ true
  pub format_lacking : standard_covers (offered 4 1 3840) (wanted 4 16 3840) ≡ false
  pub rate_too_high : standard_covers (offered 4 1 3840) (wanted 4 1 3841) ≡ false
  pub faster_pictures : standard_covers (offered 4 2 100) (wanted 4 1 100) ≡ false
  -- the intervals of H.261: both 4 at most, and not both absent
  pub intervals_largest : standard_lawful (offered 4 68 1) ≡ true
  pub intervals_absent : standard_lawful (offered 4 0 1) ≡ false
  pub qcif_too_large : standard_lawful (offered 4 5 1) ≡ false
  pub cif_too_large : standard_lawful (offered 4 80 1) ≡ false
