-- A number masked by another is itself where the other has each of its bits.
use Rattle.std.proofs.Common.{◌≡◌, ℕ, ap, ⊎_elim, arith}
use Rattle.std.proofs.lemmas.Bool.{cases_eq}
use Rattle.std.proofs.lemmas.Nat.Bits.{bit_at_and, bit_at-lt, same_from_bits}
use Rattle.std.specs.Int.{bit_at}
use Rattle.judges.specs.Laws.{MaskMeans}

pub mask_means : MaskMeans
mask_means w q = (
  λ h i set. let e = ap (λ (x : ℕ). bit_at x i) h in omega (arith, bit_at_and w q i, e, bit_at-lt q i),
  λ h. same_from_bits _ _ (λ i.
      ⊎_elim
      (λ (e : bit_at w i ≡ 1). omega (arith, bit_at_and w q i, h i e))
      (λ (n : bit_at w i ≡ 1 → ⊥). omega (arith, bit_at_and w q i, bit_at-lt w i))
      (cases_eq (bit_at w i) 1)),
)
