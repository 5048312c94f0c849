-- What stands and what passes at a place, and masks of what passes.
use Rattle.std.proofs.Common.{◌≡◌, ℕ, zero, suc, ◌<◌, ◌≤◌, Bool, true, false, List, [], ◌∷◌, map, length, get_or, sym, refl, ap, ◌∙◌, inl, inr, arith}
use Rattle.std.proofs.lemmas.Bool.{cases_lt, both_ways}
use Rattle.bounded.specs.Bit.{bit}
use Rattle.search.specs.Lists.{At, passes_at}

module _ {X : Type 0} (P : X → Bool) where
  pub pass_past : (xs : List X) (k : ℕ) → length xs ≤ k → passes_at P xs k ≡ false
  pass_past [] k h = refl
  pass_past (x ∷ xs) zero h = absurd (omega arith)
  pass_past (x ∷ xs) (suc k) h = pass_past xs k (omega arith)

  pub pass_at : (xs : List X) (k : ℕ) (x : X) → At x xs k → passes_at P xs k ≡ P x
  pass_at [] k x a = absurd (omega (arith, a.0))
  pass_at (y ∷ xs) zero x a = ap P a.1
  pass_at (y ∷ xs) (suc k) x a = pass_at xs k x (omega (arith, a.0), a.1)

  -- what passes stands there
  pub pass_some : (xs : List X) (k : ℕ) → passes_at P xs k ≡ true → (x : X) × At x xs k × (P x ≡ true)
  pass_some [] k e = absurd (both_ways false refl e)
  pass_some (x ∷ xs) zero e = (x, (omega arith, refl), e)
  pass_some (x ∷ xs) (suc k) e = let h = pass_some xs k e in (h.0, (omega (arith, h.1.0), h.1.1), h.2)

pub pass_map : {X Y : Type 0} (f : X → Y) (P : Y → Bool) (xs : List X) (k : ℕ) → passes_at P (map f xs) k ≡ passes_at (λ x. P (f x)) xs k
pass_map f P [] k = refl
pass_map f P (x ∷ xs) zero = refl
pass_map f P (x ∷ xs) (suc k) = pass_map f P xs k

-- where lists are equally long and pass alike at each place
pub pass_same : {X Y : Type 0} (P : X → Bool) (Q : Y → Bool) (xs : List X) (ys : List Y) (z : X) (s : ℕ) → length xs ≡ length ys → ((y : Y) → At y ys s → P (get_or xs s z) ≡ Q y) → passes_at P xs s ≡ passes_at Q ys s
pass_same P Q [] [] z s e h = refl
pass_same P Q [] (y ∷ ys) z s e h = absurd (omega arith)
pass_same P Q (x ∷ xs) [] z s e h = absurd (omega arith)
pass_same P Q (x ∷ xs) (y ∷ ys) z zero e h = h y (omega arith, refl)
pass_same P Q (x ∷ xs) (y ∷ ys) z (suc s) e h = pass_same P Q xs ys z s (omega arith) (λ u a. h u (omega (arith, a.0), a.1))

-- something stands at each place
pub at_some : {X : Type 0} (xs : List X) (k : ℕ) → k < length xs → (x : X) × At x xs k
at_some [] k l = absurd (omega arith)
at_some (x ∷ xs) zero l = (x, (omega arith, refl))
at_some (x ∷ xs) (suc k) l = let h = at_some xs k (omega arith) in (h.0, (omega (arith, h.1.0), h.1.1))

-- a mask whose bits are what the items pass, and no others
pub mask_passes : {X : Type 0} (P : X → Bool) (xs : List X) (mask : ℕ) → ((k : ℕ) (x : X) → k < length xs → get_or xs k x ≡ x → bit mask k ≡ P x) → ((k : ℕ) → length xs ≤ k → bit mask k ≡ false) → (k : ℕ) → bit mask k ≡ passes_at P xs k
mask_passes P xs mask within beyond k = elim (cases_lt k (length xs)) [
  | inl l ↦ let x = at_some xs k l in within k x.0 l x.1.1 ∙ sym (pass_at P xs k x.0 x.1)
  | inr l ↦ beyond k l ∙ sym (pass_past P xs k l)
]

-- the same of items that a list stands for
pub mask_mapped : {X Y : Type 0} (f : X → Y) (P : Y → Bool) (xs : List X) (ys : List Y) (mask : ℕ) → map f xs ≡ ys → ((k : ℕ) (x : X) → k < length xs → get_or xs k x ≡ x → bit mask k ≡ P (f x)) → ((k : ℕ) → length xs ≤ k → bit mask k ≡ false) → (k : ℕ) → bit mask k ≡ passes_at P ys k
mask_mapped {Y = Y} f P xs ys mask e within beyond k =
    mask_passes (λ x. P (f x)) xs mask within beyond k ∙ sym (pass_map f P xs k) ∙ ap (λ (zs : List Y). passes_at P zs k) e
