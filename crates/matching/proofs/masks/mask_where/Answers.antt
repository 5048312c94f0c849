use Rattle.std.proofs.Common.{◌≡◌, ℕ, ◌+◌, ◌^◌, ◌<◌, ◌≢◌, Bool, List, length, slice_index_or, sym, refl, ap, ◌∙◌, subst, inl, inr, arith}
use Rattle.std.specs.Fn.{FnReturnsAt}
use Rattle.std.proofs.lemmas.Bool.{cases_eq}
use Rattle.std.proofs.lemmas.Fn.{says_at}
use Rattle.std.proofs.lemmas.List.{get_or_default}
use Rattle.std.proofs.lemmas.Nat.{pow_pos}
use Rattle.bounded.specs.Bit.{bit}
use Rattle.bounded.proofs.Mask.{bit_zero}
use Rattle.matching.proofs.masks.mask_where.Goals as goal

-- one more item is answered for
one_more : {X : Type 0} (says : X → Bool → Type 0) (xs : List X) (n : ℕ) (y : X) (bits more : ℕ → Bool) → n < length xs → y ≡ slice_index_or xs n y
    → ((t : ℕ) → (t ≢ n) → more t ≡ bits t) → says y (more n) → ((k : ℕ) (x : X) → k < n → slice_index_or xs k x ≡ x → says x (bits k))
    → (k : ℕ) (x : X) → k < n + 1 → slice_index_or xs k x ≡ x → says x (more k)
one_more says xs n y bits more l here other new old k x below e = elim (cases_eq k n) [
  | inl q ↦
      let same : y ≡ x = here ∙ get_or_default xs n y x l ∙ ap (λ (i : ℕ). slice_index_or xs i x) (sym q) ∙ e in
      subst (λ z. says z (more k)) same (subst (λ i. says y (more i)) (sym q) new)
  | inr q ↦ subst (λ b. says x b) (sym (other k q)) (old k x (omega arith) e)
]

pub loop-k-init : goal.loop-k-init
loop-k-init g c = record { items = λ k x l. absurd (omega arith); beyond = λ k l. bit_zero k; fits = λ k l. pow_pos k }

pub loop-k-preserved : goal.loop-k-preserved
loop-k-preserved g c =
    let k = c.loop-k.k in
    let next = c.if-passes.mask in
    let before = c.loop-k.invariant in
    let turn : ((t : ℕ) → (t ≢ k) → bit next t ≡ bit c.loop-k.mask t) × (c.passes.result ≡ bit next k) × ((j : ℕ) → k < j → next < 2 ^ j) =
    elim c.if-passes.branch [
      | goal.then-passes w ↦
          rw w.mask-is (w.with-mask.ensures.other, w.if-passes.true ∙ sym w.with-mask.ensures.here, λ j l. w.with-mask.ensures.fits j l (before.fits j (omega arith)))
      | goal.else-passes w ↦ rw w.mask-is ((λ t ne. refl), w.if-passes.false ∙ sym (before.beyond k (omega arith)), λ j l. before.fits j (omega arith))
    ] in
    record {
      items = one_more (FnReturnsAt g.F.Fn c.args.passes) c.args.items.now k c.index-items-k.result (bit c.loop-k.mask) (bit next) c.loop-k-test.true c.index-items-k.is turn.0 (says_at g.F.Fn c.passes.ensures turn.1) before.items;
      beyond = λ j l. turn.0 j (omega arith) ∙ before.beyond j (omega arith);
      fits = λ j l. turn.2 j (omega arith);
    }

pub returns-clause-items : goal.returns-clause-items
returns-clause-items g c = λ k x l e. c.loop-k.invariant.items k x (omega arith) e
