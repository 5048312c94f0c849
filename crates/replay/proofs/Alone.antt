-- What is printed of an input is one text alone, for any state and any step that the state's view decides.
use Rattle.std.proofs.Common.{◌≡◌, ℕ, List, [], ◌∷◌, sym, ap, ◌∙◌, subst}
use Rattle.cutting.specs.Cut.{Portion}
use Rattle.cutting.proofs.Unique.{one_cutting}
use Rattle.lines.specs.declared.line.Line.{Line}
use Rattle.replay.specs.Told.{Told, printed, Prints}

-- states that show the same give one line to a piece, and then show the same
abbrev pub Decided : {S V : Type 0} → (S → V) → (S → Portion → Line → S → Type 0) → Type 0
Decided {S} view Step = (p : Portion) (s t : S) (k l : Line) (u v : S) → view s ≡ view t → Step s p k u → Step t p l v → (k ≡ l) × (view u ≡ view v)

module _ {S V : Type 0} (view : S → V) (Step : S → Portion → Line → S → Type 0) (decided : Decided view Step) where
  -- the pieces have one list of lines
  same_told : (s t : S) (ps : List Portion) (ks ls : List Line) → view s ≡ view t → Told Step s ps ks → Told Step t ps ls → ks ≡ ls
  same_told s t [] ks ls e a b = a ∙ sym b
  same_told s t (p ∷ ps) [] ls e a b = absurd a
  same_told s t (p ∷ ps) (k ∷ ks) [] e a b = absurd b
  same_told s t (p ∷ ps) (k ∷ ks) (l ∷ ls) e (u, (a, f)) (v, (b, g)) =
      let d = decided p s t k l u v e a b in
      let r = same_told u v ps ks ls d.1 f g in (λ i. d.0 i ∷ r i)

  -- from states that show the same, one text is printed
  pub alone : (xs : List ℕ) (s t : S) (a b : List ℕ) → view s ≡ view t → Prints Step s xs a → Prints Step t xs b → a ≡ b
  alone xs s t a b e h k =
      let ps = one_cutting xs h.pieces k.pieces h.cut k.cut in
      let told = subst (λ (l : List Portion). Told Step s l h.spoken) ps h.told in
      h.shown ∙ ap printed (same_told s t k.pieces h.spoken k.spoken e told k.told) ∙ sym k.shown
