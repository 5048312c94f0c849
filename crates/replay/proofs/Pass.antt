-- The begin of a run, one turn of it and its end, for any state and any step.
use Rattle.std.proofs.Common.{◌≡◌, ℕ, List, [], ◌∷◌, ◌++◌, sym, refl, ap, ◌∙◌, subst, append_assoc, append-nil}
use Rattle.cutting.specs.Cut.{Portion, Cut}
use Rattle.lines.specs.declared.line.Line.{Line}
use Rattle.lines.specs.Text.{ended}
use Rattle.replay.specs.Told.{Prints}

-- Goal out: out is what is to be printed of the whole input
module _ {S : Type 0} (Step : S → Portion → Line → S → Type 0) (Goal : List ℕ → Type 0) where
  -- what is printed of the octets left, from the state s on, completes what was printed before
  abbrev pub Ahead : List ℕ → S → List ℕ → Type 0
  Ahead before s left = (tail : List ℕ) → Prints Step s left tail → Goal (before ++ tail)

  -- before the first turn nothing is printed
  pub begin : (before : List ℕ) (s : S) (xs : List ℕ) → before ≡ [] → ((out : List ℕ) → Prints Step s xs out → Goal out) → Ahead before s xs
  begin before s xs e goal tail h = subst Goal (ap (λ (x : List ℕ). x ++ tail) (sym e)) (goal tail h)

  -- where no octet is left, all is printed
  pub all : (before : List ℕ) (s : S) (left : List ℕ) → Ahead before s left → left ≡ [] → Goal before
  all before s left ahead e =
      subst Goal (append-nil before) (ahead [] (record { pieces = []; spoken = []; cut = e; told = refl; shown = refl }))

  -- a turn takes a piece, and adds its line
  pub turn : (before : List ℕ) (s : S) (left : List ℕ) → Ahead before s left → (p : Portion) (rest : List ℕ) → Cut left p rest → (l : Line) (t : S) → Step s p l t → (out : List ℕ) → out ≡ before ++ ended l → Ahead out t rest
  turn before s left ahead p rest c l t step out e tail h =
      subst Goal (sym (append_assoc before (ended l) tail) ∙ ap (λ (x : List ℕ). x ++ tail) (sym e))
      (ahead (ended l ++ tail) (record {
        pieces = p ∷ h.pieces;
        spoken = l ∷ h.spoken;
        cut = (rest, (c, h.cut));
        told = (t, (step, h.told));
        shown = ap (λ (x : List ℕ). ended l ++ x) h.shown;
      }))
