-- A set message: the table's own contract is the step. A mode message: that of the mode request, in scratch of 512 octets.
use Rattle.std.proofs.Common.{◌≡◌, ℕ, Result, Ok, Err, MatchResult, get_or, replicate, sym, refl, ap, ◌∙◌, subst, rules, arith}
use Rattle.std.specs.Result.{is_ok, IsErrAnd}
use Rattle.std.proofs.lemmas.Result.{err_from_is_err_and}
use lib.ListN.{length-replicate}
use Rattle.cutting.specs.declared.piece.Piece.{Piece}
use Rattle.cutting.specs.Pieces.{portion}
use Rattle.lines.specs.declared.line.Line.TheVariants.{Set, Mode}
use Rattle.modes.specs.declared.available.Available.{Available}
use Rattle.refusals.specs.declared.refusal.Refusal.{Refusal}
use Rattle.refusals.specs.Number.{number}
use Rattle.replay.specs.Bench.{refusal, line_of_mode, Step}
use Rattle.replay.proofs.step.perform.Goals as goal

-- a refusal is told by its number
told : {T : Type 0} (m : Result T Refusal) (r : Result T ℕ) (G : Refusal → ℕ → Type 0) → ((e : Refusal) (n : ℕ) → G e n → n ≡ number e)
    → MatchResult m (λ x. r ≡ Ok x) (λ e. IsErrAnd r (G e)) → MatchResult m (λ x. r ≡ Ok x) (λ e. r ≡ Err (number e))
told (Ok x) r G is h = h
told (Err e) r G is h = let k = err_from_is_err_and r h in k.1 ∙ ap Err (is e k.0 k.2)

-- what is left of an answer whose value is dropped
dropped : (q : Result ℕ Refusal) (m : Result Unit Refusal) (r : Result Unit ℕ) (P : ℕ → Type 0) → MatchResult q P (λ e. m ≡ Err e) → is_ok m ≡ is_ok q
    → MatchResult m (λ x. r ≡ Ok x) (λ e. r ≡ Err (number e)) → r ≡ refusal q
dropped (Ok n) (Ok u) r P h v t = t
dropped (Ok n) (Err e) r P h v t = cc
dropped (Err k) m r P h v t = subst (λ (o : Result Unit Refusal). MatchResult o (λ x. r ≡ Ok x) (λ e. r ≡ Err (number e))) h t

-- the line of a mode's answer
told_mode : (q : Result Available Refusal) (r : Result Available ℕ) → MatchResult q (λ x. r ≡ Ok x) (λ e. r ≡ Err (number e)) → Mode r ≡ line_of_mode q
told_mode (Ok a) r t = ap Mode t
told_mode (Err k) r t = ap Mode t

pub returns-in-Set : goal.returns-in-Set
returns-in-Set c =
    let answer = dropped c.set.result c.map.result c.map_err.result _ c.map.ensures.cases c.map.ensures.variant (told c.map.result c.map_err.result _ (λ e n h. search rules) c.map_err.ensures.cases) in
    subst (λ (p : Piece). Step c.args.table.now (portion p) (Set (get_or c.in-Set.message.now 1 0) c.map_err.result) c.set.new.self)
    (sym c.in-Set.is)
    (c.set.result, (c.set.ensures, ap (Set (get_or c.in-Set.message.now 1 0)) answer))

pub returns-in-Mode : goal.returns-in-Mode
returns-in-Mode c =
    let line = told_mode c.request_mode-answer.result c.map_err-in-Mode.result (told c.request_mode-answer.result c.map_err-in-Mode.result _ (λ e n h. search rules) c.map_err-in-Mode.ensures.cases) in
    subst (λ (p : Piece). Step c.args.table.now (portion p) (Mode c.map_err-in-Mode.result) c.args.table.now)
    (sym c.in-Mode.is)
    (c.request_mode-answer.result, ((replicate 512 0, (omega (arith, length-replicate {A = ℕ} 512 0), c.request_mode-answer.ensures.answer)), (line, refl)))
