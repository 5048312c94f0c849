-- What a table shows decides the line of a piece and what the table shows then.
use Rattle.std.proofs.Common.{◌≡◌, ℕ, List, get_or, Result, sym, ap, ◌∙◌, subst, MatchResult}
use Rattle.cutting.specs.Cut.{Kind, set_message, mode_message, bad_record, short_rest}
use Rattle.lines.specs.declared.line.Line.{Line}
use Rattle.lines.specs.declared.line.Line.TheVariants.{Set}
use Rattle.judges.specs.Tests.{standard_lawful, standard_covers}
use Rattle.modes.specs.Requests.{Granted, mode_checks}
use Rattle.modes.proofs.OneMode.{one_mode}
use Rattle.refusals.specs.declared.refusal.Refusal.{Refusal}
use Rattle.refusals.specs.Checks.{First}
use Rattle.table.specs.declared.standing.Table.{Table}
use Rattle.table.specs.Sets.{Standing, standing}
use Rattle.table.proofs.Judged.{same_standing}
use Rattle.table.proofs.OneAnswer.{one_answer}
use Rattle.replay.specs.Bench.{refusal, line_of_mode, Does, New, Step, Printed}
use Rattle.replay.proofs.Alone.{Decided, alone}

-- a piece of a kind has one line, and leaves one table
does_one : (w : Kind) (octets : List ℕ) (s t : Table) (k l : Line) (u v : Table) → standing s ≡ standing t → Does w octets s k u → Does w octets t l v → (k ≡ l) × (standing u ≡ standing v)
does_one set_message octets s t k l u v e (q, (a, f)) (r, (b, g)) =
    let d = one_answer standard_lawful octets s t u v q r e a b in
    (f ∙ ap (λ (x : Result ℕ Refusal). Set (get_or octets 1 0) (refusal x)) d.0 ∙ sym g, d.1)
does_one mode_message octets s t k l u v e (q, ((w, (long, a)), (f, c))) (r, ((x, (wide, b)), (g, d))) =
    let a' : MatchResult q (Granted standard_covers (standing t) octets w) (First (mode_checks standard_covers (standing t) octets w)) =
    subst (λ (y : Standing). MatchResult q (Granted standard_covers y octets w) (First (mode_checks standard_covers y octets w))) e a in
    (f ∙ ap line_of_mode (one_mode standard_covers (standing t) octets w x q r (λ _. wide) (λ _. long) a' b) ∙ sym g, ap standing c ∙ e ∙ sym (ap standing d))
does_one bad_record octets s t k l u v e a b = (a.0 ∙ sym b.0, ap standing a.1 ∙ e ∙ sym (ap standing b.1))
does_one short_rest octets s t k l u v e a b = (a.0 ∙ sym b.0, ap standing a.1 ∙ e ∙ sym (ap standing b.1))

-- the step of the bench is decided by what the table shows
decided : Decided standing Step
decided p = does_one p.kind p.octets

-- new tables show the same
same_new : (s t : Table) → New s → New t → standing s ≡ standing t
same_new s t m n = same_standing (standing s) (standing t) (m.0 ∙ sym n.0) (m.1 ∙ sym n.1)

-- the bench prints one text of an input
pub one_text : (xs a b : List ℕ) → Printed xs a → Printed xs b → a ≡ b
one_text xs a b (s, (m, h)) (t, (n, k)) = alone standing Step decided xs s t a b (same_new s t m n) h k
