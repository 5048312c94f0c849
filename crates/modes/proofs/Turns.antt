-- The turns of the loops over a message.
use Rattle.std.proofs.Common.{◌≡◌, ℕ, suc, ◌+◌, ◌<◌, Bool, List, [], ◌∷◌, map, length, get_or, drop, None, sym, refl, ap, ◌∙◌, subst, inl, inr, arith}
use Rattle.std.proofs.lemmas.List.{get_or-drop, drop-drop}
use Rattle.std.proofs.lemmas.Bool.{cases_eq}
use Rattle.judges.specs.declared.words.Capability.{Capability}
use Rattle.judges.specs.declared.words.Proposal.{Proposal}
use Rattle.records.specs.Messages.{Each}
use Rattle.table.specs.Sets.{Standing}
use Rattle.search.specs.Answers.{Smallest, NoneCarries, Answer}
use Rattle.search.specs.Lists.{At}
use Rattle.search.proofs.Covers.{at_one}
use Rattle.modes.specs.declared.element.Element.{Element}
use Rattle.modes.specs.Elements.{rows_from}
use Rattle.modes.specs.Modes.{Fit}
use Rattle.modes.specs.Requests.{FirstCarried}

pub length-rows : (k : ℕ) (ps : List Proposal) → length (rows_from k ps) ≡ length ps
length-rows k [] = refl
length-rows k (p ∷ ps) = ap suc (length-rows (suc k) ps)

pub rows_ask : (k : ℕ) (ps : List Proposal) → map (λ (e : Element). e.proposal) (rows_from k ps) ≡ ps
rows_ask k [] = refl
rows_ask k (p ∷ ps) = ap (λ (u : List Proposal). p ∷ u) (rows_ask (suc k) ps)

module _ (covers : Capability → Proposal → Bool) (t : Standing) (ms : List (List Proposal)) where
  -- the modes before a place are carried by no descriptor, and the rest are still to be seen
  pub record Seen (place : ℕ) (rest : List (List Proposal)) : Type 0 where
    pub left : drop place ms ≡ rest
    pub count : place + length rest ≡ length ms
    pub each : Each Fit rest
    pub before : (k : ℕ) (ps : List Proposal) → k < place → At ps ms k → NoneCarries covers t ps

  module _ (place : ℕ) (ps : List Proposal) (rest : List (List Proposal)) (seen : Seen place (ps ∷ rest)) where
    here : At ps ms place
    here =
        let e : place + 0 ≡ place = omega arith in
        (omega (arith, seen.count), ap (λ (k : ℕ). get_or ms k ps) (sym e) ∙ sym (get_or-drop place ms 0 ps) ∙ ap (λ (u : List (List Proposal)). get_or u 0 ps) seen.left)

    pub seen_first : (n : ℕ) → Smallest covers t ps n → FirstCarried covers t ms (record { place = place; descriptor = n })
    seen_first n s = record { mode = ps; stands = here; carried = s; before = seen.before }

    none : Answer covers t ps None → NoneCarries covers t ps
    none (inl e) = absurd (omega (arith, ap length e.0, seen.each.0.0))
    none (inr e) = e.1

    pub seen_more : Answer covers t ps None → Seen (place + 1) rest
    seen_more o = record {
      left = sym (drop-drop 1 place ms) ∙ ap (drop 1) seen.left;
      count = omega (arith, seen.count);
      each = seen.each.1;
      before = λ k qs h a. elim (cases_eq k place) [
        | inl e ↦ subst (NoneCarries covers t) (at_one ms place ps qs here (subst (At qs ms) e a)) (none o)
        | inr e ↦ seen.before k qs (omega arith) a
      ];
    }
