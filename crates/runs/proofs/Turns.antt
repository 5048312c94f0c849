-- One call more: what is held and what stands after it.
use Rattle.std.proofs.Common.{◌≡◌, ℕ, true, false, List, ◌∷◌, Some, None, Option, sym, refl, ap, ◌∙◌, subst, inl, inr, arith}
use Rattle.std.proofs.lemmas.Bool.{both_ways, cases_eq}
use Rattle.channels.specs.declared.words.State.TheVariants.{Pending, Established}
use Rattle.channels.specs.Held.{asked, shall, established, holding}
use Rattle.channels.specs.Holdings.{Holding}
use Rattle.judges.specs.declared.words.Proposal.{Proposal}
use Rattle.keyed.specs.Keyed.{Numbered, After, at}
use Rattle.search.specs.declared.found.NoteRow.{NoteRow}
use Rattle.session.specs.Calls.{Call, set, ask, accept, decline, close, request, Answer, went}
use Rattle.runs.specs.History.{Ended, ended, Concerns, asking, accepting, declining, closing, Holds, took, accepted, kept, HeldAfter}
use Rattle.runs.proofs.After.{at_amended, at_others}

pub asks_of : {k n : ℕ} {p : Proposal} {note : List NoteRow} {w : List ℕ} → Concerns (ask k p note w) n → n ≡ k
asks_of asking = refl

pub accepts_of : {i k n : ℕ} → Concerns (accept i k) n → n ≡ k
accepts_of accepting = refl

pub declines_of : {i k n : ℕ} → Concerns (decline i k) n → n ≡ k
declines_of declining = refl

pub closes_of : {k n : ℕ} → Concerns (close k) n → n ≡ k
closes_of closing = refl

pub sets_none : {m w : List ℕ} {n : ℕ} → Concerns (set m w) n → ⊥
sets_none s = elim s [ ]

pub requests_none : {m w : List ℕ} {n : ℕ} → Concerns (request m w) n → ⊥
requests_none s = elim s [ ]

-- two values at one number are one
same_value : (o : Option Holding) (x y : Holding) → o ≡ Some x → o ≡ Some y → x ≡ y
same_value o x y p q = cc

gone : (o : Option Holding) (x : Holding) → o ≡ None → o ≡ Some x → ⊥
gone o x p q = let z : ◌≡◌ {A = ℕ} 0 1 = cc in omega arith

-- a call that was refused leaves what was held
pub held_idle : {h : List Ended} {xs : List (Numbered Holding)} (c : Call) (a : Answer) → went a ≡ false → HeldAfter h xs → HeldAfter (ended c a ∷ h) xs
held_idle {h} {xs} c a idle k = record { rises = k.rises; each = λ n x y. each n x c a idle y; only = λ n x e. kept (k.only n x e) (λ w s. both_ways (went a) idle w) }
  where
    each : (n : ℕ) (x : Holding) (c : Call) (a : Answer) → went a ≡ false → Holds (ended c a ∷ h) n x → at xs n ≡ Some x
    each n x c a d (took w) = absurd (both_ways (went a) d w)
    each n x c a d (accepted w y) = absurd (both_ways (went a) d w)
    each n x c a d (kept y e) = k.each n x y

module _ {h : List Ended} {xs : List (Numbered Holding)} (k : HeldAfter h xs) (a : Answer) (done : went a ≡ true) where
  pub held_set : (m w : List ℕ) → HeldAfter (ended (set m w) a ∷ h) xs
  held_set m w = record { rises = k.rises; each = each; only = λ n x e. kept (k.only n x e) (λ v s. sets_none s) }
    where
      each : (n : ℕ) (x : Holding) → Holds (ended (set m w) a ∷ h) n x → at xs n ≡ Some x
      each n x (kept y e) = k.each n x y

  pub held_request : (m w : List ℕ) → HeldAfter (ended (request m w) a ∷ h) xs
  held_request m w = record { rises = k.rises; each = each; only = λ n x e. kept (k.only n x e) (λ v s. requests_none s) }
    where
      each : (n : ℕ) (x : Holding) → Holds (ended (request m w) a ∷ h) n x → at xs n ≡ Some x
      each n x (kept y e) = k.each n x y

  module _ (ys : List (Numbered Holding)) (n : ℕ) where
    pub held_ask : (p : Proposal) (note : List NoteRow) (w : List ℕ) → After xs (asked n p) ys → HeldAfter (ended (ask n p note w) a ∷ h) ys
    held_ask p note w after = record { rises = after.order; each = each; only = only }
      where
        here : at ys n ≡ Some (holding p Pending)
        here = at_amended xs ys n (Some (holding p Pending)) after

        each : (m : ℕ) (x : Holding) → Holds (ended (ask n p note w) a ∷ h) m x → at ys m ≡ Some x
        each m x (took v) = here
        each m x (kept y e) = at_others xs ys n (Some (holding p Pending)) after m (λ q. e done (subst (Concerns (ask n p note w)) (sym q) asking)) ∙ k.each m x y

        only : (m : ℕ) (x : Holding) → at ys m ≡ Some x → Holds (ended (ask n p note w) a ∷ h) m x
        only m x e = elim (cases_eq m n) [
          | inl q ↦
              let is : holding p Pending ≡ x = same_value (at ys m) (holding p Pending) x (ap (at ys) q ∙ here) e in
              subst (λ (i : ℕ). Holds (ended (ask n p note w) a ∷ h) i x) (sym q) (subst (Holds (ended (ask n p note w) a ∷ h) n) is (took done))
          | inr ne ↦ kept (k.only m x (sym (at_others xs ys n (Some (holding p Pending)) after m ne) ∙ e)) (λ v s. ne (asks_of s))
        ]

    pub held_accept : (i : ℕ) (p : Proposal) → at xs n ≡ Some (holding p Pending) → After xs (shall n (established (at xs n))) ys → HeldAfter (ended (accept i n) a ∷ h) ys
    held_accept i p was after = record { rises = after.order; each = each; only = only }
      where
        here : at ys n ≡ established (at xs n)
        here = at_amended xs ys n (established (at xs n)) after

        each : (m : ℕ) (x : Holding) → Holds (ended (accept i n) a ∷ h) m x → at ys m ≡ Some x
        each m x (accepted {p = q} v y) = here ∙ ap established (k.each n (holding q Pending) y)
        each m x (kept y e) = at_others xs ys n (established (at xs n)) after m (λ q. e done (subst (Concerns (accept i n)) (sym q) accepting)) ∙ k.each m x y

        only : (m : ℕ) (x : Holding) → at ys m ≡ Some x → Holds (ended (accept i n) a ∷ h) m x
        only m x e = elim (cases_eq m n) [
          | inl q ↦
              let is : holding p Established ≡ x = same_value (at ys m) (holding p Established) x (ap (at ys) q ∙ here ∙ ap established was) e in
              subst (λ (j : ℕ). Holds (ended (accept i n) a ∷ h) j x) (sym q) (subst (Holds (ended (accept i n) a ∷ h) n) is (accepted done (k.only n (holding p Pending) was)))
          | inr ne ↦ kept (k.only m x (sym (at_others xs ys n (established (at xs n)) after m ne) ∙ e)) (λ v s. ne (accepts_of s))
        ]

    pub held_decline : (i : ℕ) → After xs (shall n None) ys → HeldAfter (ended (decline i n) a ∷ h) ys
    held_decline i after = record { rises = after.order; each = each; only = only }
      where
        each : (m : ℕ) (x : Holding) → Holds (ended (decline i n) a ∷ h) m x → at ys m ≡ Some x
        each m x (kept y e) = at_others xs ys n None after m (λ q. e done (subst (Concerns (decline i n)) (sym q) declining)) ∙ k.each m x y

        only : (m : ℕ) (x : Holding) → at ys m ≡ Some x → Holds (ended (decline i n) a ∷ h) m x
        only m x e = elim (cases_eq m n) [
          | inl q ↦ absurd (gone (at ys m) x (ap (at ys) q ∙ at_amended xs ys n None after) e)
          | inr ne ↦ kept (k.only m x (sym (at_others xs ys n None after m ne) ∙ e)) (λ v s. ne (declines_of s))
        ]

    pub held_close : After xs (shall n None) ys → HeldAfter (ended (close n) a ∷ h) ys
    held_close after = record { rises = after.order; each = each; only = only }
      where
        each : (m : ℕ) (x : Holding) → Holds (ended (close n) a ∷ h) m x → at ys m ≡ Some x
        each m x (kept y e) = at_others xs ys n None after m (λ q. e done (subst (Concerns (close n)) (sym q) closing)) ∙ k.each m x y

        only : (m : ℕ) (x : Holding) → at ys m ≡ Some x → Holds (ended (close n) a ∷ h) m x
        only m x e = elim (cases_eq m n) [
          | inl q ↦ absurd (gone (at ys m) x (ap (at ys) q ∙ at_amended xs ys n None after) e)
          | inr ne ↦ kept (k.only m x (sym (at_others xs ys n None after m ne) ∙ e)) (λ v s. ne (closes_of s))
        ]

-- the channels held before are those held at the others of this number
pub among_others : (xs ys : List (Numbered Holding)) (n : ℕ) (o : Option Holding) → After xs (shall n o) ys → ((y : Holding) → o ≡ Some y → (x : Holding) × (at xs n ≡ Some x) × (x.proposal ≡ y.proposal))
    → (m : ℕ) (y : Holding) → at ys m ≡ Some y → (x : Holding) × (at xs m ≡ Some x) × (x.proposal ≡ y.proposal)
among_others xs ys n o after here m y e = elim (cases_eq m n) [
  | inl q ↦
      let (x, is, same) = here y (sym (at_amended xs ys n o after) ∙ ap (at ys) (sym q) ∙ e) in
      (x, ap (at xs) q ∙ is, same)
  | inr ne ↦ (y, sym (at_others xs ys n o after m ne) ∙ e, refl)
]
