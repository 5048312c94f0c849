-- A mode request has one answer.
use Rattle.std.proofs.Common.{◌≡◌, ℕ, ◌≤◌, Bool, List, length, Ok, Err, sym, ap, ◌∙◌, subst, inl, inr, arith}
use Rattle.std.proofs.lemmas.Bool.{cases_lt}
use Rattle.judges.specs.declared.words.Capability.{Capability}
use Rattle.judges.specs.declared.words.Proposal.{Proposal}
use Rattle.refusals.specs.declared.refusal.Refusal.{Refusal}
use Rattle.refusals.specs.Checks.{First}
use Rattle.refusals.proofs.Firsts.{first_one, first_fails}
use Rattle.table.specs.Sets.{Standing}
use Rattle.search.specs.Answers.{Smallest}
use Rattle.search.specs.Lists.{At}
use Rattle.search.proofs.Covers.{at_one}
use Rattle.modes.specs.declared.available.Available.{Available}
use Rattle.modes.specs.Requests.{FirstCarried, mode_checks, OneMode}

module _ (covers : Capability → Proposal → Bool) (t : Standing) where
  pub smallest_one : (ps : List Proposal) (m n : ℕ) → Smallest covers t ps m → Smallest covers t ps n → m ≡ n
  smallest_one ps m n a b =
      let i : m ≤ b.descriptor.number = a.least b.descriptor b.stands b.carries in
      let j : n ≤ a.descriptor.number = b.least a.descriptor a.stands a.carries in
      omega (arith, a.number, b.number)

  module _ (ms : List (List Proposal)) where
    -- a mode before the first that is carried is not carried
    no_earlier : (a b : Available) → FirstCarried covers t ms a → FirstCarried covers t ms b → b.place ≤ a.place
    no_earlier a b f g = elim (cases_lt a.place b.place) [
      | inl h ↦ absurd (g.before a.place f.mode h f.stands f.carried.descriptor f.carried.stands f.carried.carries)
      | inr h ↦ h
    ]

    pub first_one_carried : (a b : Available) → FirstCarried covers t ms a → FirstCarried covers t ms b → a ≡ b
    first_one_carried a b f g =
        let i = no_earlier a b f g in
        let j = no_earlier b a g f in
        let p : a.place ≡ b.place = omega arith in
        let m : g.mode ≡ f.mode = at_one ms a.place g.mode f.mode (subst (At g.mode ms) (sym p) g.stands) f.stands in
        let d : a.descriptor ≡ b.descriptor = smallest_one f.mode a.descriptor b.descriptor f.carried (subst (λ (ps : List Proposal). Smallest covers t ps b.descriptor) m g.carried) in
        let i' : a ≡ record { place = b.place; descriptor = a.descriptor } = ap (λ (k : ℕ). record { place = k; descriptor = a.descriptor }) p in
        i' ∙ ap (λ (k : ℕ). record { place = b.place; descriptor = k }) d

  module _ (octets scratch scratch' : List ℕ) (there : 512 ≤ length scratch → 512 ≤ length scratch') (back : 512 ≤ length scratch' → 512 ≤ length scratch) where
    -- the refusal is the same in other scratch memory
    elsewhere : (k : Refusal) → First (mode_checks covers t octets scratch) k → First (mode_checks covers t octets scratch') k
    elsewhere k (inl f) = inl (f.0, λ h. f.1 (back h))
    elsewhere k (inr f) = inr (there f.0, f.1)

pub one_mode : OneMode
one_mode covers t octets s s' (Ok a) (Ok b) there back f g = ap Ok (first_one_carried covers t _ a b f.first g.first)
one_mode covers t octets s s' (Ok a) (Err k) there back f g = absurd (first_fails (mode_checks covers t octets s) k (elsewhere covers t octets s' s back there k g) f.passed)
one_mode covers t octets s s' (Err k) (Ok b) there back f g = absurd (first_fails (mode_checks covers t octets s') k (elsewhere covers t octets s s' there back k f) g.passed)
one_mode covers t octets s s' (Err j) (Err k) there back f g = ap Err (first_one (mode_checks covers t octets s') j k (elsewhere covers t octets s s' there back j f) g)
