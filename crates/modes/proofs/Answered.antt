-- A request whose first checks are met: its answer, or its last refusal.
use Rattle.std.proofs.Common.{◌≡◌, ℕ, Bool, List, subst}
use Rattle.judges.specs.declared.words.Capability.{Capability}
use Rattle.judges.specs.declared.words.Proposal.{Proposal}
use Rattle.refusals.specs.declared.refusal.Refusal.{Refusal}
use Rattle.refusals.specs.Checks.{First, Passed}
use Rattle.refusals.proofs.Firsts.{first_later, passed_both}
use Rattle.records.specs.declared.held.Form.TheVariants.{Modes}
use Rattle.records.specs.Layout.{Rec}
use Rattle.records.specs.Messages.{message_checks}
use Rattle.table.specs.Sets.{Standing, message}
use Rattle.modes.specs.declared.available.Available.{Available}
use Rattle.modes.specs.Modes.{modes_in}
use Rattle.modes.specs.Requests.{FirstCarried, carry_checks, checks_in}

module _ (covers : Capability → Proposal → Bool) (t : Standing) (octets : List ℕ) (rs : List Rec) (said : rs ≡ message octets) (sized : Passed (message_checks Modes octets)) where
  pub late : (k : Refusal) → First (carry_checks covers t (modes_in rs)) k → First (checks_in covers t octets) k
  late k f = first_later (carry_checks covers t (modes_in (message octets))) (message_checks Modes octets) k sized (subst (λ (m : List Rec). First (carry_checks covers t (modes_in m)) k) said f)

  pub granted : (a : Available) → FirstCarried covers t (modes_in rs) a → Passed (checks_in covers t octets) × FirstCarried covers t (modes_in (message octets)) a
  granted a f =
      let g = subst (λ (m : List Rec). FirstCarried covers t (modes_in m) a) said f in
      (passed_both (carry_checks covers t (modes_in (message octets))) (message_checks Modes octets) sized ((a.place, a.descriptor, g.mode, g.stands, g.carried), tt), g)
