-- The seats of channels, as the session shows them; and how a mode request ends.
use Rattle.std.proofs.Common.{◌≡◌, ℕ, Bool, List, [], ◌∷◌, length, Some, None, Ok, Err, Option, Result, sym, refl, ap, ◌∙◌, subst, inl, inr, arith, MatchResult}
use Rattle.std.proofs.lemmas.List.{length-map}
use Rattle.bounded.specs.Items.{items}
use Rattle.channels.specs.declared.words.Channel.{Channel}
use Rattle.channels.specs.Holdings.{Holding, channel_row, channel_rows}
use Rattle.judges.specs.declared.words.Capability.{Capability}
use Rattle.judges.specs.declared.words.Proposal.{Proposal}
use Rattle.keyed.specs.Keyed.{Numbered}
use Rattle.modes.specs.declared.available.Available.{Available}
use Rattle.modes.specs.Requests.{Granted, mode_checks}
use Rattle.refusals.specs.declared.refusal.Refusal.{Refusal}
use Rattle.refusals.specs.Checks.{First}
use Rattle.search.specs.declared.seat.Seat.{Seat}
use Rattle.search.specs.declared.seat.Seating.{Seating}
use Rattle.search.specs.Answers.{Smallest, NoneCarries, CarriedBy}
use Rattle.search.specs.Lists.{At}
use Rattle.search.specs.Seats.{Sits, Seats, SeatingOf}
use Rattle.search.proofs.Covers.{at_map}
use Rattle.table.specs.Sets.{Standing, standing}
use Rattle.session.specs.declared.state.Session.{Session}
use Rattle.session.specs.Calls.{request}
use Rattle.session.specs.Rules.{result}
use Rattle.session.specs.Steps.{of_request, Did}
use Rattle.session.proofs.Carries.{same_proposals}
use Rattle.session.proofs.Ending.{never, refuses}

module _ (covers : Capability → Proposal → Bool) (t : Standing) where
  module _ (ps qs : List Proposal) (e : ps ≡ qs) where
    abbrev same_smallest : (d : ℕ) → Smallest covers t ps d → Smallest covers t qs d
    same_smallest d s =
        record {
          descriptor = s.descriptor;
          stands = s.stands;
          carries = subst (λ (u : List Proposal). CarriedBy covers t u s.descriptor) e s.carries;
          number = s.number;
          least = λ f i c. s.least f i (subst (λ (u : List Proposal). CarriedBy covers t u f) (sym e) c);
        }

    same_none : NoneCarries covers t ps → NoneCarries covers t qs
    same_none none f i c = none f i (subst (λ (u : List Proposal). CarriedBy covers t u f) (sym e) c)

  module _ (cs : List Channel) where
    sits : (sets : List (List ℕ)) (c : Channel) (v : Seat) → Sits (λ (c : Channel). c.number) (λ c. c.proposal) covers t.entries sets c v
        → Sits (λ (x : Numbered Holding). x.number) (λ x. x.value.proposal) covers t.entries sets (channel_row c) v
    sits sets c v h = record { number = h.number; members = h.members; stands = h.stands; entry = h.entry }

    each : (sets : List (List ℕ)) (vs : List Seat) → Seats (λ (c : Channel). c.number) (λ c. c.proposal) covers t.entries sets cs vs
        → (r : ℕ) (x : Numbered Holding) (v : Seat) → At x (channel_rows cs) r → At v vs r → Sits (λ (x : Numbered Holding). x.number) (λ x. x.value.proposal) covers t.entries sets x v
    each sets vs h r x v a b =
        let (c, here, is) = at_map channel_row cs r x a in
        subst (λ (y : Numbered Holding). Sits (λ (x : Numbered Holding). x.number) (λ x. x.value.proposal) covers t.entries sets y v) is (sits sets c v (h.each r c v here b))

    none_held : (ds : List Channel) → channel_rows ds ≡ [] → ds ≡ []
    none_held [] e = refl
    none_held (d ∷ ds) e = absurd (omega (arith, ap length e))

    -- the seats of the channels are those of what the session holds
    pub held_seats : (r : Option Seating) → SeatingOf (λ (c : Channel). c.number) (λ c. c.proposal) covers t cs r
        → SeatingOf (λ (x : Numbered Holding). x.number) (λ x. x.value.proposal) covers t (channel_rows cs) r
    held_seats None (inl e) = inl (ap channel_rows e)
    held_seats None (inr none) = inr (same_none _ _ (same_proposals cs) none)
    held_seats (Some q) (some, h) = (
      (λ e. some (none_held cs e)),
      record {
        smallest = same_smallest _ _ (same_proposals cs) q.descriptor h.smallest;
        seats = record {
          long = h.seats.long ∙ sym (length-map cs channel_row);
          each = each h.smallest.descriptor.value (items q.seats) h.seats;
          own = h.seats.own;
        };
      },
    )

module _ {J : Type 0} (lawful : J → Capability → Bool) (covers : J → Capability → Proposal → Bool) where
  pub requested : (s : Session J) (m w : List ℕ) (r : Result Available Refusal) → MatchResult r (Granted (covers s.judge) (standing s.table) m w) (First (mode_checks (covers s.judge) (standing s.table) m w))
      → Did lawful covers s (request m w) (of_request r) [] s
  requested s m w (Ok v) h =
      record {
        ends = result h.passed (v, h.first, refl);
        wrote = refl;
        same = λ e. absurd (never (sym e));
        leaves = λ _. record { channels = refl; table = refl };
        judge = refl;
        number = refl;
      }
  requested s m w (Err k) h = refuses lawful covers s (request m w) k [] h refl
