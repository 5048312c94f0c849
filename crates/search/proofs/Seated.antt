-- The seats of rows that hold sets of their own.
use Rattle.std.proofs.Common.{◌≡◌, ℕ, ◌<◌, ◌≤◌, Bool, true, List, map, length, get_or, Some, None, Ok, Err, Result, Bor, sym, refl, ap, ◌∙◌, subst, arith}
use Rattle.std.specs.Result.{result_ok}
use Rattle.std.proofs.lemmas.List.{length-map}
use Rattle.bounded.specs.Items.{items}
use Rattle.bounded.proofs.Most.{items_most}
use Rattle.judges.specs.declared.words.Capability.{Capability}
use Rattle.judges.specs.declared.words.Proposal.{Proposal}
use Rattle.matching.specs.declared.block.Block.{Block}
use Rattle.matching.specs.Steps.{Placed}
use Rattle.matching.proofs.Steps.{placed_carry}
use Rattle.keyed.specs.Keyed.{Numbered, rising, numbers}
use Rattle.table.specs.declared.held.AlternativeSet.{AlternativeSet}
use Rattle.table.specs.declared.held.Descriptor.{Descriptor}
use Rattle.table.specs.Rows.{members_of, sets_of}
use Rattle.table.specs.Sets.{Standing}
use Rattle.search.specs.declared.found.NoteRow.{NoteRow}
use Rattle.search.specs.declared.seat.Seat.{Seat}
use Rattle.search.specs.Answers.{Stands}
use Rattle.search.specs.Carrying.{usable, Carries}
use Rattle.search.specs.Filling.{uses, Covered}
use Rattle.search.specs.Lists.{At}
use Rattle.search.specs.Seats.{Sits, Seats}
use Rattle.search.specs.Settling.{meets_at, BlockedBy, Arranged, Standless}
use Rattle.search.proofs.Bridge.{at_some, uses_at, carries_is}
use Rattle.search.proofs.Covers.{at_mapped, at_read}
use Rattle.search.proofs.Front.{own_few}
use Rattle.search.proofs.Outcomes.{same, noted, refuted}
use Rattle.search.proofs.Pairs.{Paired}

module _ {R : Type 0} (named : R → ℕ) (asks : R → Proposal) (covers : Capability → Proposal → Bool) (es : List (Numbered Capability)) (sets : List (List ℕ)) (holders : ℕ → ℕ) (rows : List R) where
  -- the seat of the row at place k, at the set that it holds
  abbrev pub Held : ℕ → R → Seat → Type 0
  Held k row w = Sits named asks covers es sets row w × (holders w.set ≡ k)

  pub seats_all : (i : ℕ) (ws : List Seat) → length rows ≡ i → Paired Held rows i ws → Seats named asks covers es sets rows ws
  seats_all i ws e s = record {
    long = s.long ∙ sym e;
    each = λ r row w a b. (s.each r row w (omega (arith, a.0)) a b).0;
    own = λ r q v w a b same.
        let x = at_some rows r (omega (arith, s.long, a.0)) in
        let y = at_some rows q (omega (arith, s.long, b.0)) in
        sym (s.each r x.0 v (omega (arith, x.1.0)) x.1 a).1 ∙ ap holders same ∙ (s.each q y.0 w (omega (arith, y.1.0)) y.1 b).1;
  }

  -- where each row is placed, none is without a seat
  pub has_seat : (m : ℕ) → length sets ≡ m → Placed (uses (usable covers es) sets (map asks rows)) (length rows) m holders (length rows)
      → (r : ℕ) (row : R) → At row rows r → Standless covers es sets holders (asks row) r → ⊥
  has_seat m e p r row a without =
      let u = p.upto r a.0 in
      without (u.0, omega (arith, u.1), u.2)
      (λ s S b h.
      let l : holders s < length rows = omega (arith, a.0) in
      sym (uses_at (usable covers es) sets (map asks rows) r s (asks row) S (at_mapped asks rows r row a) b)
      ∙ ap (λ q. uses (usable covers es) sets (map asks rows) q s) (sym h) ∙ p.fit s (omega (arith, b.0)) l)

-- the set that is read at a place of a descriptor
pub set_read : (d : Descriptor) (sets : List AlternativeSet) (s : ℕ) (x : AlternativeSet) → sets ≡ items d.sets → s < length (sets_of d) → x ≡ get_or sets s x → At (members_of x) (sets_of d) s
set_read d sets s x e l is =
    at_read members_of sets (sets_of d) s x (ap (map members_of) e) (omega (arith, length-map (items d.sets) members_of, ap (λ (u : List AlternativeSet). length u) e)) is

-- no more rows are placed than a descriptor has sets
pub placed_few : (can : ℕ → ℕ → Bool) (n : ℕ) (d : Descriptor) (holders : ℕ → ℕ) → Placed can n (length (sets_of d)) holders n → n ≤ 16
placed_few can n d holders p =
    let c = placed_carry can n (length (sets_of d)) holders p in
    omega (arith, own_few c.0 n (length (sets_of d)) (λ r l. (c.1 r l).0) c.2, length-map (items d.sets) members_of, items_most d.sets)

-- the sets of a descriptor, on a board that is filled from masks
module _ (covers : Capability → Proposal → Bool) (t : Standing) (ps : List Proposal) (up : rising 0 (numbers t.entries) ≡ true) (masks : List ℕ) (cov : Covered covers t.entries ps masks) (sets : List (List ℕ)) where
  pub placed_uses : (n : ℕ) (holders : ℕ → ℕ) → length ps ≡ n → Placed (meets_at t.entries sets masks) (length masks) (length sets) holders (length masks) → Placed (uses (usable covers t.entries) sets ps) n (length sets) holders n
  placed_uses n holders e p =
      let q : Placed (meets_at t.entries sets masks) n (length sets) holders n = subst (λ x. Placed (meets_at t.entries sets masks) x (length sets) holders x) (cov.long ∙ e) p in
      record { own = q.own; fit = λ s l h. sym (same covers t ps up masks cov sets (holders s) s (omega arith)) ∙ q.fit s l h; upto = q.upto; below = q.below }

  pub placed_carries : (holders : ℕ → ℕ) → Placed (meets_at t.entries sets masks) (length masks) (length sets) holders (length masks) → Carries (usable covers t.entries) sets ps
  placed_carries holders p =
      carries_is (usable covers t.entries) sets ps (placed_carry (uses (usable covers t.entries) sets ps) (length ps) (length sets) holders (placed_uses (length ps) holders refl p))

  pub blocked_not : (g k : ℕ) → BlockedBy (meets_at t.entries sets masks) (length masks) (length sets) g k → Carries (usable covers t.entries) sets ps → ⊥
  blocked_not g k b c =
      let d : Stands = record { number = 0; value = sets } in
      let w : NoteRow = record { descriptor = 0; group = g; sets = k } in
      refuted covers t ps d w (noted covers t ps up masks cov d w refl b) c

-- what is arranged, taken apart
module _ (can : ℕ → ℕ → Bool) (n m : ℕ) where
  pub arranged_some : (r : Result (Bor (List ℕ)) Block) (h : Bor (List ℕ)) → result_ok r ≡ Some h → Arranged can n m r → Arranged can n m (Ok h)
  arranged_some (Ok x) h e a = let f : x ≡ h = cc in subst (λ (y : Bor (List ℕ)). Arranged can n m (Ok y)) f a
  arranged_some (Err b) h e a = let z : ◌≡◌ {A = ℕ} 0 1 = cc in absurd (omega arith)

  pub arranged_none : (r : Result (Bor (List ℕ)) Block) → result_ok r ≡ None → Arranged can n m r → (b : Block) × BlockedBy can n m b.group b.sets
  arranged_none (Ok x) e a = let z : ◌≡◌ {A = ℕ} 0 1 = cc in absurd (omega arith)
  arranged_none (Err b) e a = (b, a)
