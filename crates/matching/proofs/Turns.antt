-- The turns of the loop over the rows.
use Rattle.std.proofs.Common.{◌≡◌, ℕ, ◌+◌, ◌^◌, ◌<◌, ◌≤◌, ◌&&◌, Bool, true, false, length, ap, ◌∙◌, inl, inr, ⊎_elim, arith}
use lib.Count.{ones}
use Rattle.std.proofs.lemmas.Bool.{cases_Bool, and_parts}
use Rattle.bounded.specs.Bit.{bit}
use Rattle.bounded.proofs.Mask.{bit_zero}
use Rattle.matching.specs.Board.{Blocks, count, reach}
use Rattle.matching.specs.Calls.{tall, at}
use Rattle.matching.specs.Masks.{can}
use Rattle.matching.specs.Seats.{SeatedBelow, Seatable, SameBoard, VisitedHeld, Won, Lost}
use Rattle.matching.specs.Verdicts.{Grouped}
use Rattle.matching.specs.declared.seats.Seats.{Seats}
use Rattle.matching.proofs.Bits.{ones_count, count_beyond}
use Rattle.matching.proofs.Count.{any_some, count_same}
use Rattle.matching.proofs.Steps.{placed_sound, placed_free, placed_more, refused_blocks}

-- as many sets as are set in the mask of those that the group can use
pub sets_of : (seats : Seats) (g sets : ℕ) → sets < 2 ^ 16 → ((s : ℕ) → bit sets s ≡ reach (can seats.board.now) (tall seats.board.now) (bit g) s)
    → ones sets ≡ count (reach (can seats.board.now) (tall seats.board.now) (bit g)) (length seats.holders.now)
sets_of seats g sets l is =
    ones_count 16 sets l ∙ count_same (bit sets) group 16 (λ s _. is s) ∙ count_beyond group (length seats.holders.now) 16 seats.shaped.sets none
  where
    group : ℕ → Bool
    group = reach (can seats.board.now) (tall seats.board.now) (bit g)

    none : (s : ℕ) → length seats.holders.now ≤ s → group s ≡ false
    none s far = elim (cases_Bool (group s)) [
      | inl on ↦
          let q : (r : ℕ) × (r < tall seats.board.now) × ((bit g r && can seats.board.now r s) ≡ true) = any_some _ _ on in
          absurd (omega (arith, seats.shaped.within q.0 s q.1 (and_parts (bit g q.0) (can seats.board.now q.0 s) q.2).1))
      | inr off ↦ off
    ]

module _ (now : Seats) (r : ℕ) (clear : now.visited ≡ 0) (lr : r < tall now.board.now) (p : SeatedBelow now r) where
  none : (s : ℕ) → bit now.visited s ≡ false
  none s = ap (λ (x : ℕ). bit x s) clear ∙ bit_zero s

  pub seatable : Seatable now r
  seatable = record {
    row = lr;
    sound = placed_sound p;
    free = placed_free (bit now.visited) lr p;
  }

  module _ {after : Seats} (same : SameBoard now after) where
    pub further : Won now after r → SeatedBelow after (r + 1)
    further won =
        rw (same.board, same.long)
        (placed_more none lr p won)

    -- row r was refused: a visited set is held by a row
    pub held : Lost now after r → VisitedHeld after
    held lost = rw (same.board, lost.0) (λ s l v. (lost.1.tried.held s l (none s) v).0)

    module _ (lost : Lost now after r) {g : ℕ} (grouped : Grouped after.holders.now after.visited r g (length after.holders.now)) where
      pub inside : (q : ℕ) → bit g q ≡ true → q < tall after.board.now
      inside q b =
          ⊎_elim
          (λ (e : q ≡ r). rw same.board (omega arith))
          (λ (u : (s : ℕ) × (s < length after.holders.now) × (bit after.visited s ≡ true) × (at after.holders.now s ≡ q)). omega (arith, u.3, held lost u.0 u.1 u.2))
          (grouped.back q b)

      pub blocked : Blocks (can after.board.now) (tall after.board.now) (length after.holders.now) (bit g)
      blocked =
          let gr : Grouped now.holders.now after.visited r g (length now.holders.now) = rw lost.0 at grouped in
          rw (same.board, same.long)
          (refused_blocks (bit g) (λ s _. none s) lr
          seatable.sound seatable.free lost.1
          gr.root gr.rows (λ q _ b. gr.back q b))
