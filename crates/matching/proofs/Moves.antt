-- The turns of `seat`: a set that the row can use is visited and asked for.
use Rattle.std.proofs.Common.{◌≡◌, ℕ, ◌+◌, ◌<◌, ◌≤◌, Bool, true, false, not, List, length, set, sym, ap, ◌∙◌, subst, arith, get_or-set_other, get_or-set_same}
use Rattle.std.proofs.lemmas.Bool.{and_parts, both_ways, not-true}
use Rattle.std.proofs.lemmas.Bool.Decides.{nat_tests}
use Rattle.bounded.specs.Bit.{bit}
use Rattle.matching.specs.Board.{count}
use Rattle.matching.specs.Calls.{tall, at}
use Rattle.matching.specs.Masks.{can}
use Rattle.matching.specs.Seats.{Seatable, Vacatable, SameBoard, Visits, fresh, Lost}
use Rattle.matching.specs.Steps.{Free, Sound, Tried, Seated, Refused}
use Rattle.matching.specs.declared.seats.Seats.{Seats}
use Rattle.matching.proofs.Count.{count_inj, count_less, less}
use Rattle.matching.proofs.Steps.{Within, outside, widen, put, tried_more}

-- how many sets are not visited
abbrev pub unseen : Seats → ℕ
unseen seats = count (λ s. not (bit seats.visited s)) (length seats.holders.now)

-- the turns so far moved nothing, and each set that they visited is held by a row with no set left
pub record Turned (first now : Seats) : Type 0 where
  pub same : SameBoard first now
  pub holders : now.holders.now ≡ first.holders.now
  pub tried : Tried (can first.board.now) (tall first.board.now) (length first.holders.now) (bit first.visited) (bit now.visited) (at first.holders.now)

-- more visited: no more are not
fewer : (m : ℕ) (V W : ℕ → Bool) → Within m V W → count (λ s. not (W s)) m ≤ count (λ s. not (V s)) m
fewer m V W sub = count_inj (λ s. not (W s)) (λ s. not (V s)) (λ s. s) m m (λ s l w. (l, grind (arith, nat_tests, sub s l))) (λ s t ls lt _ _ e. e)

-- one more visited: one less is not
fall : (m : ℕ) (V W X : ℕ → Bool) (i : ℕ) → Within m V W → i < m → W i ≡ false → X i ≡ true → ((t : ℕ) → (t ≡ i → ⊥) → X t ≡ W t)
    → count (λ s. not (X s)) m + 1 ≤ count (λ s. not (V s)) m
fall m V W X i sub li wi xi xo =
    let few : count (λ s. not (X s)) m ≤ count (less (λ s. not (V s)) i) m =
    count_inj (λ s. not (X s)) (less (λ s. not (V s)) i) (λ s. s) m m (λ s l x. (l, grind (arith, nat_tests, sub s l, xo s))) (λ s t ls lt _ _ e. e) in
    omega (arith, count_less (λ s. not (V s)) i m li (grind (arith, nat_tests, sub i li)))

sound_less : {can : ℕ → ℕ → Bool} {n m : ℕ} {V W : ℕ → Bool} {H : ℕ → ℕ} → Within m V W → Sound can n m V H → Sound can n m W H
sound_less {m = m} {V = V} {W = W} sub good =
    record {
      own = λ s t ls lt ws wt. good.own s t ls lt (outside m V W sub s ls ws) (outside m V W sub t lt wt);
      fit = λ s ls ws. good.fit s ls (outside m V W sub s ls ws);
    }

module _ {first now next : Seats} {r s : ℕ} (ready : Seatable first r) (turned : Turned first now)
    (ask : fresh now r s ≡ true) (visits : Visits now next s) where
  both : (can now.board.now r s ≡ true) × (not (bit now.visited s) ≡ true)
  both = and_parts (can now.board.now r s) (not (bit now.visited s)) ask

  fits : can first.board.now r s ≡ true
  fits = rw turned.same.board at both.0

  off : bit now.visited s ≡ false
  off = not-true (bit now.visited s) both.1

  within : s < length first.holders.now
  within = first.shaped.within r s ready.row fits

  board : next.board.now ≡ first.board.now
  board = visits.same.board ∙ turned.same.board

  holders : next.holders.now ≡ first.holders.now
  holders = visits.holders ∙ turned.holders

  grown : Within (length first.holders.now) (bit first.visited) (bit next.visited)
  grown t l v = grind (arith, nat_tests, turned.tried.more t l v, off, visits.other t, visits.here)

  pub fallen : unseen next + 1 ≤ unseen first
  fallen =
      rw holders
      (fall (length first.holders.now) (bit first.visited) (bit now.visited) (bit next.visited) s turned.tried.more within off visits.here visits.other)

  pub vacatable : Vacatable next s
  vacatable =
      record {
        here = rw holders within;
        sound = rw (board, holders) (sound_less grown ready.sound);
        free = rw (board, holders) (λ h t l v q.
            let equal : s ≡ t = ready.sound.own s t within l (outside (length first.holders.now) (bit first.visited) (bit now.visited) turned.tried.more s within off)
            (outside (length first.holders.now) (bit first.visited) (bit next.visited) grown t l v) h (sym q) in
            both_ways (bit next.visited t) v (subst (λ x. bit next.visited x ≡ true) equal visits.here));
      }

  pub seated : (after : List ℕ) → length after ≡ length next.holders.now
      → Seated (can next.board.now) (tall next.board.now) (length next.holders.now) (bit next.visited) (at next.holders.now) (at after) (at next.holders.now s)
      → Seated (can first.board.now) (tall first.board.now) (length first.holders.now) (bit first.visited) (at first.holders.now) (at (set after s r)) r
  seated after len won =
      let st : Seated (can first.board.now) (tall first.board.now) (length first.holders.now) (bit next.visited) (at first.holders.now) (at after) (at first.holders.now s) = rw (board, holders) at won in
      let la : s < length after = subst (λ x. s < x) (sym (len ∙ ap length holders)) within in
      let free-now : Free (length first.holders.now) (bit now.visited) (at first.holders.now) r =
      λ t l v. ready.free t l (outside (length first.holders.now) (bit first.visited) (bit now.visited) turned.tried.more t l v) in
      widen turned.tried.more ready.sound ready.free
      (put r s within ready.row off visits.here visits.other
      (sound_less turned.tried.more ready.sound) free-now fits st
      (get_or-set_same after s r 0 la) (λ t ne. get_or-set_other after s t r 0 ne))

  -- the set could not be freed
  module _ {after : Seats} (same : SameBoard next after) (lost : (at next.holders.now s < tall next.board.now) × Lost next after (at next.holders.now s)) where
    lost' : (at first.holders.now s < tall first.board.now) × ((after.holders.now ≡ first.holders.now) × Refused (can first.board.now) (tall first.board.now) (length first.holders.now) (bit next.visited) (bit after.visited) (at first.holders.now) (at first.holders.now s))
    lost' = rw (board, holders) at lost

    pub again : Turned first after
    again = record {
      same = record { board = same.board ∙ board; places = same.places ∙ visits.same.places ∙ turned.same.places; long = same.long ∙ visits.same.long ∙ turned.same.long };
      holders = lost'.1.0;
      tried = tried_more s within off visits.here visits.other lost'.0 lost'.1.1 turned.tried;
    }

    pub fell : unseen after + 1 ≤ unseen now
    fell =
        rw (lost'.1.0, turned.holders)
        (omega (arith, fewer (length first.holders.now) (bit next.visited) (bit after.visited) lost'.1.1.tried.more, fall (length first.holders.now) (bit now.visited) (bit now.visited) (bit next.visited) s (λ t l v. v) within off visits.here visits.other))
