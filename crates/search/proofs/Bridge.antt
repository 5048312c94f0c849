-- From the boards of the matching to the sets and proposals of the subject, and back.
use Rattle.std.proofs.Common.{◌≡◌, ℕ, zero, suc, ◌+◌, ◌*◌, ◌<◌, Bool, true, cond, ◌&&◌, ◌||◌, List, [], ◌∷◌, length, sym, refl, ap, ◌∙◌, subst, arith}
use Rattle.std.proofs.lemmas.Bool.Decides.{nat_tests}
use Rattle.bounded.specs.Bit.{bit}
use Rattle.judges.specs.declared.words.Proposal.{Proposal}
use Rattle.matching.specs.Board as board
use Rattle.matching.specs.Board.{count, any, reach}
use Rattle.matching.specs.Calls.{tall}
use Rattle.matching.specs.Masks.{can}
use Rattle.matching.specs.Steps.{Placed}
use Rattle.matching.specs.Verdicts.{Blocked}
use Rattle.matching.specs.declared.block.Block.{Block}
use Rattle.matching.proofs.Count.{count_same}
use Rattle.matching.proofs.Hall.{block_refutes}
use Rattle.search.specs.Carrying.{Carries, grouped, used_by, Blocks, BlockRefutes}
use Rattle.search.specs.Filling.{uses}
use Rattle.search.specs.Settling.{BlockedBy}
use Rattle.search.specs.Lists.{At, some_pass, how_many, passes_at}
pub use Rattle.search.proofs.Places.{at_some}
use Rattle.search.proofs.Places.{pass_at, pass_some}

-- counting from the first place on
count_first : (P : ℕ → Bool) (n : ℕ) → count P (suc n) ≡ cond (P 0) 1 0 + count (λ k. P (suc k)) n
count_first P zero = refl
count_first P (suc n) = let i = count_first P n in omega arith

any_first : (P : ℕ → Bool) (n : ℕ) → any P (suc n) ≡ (P 0 || any (λ k. P (suc k)) n)
any_first P zero = refl
any_first P (suc n) = grind (arith, nat_tests, any_first P n)

any_same : (P Q : ℕ → Bool) (n : ℕ) → ((s : ℕ) → s < n → P s ≡ Q s) → any P n ≡ any Q n
any_same P Q zero h = refl
any_same P Q (suc n) h = grind (arith, nat_tests, h n (omega arith), any_same P Q n (λ s l. h s (omega arith)))

-- the size of a group
grouped_size : (g : ℕ → Bool) (ps : List Proposal) → length (grouped g ps) ≡ count g (length ps)
grouped_size g [] = refl
grouped_size g (p ∷ ps) = grind (arith, nat_tests, grouped_size (λ k. g (suc k)) ps, count_first g (length ps))

-- how many pass, by places
many_count : {X : Type 0} (f : X → Bool) (xs : List X) → how_many f xs ≡ count (passes_at f xs) (length xs)
many_count f [] = refl
many_count f (x ∷ xs) = let i = many_count f xs in let c = count_first (passes_at f (x ∷ xs)) (length xs) in omega arith

-- whether one of a group passes, by places
used_any : (f : Proposal → Bool) (g : ℕ → Bool) (ps : List Proposal) → some_pass f (grouped g ps) ≡ any (λ r. g r && passes_at f ps r) (length ps)
used_any f g [] = refl
used_any f g (p ∷ ps) = grind (arith, nat_tests, used_any f (λ k. g (suc k)) ps, any_first (λ r. g r && passes_at f (p ∷ ps) r) (length ps))

module _ (fit : List ℕ → Proposal → Bool) (sets : List (List ℕ)) (ps : List Proposal) where
  -- the row and the set that stand at the places
  pub uses_at : (r s : ℕ) (p : Proposal) (S : List ℕ) → At p ps r → At S sets s → uses fit sets ps r s ≡ fit S p
  uses_at r s p S a b = pass_at (λ (q : Proposal). passes_at (λ T. fit T q) sets s) ps r p a ∙ pass_at (λ (T : List ℕ). fit T p) sets s S b

  pub carries_is : board.Carries (uses fit sets ps) (length ps) (length sets) → Carries fit sets ps
  carries_is c = record {
    seat = c.0;
    fits = λ r p a. pass_some (λ (T : List ℕ). fit T p) sets (c.0 r) (sym (pass_at (λ (q : Proposal). passes_at (λ T. fit T q) sets (c.0 r)) ps r p a) ∙ (c.1 r a.0).1);
    own = c.2;
  }

  carries_from : Carries fit sets ps → board.Carries (uses fit sets ps) (length ps) (length sets)
  carries_from c = (
    c.seat,
    (λ r l.
        let p = at_some ps r l in
        let f = c.fits r p.0 p.1 in
        (f.1.0, uses_at r (c.seat r) p.0 f.0 p.1 f.1 ∙ f.2)),
    c.own,
  )

  -- how many sets some of a group can use
  pub reach_many : (g : ℕ → Bool) → count (reach (uses fit sets ps) (length ps) g) (length sets) ≡ how_many (used_by fit (grouped g ps)) sets
  reach_many g =
      count_same (reach (uses fit sets ps) (length ps) g) (passes_at (used_by fit (grouped g ps)) sets) (length sets)
      (λ s l.
      let S = at_some sets s l in
      any_same (λ r. g r && uses fit sets ps r s) (λ r. g r && passes_at (fit S.0) ps r) (length ps)
      (λ r k. let p = at_some ps r k in ap (λ (b : Bool). g r && b) (uses_at r s p.0 S.0 p.1 S.1 ∙ sym (pass_at (fit S.0) ps r p.0 p.1)))
      ∙ sym (used_any (fit S.0) g ps) ∙ sym (pass_at (used_by fit (grouped g ps)) sets s S.0 S.1))
      ∙ sym (many_count (used_by fit (grouped g ps)) sets)

  pub blocks_is : (g : ℕ → Bool) → ((q : ℕ) → g q ≡ true → q < length ps) → board.Blocks (uses fit sets ps) (length ps) (length sets) g → Blocks fit sets ps g
  blocks_is g inside b =
      let n = grouped_size g ps in
      let k = reach_many g in
      record { some = omega (arith, b.0); inside = inside; few = omega (arith, b.1) }

  blocks_from : (g : ℕ → Bool) → Blocks fit sets ps g → board.Blocks (uses fit sets ps) (length ps) (length sets) g
  blocks_from g b =
      let n = grouped_size g ps in
      let k = reach_many g in
      (omega (arith, b.some), omega (arith, b.few))

pub blocks_refute : BlockRefutes
blocks_refute fit sets ps g b c = block_refutes (uses fit sets ps) (length ps) (length sets) g (blocks_from fit sets ps g b) (carries_from fit sets ps c)

-- from one board to another that says the same
module _ (one may : ℕ → ℕ → Bool) (n m : ℕ) (same : (r s : ℕ) → r < n → one r s ≡ may r s) where
  pub carries_same : board.Carries one n m → board.Carries may n m
  carries_same c = (c.0, (λ r l. ((c.1 r l).0, sym (same r (c.0 r) l) ∙ (c.1 r l).1)), c.2)

  pub reach_same : (g : ℕ → Bool) → count (reach one n g) m ≡ count (reach may n g) m
  reach_same g = count_same (reach one n g) (reach may n g) m (λ s l. any_same (λ r. g r && one r s) (λ r. g r && may r s) n (λ r k. ap (λ (b : Bool). g r && b) (same r s k)))

  pub blocks_same : (g : ℕ → Bool) → board.Blocks one n m g → board.Blocks may n m g
  blocks_same g b = let k = reach_same g in (b.0, omega (arith, b.1))

-- what the matching answers of a board that says the same
module _ (bs : List ℕ) (may : ℕ → ℕ → Bool) (n m j : ℕ) (rows : length bs ≡ 2 * n) (sets : j ≡ m) (same : (r s : ℕ) → r < n → can bs r s ≡ may r s) where
  high : tall bs ≡ n
  high = omega (arith, rows)

  pub placed_same : (holders : ℕ → ℕ) → Placed (can bs) (tall bs) j holders (tall bs) → Placed may n m holders n
  placed_same holders p =
      let q : Placed (can bs) n m holders n = subst (λ x. Placed (can bs) x m holders x) high (subst (λ x. Placed (can bs) (tall bs) x holders (tall bs)) sets p) in
      record { own = q.own; fit = λ s l h. sym (same (holders s) s h) ∙ q.fit s l h; upto = q.upto; below = q.below }

  pub blocked_same : (b : Block) → Blocked bs j b → BlockedBy may n m b.group b.sets
  blocked_same b p =
      let q : Blocked bs m b = subst (λ x. Blocked bs x b) sets p in
      record {
        blocks = blocks_same (can bs) may n m same (bit b.group) (subst (λ x. board.Blocks (can bs) x m (bit b.group)) high q.0);
        inside = λ r t. subst (λ x. r < x) high (q.1 r t);
        sets = subst (λ x. b.sets ≡ count (reach (can bs) x (bit b.group)) m) high q.2 ∙ reach_same (can bs) may n m same (bit b.group);
      }
