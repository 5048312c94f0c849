-- Of more rows than any descriptor has sets, the first show that none carries them.
use Rattle.std.proofs.Common.{◌≡◌, ℕ, zero, suc, ◌<◌, ◌≤◌, min, Bool, true, cond, List, [], ◌∷◌, length, take, sym, refl, ap, subst, inl, inr, arith}
use Rattle.std.proofs.lemmas.List.{length-map, length-take-le, take_all}
use Rattle.std.proofs.lemmas.Bool.Decides.{nat_tests}
use Rattle.std.proofs.lemmas.Bool.{cases_lt}
use Rattle.bounded.specs.Bit.{bit}
use Rattle.bounded.specs.Items.{items}
use Rattle.bounded.proofs.Most.{items_most}
use Rattle.judges.specs.declared.words.Capability.{Capability}
use Rattle.judges.specs.declared.words.Proposal.{Proposal}
use Rattle.matching.specs.Board.{count}
use Rattle.matching.proofs.Count.{count_inj}
use Rattle.table.specs.declared.standing.Table.{Table}
use Rattle.table.specs.Rows.{members_of, descriptor_row}
use Rattle.table.specs.Sets.{Standing, standing}
use Rattle.search.specs.declared.found.Found.{Found}
use Rattle.search.specs.declared.found.Found.TheVariants.{Carried, Blocked}
use Rattle.search.specs.declared.found.NoteRow.{NoteRow}
use Rattle.search.specs.Answers.{Stands, Noted, Outcome}
use Rattle.search.specs.Carrying.{usable, Carries, grouped, used_by}
use Rattle.search.specs.Lists.{In, how_many}
use Rattle.search.proofs.Bridge.{at_some}
use Rattle.search.proofs.Covers.{at_map}

count_all : (n : ℕ) → count (λ _. true) n ≡ n
count_all zero = refl
count_all (suc n) = omega (arith, count_all n)

-- no more rows have sets of their own than there are sets
pub own_few : (f : ℕ → ℕ) (n m : ℕ) → ((r : ℕ) → r < n → f r < m) → ((r q : ℕ) → r < n → q < n → f r ≡ f q → r ≡ q) → n ≤ m
own_few f n m within own =
    let few = count_inj (λ _. true) (λ _. true) f n m (λ r l _. (within r l, refl)) (λ r q lr lq _ _. own r q lr lq) in
    omega (arith, count_all n, count_all m)

-- no more rows are carried than there are sets
pub carries_few : (fit : List ℕ → Proposal → Bool) (sets : List (List ℕ)) (ps : List Proposal) → Carries fit sets ps → length ps ≤ length sets
carries_few fit sets ps c = own_few c.seat (length ps) (length sets) (λ r l. let p = at_some ps r l in (c.fits r p.0 p.1).1.0) c.own

-- a group within the first n
grouped_none : (g : ℕ → Bool) (ps : List Proposal) → ((q : ℕ) → g q ≡ true → ⊥) → grouped g ps ≡ []
grouped_none g [] none = refl
grouped_none g (p ∷ ps) none = grind (arith, nat_tests, none 0, grouped_none (λ k. g (suc k)) ps (λ q. none (suc q)))

grouped_front : (n : ℕ) (g : ℕ → Bool) (ps : List Proposal) → ((q : ℕ) → g q ≡ true → q < n) → grouped g (take n ps) ≡ grouped g ps
grouped_front zero g ps inside = sym (grouped_none g ps (λ q e. omega (arith, inside q e)))
grouped_front (suc n) g [] inside = refl
grouped_front (suc n) g (p ∷ ps) inside =
    ap (λ (u : List Proposal). cond (g 0) (p ∷ u) u) (grouped_front n (λ k. g (suc k)) ps (λ q e. let l = inside (suc q) e in omega arith))

module _ (covers : Capability → Proposal → Bool) (t : Standing) (n : ℕ) (ps : List Proposal) (many : n < length ps) where
  long : length (take n ps) ≡ n
  long = length-take-le n ps (omega arith)

  noted_front : (d : Stands) (w : NoteRow) → Noted covers t (take n ps) d w → Noted covers t ps d w
  noted_front d w b =
      let fit = usable covers t.entries in
      let e = grouped_front n (bit w.group) ps (λ q g. let l = b.blocks.inside q g in omega (arith, long)) in
      record {
        number = b.number;
        blocks = record {
          some = subst (λ (u : List Proposal). 0 < length u) e b.blocks.some;
          inside = λ q g. let l = b.blocks.inside q g in omega (arith, long);
          few = subst (λ (u : List Proposal). how_many (used_by fit u) d.value < length u) e b.blocks.few;
        };
        sets = subst (λ (u : List Proposal). w.sets ≡ how_many (used_by fit u) d.value) e b.sets;
      }

  -- what is found of the first n rows is found of all
  found_front : ((d : Stands) → In d t.descriptors → length d.value < n) → (f : Found) → Outcome covers t (take n ps) f → Outcome covers t ps f
  found_front narrow (Carried m) s =
      absurd (omega (arith, long, narrow s.descriptor s.stands, carries_few (usable covers t.entries) s.descriptor.value (take n ps) s.carries))
  found_front narrow (Blocked note) s = record { long = s.long; each = λ k d w a b. noted_front d w (s.each k d w a b) }

-- no descriptor of a table has more than 16 sets
pub narrow : (t : Table) (d : Stands) → In d (standing t).descriptors → length d.value < 17
narrow t d a =
    let x = at_map descriptor_row (items t.descriptors) a.0 d a.1 in
    subst (λ (e : Stands). length e.value < 17) x.2 (omega (arith, length-map (items x.0.sets) members_of, items_most x.0.sets))

-- what is found of the first 17 rows is found of all
pub found_few : (covers : Capability → Proposal → Bool) (t : Table) (ps : List Proposal) (n : ℕ) (f : Found) → n ≡ min (length ps) 17 → Outcome covers (standing t) (take n ps) f → Outcome covers (standing t) ps f
found_few covers t ps n f e o = elim (cases_lt 17 (length ps)) [
  | inl many ↦
      let all : n ≡ 17 = omega arith in
      found_front covers (standing t) 17 ps many (narrow t) f (subst (λ k. Outcome covers (standing t) (take k ps) f) all o)
  | inr few ↦ subst (λ (qs : List Proposal). Outcome covers (standing t) qs f) (take_all n ps (omega arith)) o
]
