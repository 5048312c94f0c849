use Rattle.std.proofs.Common.{◌≡◌, ℕ, ◌+◌, ◌<◌, Bool, true, false, not, cond, ◌&&◌, ◌||◌, eqb, List, [], ◌∷◌, length, get_or, drop, Some, Option, is_some, refl, sym, ap, ◌∙◌, arith, rules}
use Rattle.std.specs.List.{list_all}
use Rattle.std.proofs.lemmas.Bool.Decides.{nat_tests}
use Rattle.std.proofs.lemmas.Iterator.{YieldsList-from_slice}
use Rattle.std.proofs.lemmas.Iterator.Search.{all_from_yields_List}
use Rattle.std.proofs.lemmas.List.{at_drop_more, at_drop_all}
use Rattle.std.proofs.lemmas.List.Folds.{list_all-map}
use Rattle.bounded.specs.Numbers.{holds}
use Rattle.keyed.specs.Keyed.{at}
use Rattle.table.specs.declared.held.Entry.{Entry}
use Rattle.table.specs.Shape.{sets_defined}
use Rattle.table.specs.Rows.{sets_of, entry_rows, descriptor_row}
use Rattle.table.proofs.defined.are_defined.Goals as goal

-- whether an entry stands at the number n
abbrev stands : ℕ → List Entry → Bool
stands n es = is_some (at (entry_rows es) n)

some_or : {V : Type 0} (b : Bool) (v : V) (o : Option V) → is_some (cond b (Some v) o) ≡ (b || is_some o)
some_or true v o = refl
some_or false v o = refl

-- a number is put in, or is in already
put_in : (old new : ℕ → Bool) (k : ℕ) (r : Bool) → r ≡ not (old k) → (r ≡ false → (n : ℕ) → new n ≡ old n) → (r ≡ true → (n : ℕ) → new n ≡ (eqb n k || old n)) → (n : ℕ) → new n ≡ (eqb k n || old n)
put_in old new k true fresh same held n = let p = held refl n in grind (arith, nat_tests)
put_in old new k false fresh same held n = let p = same refl n in grind (arith, nat_tests)

-- the number of the entry at i is put in
entry_put : (es : List Entry) (i : ℕ) (d : Entry) (old new : ℕ → Bool) (r : Bool) → i < length es → r ≡ not (old (get_or es i d).number)
    → (r ≡ false → (n : ℕ) → new n ≡ old n) → (r ≡ true → (n : ℕ) → new n ≡ (eqb n (get_or es i d).number || old n))
    → (n : ℕ) → (new n || stands n (drop (i + 1) es)) ≡ (old n || stands n (drop i es))
entry_put es i d old new r l fresh same held n =
    let put = put_in old new (get_or es i d).number r fresh same held n in
    let more = at_drop_more (stands n) es i d l ∙ some_or (eqb (get_or es i d).number n) _ _ in
    grind rules

-- two tests that answer alike
module _ {X : Type 0} (f g : X → Bool) (alike : (x : X) → f x ≡ g x) where
  all_alike : (xs : List X) → list_all f xs ≡ list_all g xs
  all_alike [] = refl
  all_alike (x ∷ xs) = let a = alike x in let i = all_alike xs in grind rules

pub loop-entry-init : goal.loop-entry-init
loop-entry-init c n = let none = c.new-defined.ensures n in grind rules

pub loop-entry-preserved : goal.loop-entry-preserved
loop-entry-preserved c n =
    entry_put c.args.entries.now c.loop-entry.entry-index _ (holds c.loop-entry.defined) (holds c.insert.new.self) c.insert.result c.loop-entry-test.true c.insert.ensures.fresh
    (λ e k. ap (λ s. holds s k) (c.insert.ensures.same e)) c.insert.ensures.held n
    ∙ c.loop-entry.invariant n

pub returns : goal.returns
returns c =
    let es = entry_rows c.args.entries.now in
    let ds = c.args.descriptors.now in
    let marked = list_all (list_all (holds c.loop-entry.defined)) in
    let named : (n : ℕ) → holds c.loop-entry.defined n ≡ is_some (at es n) = λ n.
    let none = at_drop_all (stands n) c.args.entries.now c.loop-entry.entry-index c.loop-entry-test.false in
    let before = c.loop-entry.invariant n in
    grind rules in
    all_from_yields_List (λ d. marked (sets_of d)) _ _ _ c.all.ensures.ran (YieldsList-from_slice ds cc) (λ x b q k. search rules)
    ∙ all_alike (λ d. marked (sets_of d)) (λ d. sets_defined es (sets_of d)) (λ d. all_alike _ _ (all_alike _ _ named) (sets_of d)) ds
    ∙ sym (list_all-map (λ d. sets_defined es d.value) descriptor_row ds)
