-- The turns of the loop that marks the numbers that are named.
use Rattle.std.proofs.Common.{◌≡◌, ℕ, Bool, true, false, not, ◌||◌, eqb, List, [], ◌∷◌, Some, None, Option, sym, refl, ap, ◌∙◌, subst, arith, rules}
use Rattle.std.specs.List.{list_any}
use Rattle.std.proofs.lemmas.Bool.Decides.{nat_tests}
use Rattle.records.specs.declared.held.Said.{Said}
use Rattle.records.specs.Layout.{Rec, rec_of}
use Rattle.records.specs.Reads.{rec, says_of}
use Rattle.records.proofs.Rows.{says_more}
use Rattle.keyed.specs.Keyed.{among, repeats}
use Rattle.table.specs.Turns.{Lists}

-- Where `left` is left of `all`, those before are marked by h, and no number stands there twice so far.
pub record Marked (h : ℕ → Bool) (left all : List ℕ) : Type 0 where
  pub once : (repeats left || list_any h left) ≡ repeats all
  pub held : (n : ℕ) → (h n || among n left) ≡ among n all

none_any : (h : ℕ → Bool) (ns : List ℕ) → ((n : ℕ) → h n ≡ false) → list_any h ns ≡ false
none_any h [] f = refl
none_any h (n ∷ ns) f = let i = none_any h ns f in let p = f n in grind rules

pub marked_none : (h : ℕ → Bool) (all : List ℕ) → ((n : ℕ) → h n ≡ false) → Marked h all all
marked_none h all f = record { once = let i = none_any h all f in grind rules; held = λ n. let p = f n in grind rules }

-- at the end those that are marked are all of them, none twice
pub marked_all : (h : ℕ → Bool) (left all : List ℕ) → left ≡ [] → Marked h left all → (repeats all ≡ false) × ((n : ℕ) → h n ≡ among n all)
marked_all h left all e m = let m' = subst (λ (ns : List ℕ). Marked h ns all) e m in (sym m'.once, λ n. let o = m'.held n in grind rules)

-- a number that is marked stands there twice
pub marked_twice : (h : ℕ → Bool) (n : ℕ) (left all : List ℕ) → false ≡ not (h n) → Marked h (n ∷ left) all → repeats all ≡ true
marked_twice h n left all t m = let o = m.once in grind rules

module _ (h g : ℕ → Bool) (n : ℕ) (put : (k : ℕ) → g k ≡ (eqb k n || h k)) where
  any_put : (ns : List ℕ) → list_any g ns ≡ (among n ns || list_any h ns)
  any_put [] = refl
  any_put (k ∷ ns) = let i = any_put ns in let p = put k in grind rules

  -- a number that was not marked is marked
  pub marked_more : (left all : List ℕ) → true ≡ not (h n) → Marked h (n ∷ left) all → Marked g left all
  marked_more left all fresh m = record { once = let i = any_put left in let o = m.once in grind rules; held = λ k. let p = put k in let o = m.held k in grind (arith, nat_tests) }

-- One more record is read, and its number with it.
module _ {reads : Said → Option ℕ → Type 0} {numbers : List Rec → List ℕ} (lists : Lists reads numbers) (h : ℕ → Bool) (all : List ℕ) (os : List (List ℕ)) {left : List (List ℕ)} {o : List ℕ} (said : Said) (goes : os ≡ o ∷ left) (says : rec said ≡ rec_of o) where
  pub reads_one : (n : ℕ) → reads said (Some n) → Marked h (numbers (says_of os)) all → Marked h (n ∷ numbers (says_of left)) all
  reads_one n read m = subst (λ (ns : List ℕ). Marked h ns all) (ap numbers (says_more os left o (rec said) goes says) ∙ lists.each said (Some n) read (says_of left)) m

  pub reads_none : reads said None → Marked h (numbers (says_of os)) all → Marked h (numbers (says_of left)) all
  reads_none read m = subst (λ (ns : List ℕ). Marked h ns all) (ap numbers (says_more os left o (rec said) goes says) ∙ lists.each said None read (says_of left)) m
