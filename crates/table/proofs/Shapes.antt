-- What comes with a message that is in order and in range has the shape that a table keeps.
use Rattle.std.proofs.Common.{◌≡◌, ℕ, ◌-◌, ◌<◌, ◌≤◌, Bool, true, false, cond, ◌&&◌, eqb, ltb, leb, List, [], ◌∷◌, map, length, Some, None, Option, refl, arith, rules}
use Rattle.std.specs.List.{list_all}
use Rattle.std.proofs.lemmas.Bool.{and_parts, and_from, le-leb, ltb-true, both_ways}
use Rattle.std.proofs.lemmas.Bool.Decides.{nat_tests}
use Rattle.records.specs.Layout.{Rec, begin, entry, removed, descriptor, alternatives, end, other}
use Rattle.records.specs.Order.{none, descriptors, entries, set_order}
use Rattle.records.proofs.Known.{tag_of, sound}
use Rattle.keyed.specs.Keyed.{Numbered, Mention, among, mentioned}
use Rattle.keyed.specs.Merge.{number_of, keeping, putting, coming, added, unnamed, merging}
use Rattle.table.specs.Message.{entries_in, descriptors_in, following, sets_or_none, narrow}
use Rattle.table.specs.Shape.{up_to, is_named, is_shaped}

module _ {V : Type 0} (P : Numbered V → Bool) where
  -- where something shall stand, it is so
  abbrev comes : ℕ → Option V → Bool
  comes n None = true
  comes n (Some v) = P (record { number = n; value = v })

  abbrev pub all_coming : List (Mention V) → Bool
  all_coming [] = true
  all_coming (m ∷ ms) = comes m.number m.shall && all_coming ms

  putting_all : (y : Numbered V) (xs : List (Numbered V)) → P y ≡ true → list_all P xs ≡ true → list_all P (putting number_of y xs) ≡ true
  putting_all y [] p e = and_from _ _ p refl
  putting_all y (x ∷ xs) p e = let i = putting_all y xs p in grind rules

  keeping_all : (named : ℕ → Bool) (xs : List (Numbered V)) → list_all P xs ≡ true → list_all P (keeping number_of named xs) ≡ true
  keeping_all named [] e = refl
  keeping_all named (x ∷ xs) e = let i = keeping_all named xs in grind rules

  coming_all : (n : ℕ) (o : Option V) (xs : List (Numbered V)) → comes n o ≡ true → list_all P xs ≡ true → list_all P (coming n o xs) ≡ true
  coming_all n None xs c e = e
  coming_all n (Some v) xs c e = putting_all (record { number = n; value = v }) xs c e

  added_all : (ms : List (Mention V)) (xs : List (Numbered V)) → all_coming ms ≡ true → list_all P xs ≡ true → list_all P (added ms xs) ≡ true
  added_all [] xs c e = e
  added_all (m ∷ ms) xs c e = let i = coming_all m.number m.shall xs in let j = added_all ms (coming m.number m.shall xs) in grind rules

  -- what stood and what comes is so: then all that is merged
  pub merging_all : (ms : List (Mention V)) (xs : List (Numbered V)) → all_coming ms ≡ true → list_all P xs ≡ true → list_all P (merging ms xs) ≡ true
  merging_all ms xs c e = added_all ms (unnamed ms xs) c (keeping_all (λ n. among n (mentioned ms)) xs e)

never : {A : Type 0} → false ≡ true → A
never e = absurd (both_ways false refl e)

either : {A : Type 0} (b x y : Bool) → cond b x y ≡ true → (x ≡ true → A) → (y ≡ true → A) → A
either true x y e f g = f e
either false x y e f g = g e

pub named_in : (rs : List Rec) → list_all sound rs ≡ true → all_coming is_named (entries_in rs) ≡ true
named_in [] e = refl
named_in (entry n c ∷ rs) e = let i = named_in rs in grind rules
named_in (r ∷ rs) e = named_in rs (and_parts (sound r) (list_all sound rs) e).1

-- the sets that follow have members
following_sound : (rs : List Rec) → list_all sound rs ≡ true → list_all (λ s. up_to 15 (length s)) (following rs) ≡ true
following_sound [] e = refl
following_sound (alternatives ms ∷ rs) e = let i = following_sound rs in grind rules
following_sound (r ∷ rs) e = refl

some_shaped : (n : ℕ) (ss : List (List ℕ)) → leb (length ss) 16 ≡ true → list_all (λ s. up_to 15 (length s)) ss ≡ true → comes is_shaped n (sets_or_none ss) ≡ true
some_shaped n [] l e = refl
some_shaped n (s ∷ ss) l e = grind (arith, nat_tests)

pub shaped_in : (rs : List Rec) → narrow rs ≡ true → list_all sound rs ≡ true → all_coming is_shaped (descriptors_in rs) ≡ true
shaped_in [] l e = refl
shaped_in (descriptor d ∷ rs) l e = let f = following_sound rs in let g = some_shaped d (following rs) in let i = shaped_in rs in grind rules
shaped_in (r ∷ rs) l e = shaped_in rs l (and_parts (sound r) (list_all sound rs) e).1

-- in a message in order no descriptor has more than 16 alternative sets
last : (rs : List Rec) → none (map tag_of rs) ≡ true → narrow rs ≡ true
last [] e = refl
last (r ∷ rs) e = never e

few : (n : ℕ) (rs : List Rec) → descriptors n (map tag_of rs) ≡ true → (length (following rs) ≤ n) × (narrow rs ≡ true)
few n [] e = never e
few n (descriptor d ∷ rs) e = let i = few 16 rs e in (omega arith, and_from _ _ (le-leb _ _ i.0) i.1)
few n (alternatives ms ∷ rs) e =
    let a = and_parts (ltb 0 n) (descriptors (n - 1) (map tag_of rs)) e in
    let i = few (n - 1) rs a.1 in
    let h : 0 < n = ltb-true 0 n a.0 in
    (omega (arith, i.0), i.1)
few n (end ∷ rs) e = (omega arith, last rs e)
few n (other t ∷ rs) e = (
  omega arith,
  either (eqb t 4) _ _ e (λ d. (few 16 rs d).1) (λ e. either (eqb t 5) _ _ e (λ d. (few (n - 1) rs (and_parts (ltb 0 n) _ d).1).1) (λ e. either (eqb t 6) _ _ e (last rs) never)),
)
few n (r ∷ rs) e = never e

past : (rs : List Rec) → entries (map tag_of rs) ≡ true → narrow rs ≡ true
past [] e = refl
past (entry n c ∷ rs) e = past rs e
past (removed n ∷ rs) e = past rs e
past (other t ∷ rs) e = either (eqb t 2) _ _ e (past rs) (λ e. either (eqb t 3) _ _ e (past rs) (λ e. (few 0 (other t ∷ rs) e).1))
past (r ∷ rs) e = (few 0 (r ∷ rs) e).1

pub order_narrow : (rs : List Rec) → set_order (map tag_of rs) ≡ true → narrow rs ≡ true
order_narrow [] e = refl
order_narrow (begin s ∷ rs) e = past rs e
order_narrow (other t ∷ rs) e = either (eqb t 1) _ _ e (past rs) never
order_narrow (r ∷ rs) e = never e
