-- The rows that the merge makes are the rows after what was said, and there is only one such list.
use Rattle.std.proofs.Common.{◌≡◌, ℕ, ◌+◌, Bool, true, false, cond, ◌||◌, eqb, leb, List, [], ◌∷◌, Some, None, Option, sym, refl, ap, ◌∙◌, inl, inr, arith}
use Rattle.std.proofs.lemmas.Bool.{eqb-true, eqb-false, eq-eqb, cond-true, cond-false, cases_Bool, cases_lt, cases_order, or_parts, or_left, or_right, and_parts, both_ways}
use Rattle.keyed.specs.Keyed.{Numbered, Mention, Word, silent, said, rising, numbers, at, said_of, mentioned, among, repeats, afterwards, After}
use Rattle.keyed.specs.Merge.{number_of, putting, coming, added, unnamed, merging}
use Rattle.keyed.proofs.Lookups.{at_here, at_next, at_below, at_put_same, at_put_other, at_keep_named, at_keep_other, rising_keep, rising_put}

module _ {V : Type 0} where
  -- nothing is said of a number that is not mentioned
  silence : (ms : List (Mention V)) (n : ℕ) → among n (mentioned ms) ≡ false → said_of ms n ≡ silent
  silence [] n e = refl
  silence (m ∷ ms) n e =
      let p = or_parts (eqb m.number n) (among n (mentioned ms)) e in
      cond-false (eqb m.number n) (said m.shall) (said_of ms n) p.0 ∙ silence ms n p.1

  -- what is still to be said is said of numbers at which nothing stands
  abbrev Free : List (Mention V) → List (Numbered V) → Type 0
  Free ms xs = (n : ℕ) → among n (mentioned ms) ≡ true → at xs n ≡ None

  -- what stands after one more that comes, where its number is mentioned once and nothing stands there
  came : (o : Option V) (k : ℕ) (w : Word V) (xs : List (Numbered V)) (n : ℕ) → (k ≡ n → w ≡ silent) → at xs k ≡ None
      → afterwards w (at (coming k o xs) n) ≡ afterwards (cond (eqb k n) (said o) w) (at xs n)
  came o k w xs n once none = elim (cases_Bool (eqb k n)) [
    | inl t ↦
        let e : k ≡ n = eqb-true _ _ t in
        ap (λ (u : Word V). afterwards u (at (coming k o xs) n)) (once e) ∙ here o e
        ∙ sym (ap (λ (u : Word V). afterwards u (at xs n)) (cond-true (eqb k n) (said o) w t))
    | inr t ↦
        ap (afterwards w) (there o (eqb-false _ _ t))
        ∙ sym (ap (λ (u : Word V). afterwards u (at xs n)) (cond-false (eqb k n) (said o) w t))
  ]
    where
      here : (o : Option V) → k ≡ n → at (coming k o xs) n ≡ o
      here None e = ap (at xs) (sym e) ∙ none
      here (Some v) e = ap (at (putting number_of (record { number = k; value = v }) xs)) (sym e) ∙ at_put_same (record { number = k; value = v }) xs

      there : (o : Option V) → (k ≡ n → ⊥) → at (coming k o xs) n ≡ at xs n
      there None ne = refl
      there (Some v) ne = at_put_other (record { number = k; value = v }) xs n ne

  came_other : (o : Option V) (k : ℕ) (xs : List (Numbered V)) (n : ℕ) → (k ≡ n → ⊥) → at (coming k o xs) n ≡ at xs n
  came_other None k xs n ne = refl
  came_other (Some v) k xs n ne = at_put_other (record { number = k; value = v }) xs n ne

  came_rising : (o : Option V) (k : ℕ) (xs : List (Numbered V)) → rising 0 (numbers xs) ≡ true → at xs k ≡ None → rising 0 (numbers (coming k o xs)) ≡ true
  came_rising None k xs r none = r
  came_rising (Some v) k xs r none = rising_put (record { number = k; value = v }) 0 xs r none (omega arith)

  added_after : (ms : List (Mention V)) (xs : List (Numbered V)) → repeats (mentioned ms) ≡ false → Free ms xs → rising 0 (numbers xs) ≡ true → After xs ms (added ms xs)
  added_after [] xs t f r = record { stands = λ n. refl; order = r }
  added_after (m ∷ ms) xs t f r =
      let p = or_parts (among m.number (mentioned ms)) (repeats (mentioned ms)) t in
      let none : at xs m.number ≡ None = f m.number (or_left (eqb m.number m.number) _ (eq-eqb _ _ refl)) in
      let i = added_after ms (coming m.number m.shall xs) p.1
      (λ n s. came_other m.shall m.number xs n (λ e. both_ways (among m.number (mentioned ms)) p.0 (ap (λ (k : ℕ). among k (mentioned ms)) e ∙ s)) ∙ f n (or_right (eqb m.number n) _ s))
      (came_rising m.shall m.number xs r none) in
      record {
        stands = λ n. i.stands n ∙ came m.shall m.number (said_of ms n) xs n (λ e. silence ms n (ap (λ (k : ℕ). among k (mentioned ms)) (sym e) ∙ p.0)) none;
        order = i.order;
      }

  over : (ms : List (Mention V)) (xs : List (Numbered V)) (n : ℕ) (b : Bool) → among n (mentioned ms) ≡ b → afterwards (said_of ms n) (at (unnamed ms xs) n) ≡ afterwards (said_of ms n) (at xs n)
  over ms xs n false e = ap (afterwards (said_of ms n)) (at_keep_other (λ (k : ℕ). among k (mentioned ms)) xs n e)
  over ms xs n true e = spoken ms (at (unnamed ms xs) n) (at xs n) n e
    where
      spoken : (ms : List (Mention V)) (o p : Option V) (n : ℕ) → among n (mentioned ms) ≡ true → afterwards (said_of ms n) o ≡ afterwards (said_of ms n) p
      spoken [] o p n e = absurd (both_ways false refl e)
      spoken (m ∷ ms) o p n e = elim (cases_Bool (eqb m.number n)) [
        | inl t ↦
            let f : said_of (m ∷ ms) n ≡ said m.shall = cond-true (eqb m.number n) (said m.shall) (said_of ms n) t in
            ap (λ (w : Word V). afterwards w o) f ∙ sym (ap (λ (w : Word V). afterwards w p) f)
        | inr t ↦
            let f : said_of (m ∷ ms) n ≡ said_of ms n = cond-false (eqb m.number n) (said m.shall) (said_of ms n) t in
            ap (λ (w : Word V). afterwards w o) f ∙ spoken ms o p n (sym (ap (λ (b : Bool). b || among n (mentioned ms)) t) ∙ e) ∙ sym (ap (λ (w : Word V). afterwards w p) f)
      ]

  -- the merge: where no number is mentioned twice, what the code makes is what stands after what was said
  pub merging_after : (ms : List (Mention V)) (xs : List (Numbered V)) → repeats (mentioned ms) ≡ false → rising 0 (numbers xs) ≡ true → After xs ms (merging ms xs)
  merging_after ms xs t r =
      let i = added_after ms (unnamed ms xs) t (λ n s. at_keep_named (λ (k : ℕ). among k (mentioned ms)) xs n s) (rising_keep (λ (k : ℕ). among k (mentioned ms)) 0 xs r) in
      record { stands = λ n. i.stands n ∙ over ms xs n (among n (mentioned ms)) refl; order = i.order }

  -- by rising number, what stands at each number is all there is to a list
  record_of : ℕ → V → Numbered V
  record_of n v = record { number = n; value = v }

  same_heads : (x y : Numbered V) → x.number ≡ y.number → Some x.value ≡ Some y.value → x ≡ y
  unfolding record_of
  same_heads x y e f =
      let g : x.value ≡ y.value = cc in
      let a : Numbered V = record { number = y.number; value = x.value } in
      let i : x ≡ a = ap (λ (n : ℕ). record_of n x.value) e in
      let j : a ≡ y = ap (record_of y.number) g in
      i ∙ j

  never : {v : V} → Some v ≡ None → ⊥
  never e = let z : ◌≡◌ {A = ℕ} 0 1 = cc in omega arith

  pub same_rows : (f g : ℕ) (xs ys : List (Numbered V)) → rising f (numbers xs) ≡ true → rising g (numbers ys) ≡ true → ((n : ℕ) → at xs n ≡ at ys n) → xs ≡ ys
  same_rows f g [] [] r s e = refl
  same_rows f g [] (y ∷ ys) r s e = absurd (never (sym (at_here y ys y.number refl) ∙ sym (e y.number)))
  same_rows f g (x ∷ xs) [] r s e = absurd (never (sym (at_here x xs x.number refl) ∙ e x.number))
  same_rows f g (x ∷ xs) (y ∷ ys) r s e =
      let p = and_parts (leb f x.number) (rising (x.number + 1) (numbers xs)) r in
      let q = and_parts (leb g y.number) (rising (y.number + 1) (numbers ys)) s in
      elim (cases_order x.number y.number) [
        | inl o ↦
            let h : x ≡ y = same_heads x y o (sym (at_here x xs x.number refl) ∙ e x.number ∙ at_here y ys x.number (sym o)) in
            let t : xs ≡ ys = same_rows (x.number + 1) (y.number + 1) xs ys p.1 q.1 (rest x y xs ys p.1 q.1 o e) in
            cc
        | inr (inl o) ↦ absurd (never (sym (at_here x xs x.number refl) ∙ e x.number ∙ at_next y ys x.number (λ u. omega arith) ∙ at_below (y.number + 1) ys x.number q.1 (omega arith)))
        | inr (inr o) ↦ absurd (never (sym (at_here y ys y.number refl) ∙ sym (e y.number) ∙ at_next x xs y.number (λ u. omega arith) ∙ at_below (x.number + 1) xs y.number p.1 (omega arith)))
      ]
    where
      rest : (x y : Numbered V) (xs ys : List (Numbered V)) → rising (x.number + 1) (numbers xs) ≡ true → rising (y.number + 1) (numbers ys) ≡ true → x.number ≡ y.number → ((n : ℕ) → at (x ∷ xs) n ≡ at (y ∷ ys) n) → (n : ℕ) → at xs n ≡ at ys n
      rest x y xs ys r s o e n = elim (cases_lt n (x.number + 1)) [
        | inl h ↦ at_below (x.number + 1) xs n r h ∙ sym (at_below (y.number + 1) ys n s (omega arith))
        | inr h ↦ sym (at_next x xs n (λ u. omega arith)) ∙ e n ∙ at_next y ys n (λ u. omega arith)
      ]

  -- what stands after is one list
  pub after_one : (before : List (Numbered V)) (ms : List (Mention V)) (a b : List (Numbered V)) → After before ms a → After before ms b → a ≡ b
  after_one before ms a b p q = same_rows 0 0 a b p.order q.order (λ n. p.stands n ∙ sym (q.stands n))
