-- The tests that go from tag to tag find just the tags of the messages.
use Rattle.std.proofs.Common.{◌≡◌, ℕ, zero, suc, ◌-◌, ◌<◌, ◌≤◌, true, false, ◌&&◌, eqb, ltb, ◌⊎◌, List, [], ◌∷◌, ◌++◌, length, replicate, sym, refl, ap, ◌∙◌, inl, inr, append_assoc, arith}
use Rattle.std.specs.List.{flat_map}
use Rattle.std.proofs.lemmas.Bool.{cases_Bool, eqb-true, lt-ltb, ltb-true, and_parts, and_from, cond-true, cond-false, both_ways}
use Rattle.records.specs.Order.{none, descriptors, entries, set_order, modes, mode_order}
use Rattle.records.specs.Messages.{Each, descriptor_of, mode_of, SetMessage, ModeMessage}

-- a test that fails at every tag but those that it takes
never : {A : Type 0} → false ≡ true → A
never e = absurd (both_ways false refl e)

sub_suc : (n k : ℕ) → suc k ≤ n → k ≤ n - 1
sub_suc n k h = omega arith

-- the descriptors and the end of a set message
abbrev ending : List ℕ → List ℕ
ending ds = flat_map descriptor_of ds ++ 6 ∷ []

ending_more : (k : ℕ) (ds : List ℕ) → ending (k ∷ ds) ≡ 4 ∷ (replicate k 5 ++ ending ds)
ending_more k ds = append_assoc (descriptor_of k) (flat_map descriptor_of ds) (6 ∷ [])

-- alternative sets, no more than may come
sets_pass : (k n : ℕ) (ts : List ℕ) → k ≤ n → ((m : ℕ) → descriptors m ts ≡ true) → descriptors n (replicate k 5 ++ ts) ≡ true
sets_pass zero n ts h f = f n
sets_pass (suc k) n ts h f = and_from _ _ (lt-ltb 0 n (omega arith)) (sets_pass k (n - 1) ts (sub_suc n k h) f)

ending_pass : (ds : List ℕ) → Each (λ k. k ≤ 16) ds → (n : ℕ) → descriptors n (ending ds) ≡ true
ending_pass [] e n = refl
ending_pass (k ∷ ds) e n = ap (descriptors n) (ending_more k ds) ∙ sets_pass k 16 (ending ds) e.0 (ending_pass ds e.1)

-- past the entries a tag 2 or 3 does not come
entries_end : (ds : List ℕ) → Each (λ k. k ≤ 16) ds → entries (ending ds) ≡ true
entries_end [] e = refl
entries_end (k ∷ ds) e = ending_pass (k ∷ ds) e 0

entries_pass : (es ds : List ℕ) → Each (λ t. (t ≡ 2) ⊎ (t ≡ 3)) es → Each (λ k. k ≤ 16) ds → entries (es ++ ending ds) ≡ true
entries_pass [] ds e f = entries_end ds f
entries_pass (t ∷ es) ds (inl e, rest) f = ap (λ (u : ℕ). entries (u ∷ (es ++ ending ds))) e ∙ entries_pass es ds rest f
entries_pass (t ∷ es) ds (inr e, rest) f = ap (λ (u : ℕ). entries (u ∷ (es ++ ending ds))) e ∙ entries_pass es ds rest f

pub set_from : (ts : List ℕ) → SetMessage ts → set_order ts ≡ true
set_from ts m = ap set_order m.whole ∙ entries_pass m.entries m.descriptors m.named m.narrow

-- what a test that passes has found
record Ending (n : ℕ) (ts : List ℕ) : Type 0 where
  sets : ℕ
  later : List ℕ
  few : sets ≤ n
  narrow : Each (λ k. k ≤ 16) later
  whole : ts ≡ replicate sets 5 ++ ending later

ends : (ts : List ℕ) → none ts ≡ true → ts ≡ []
ends [] e = refl
ends (t ∷ ts) e = never e

find_ending : (n : ℕ) (ts : List ℕ) → descriptors n ts ≡ true → Ending n ts
find_ending n [] e = never e
find_ending n (t ∷ ts) e = elim (cases_Bool (eqb t 4)) [
  | inl a ↦
      let i = find_ending 16 ts (sym (cond-true (eqb t 4) _ _ a) ∙ e) in
      record {
        sets = 0;
        later = i.sets ∷ i.later;
        few = omega arith;
        narrow = (i.few, i.narrow);
        whole = ap (λ (u : ℕ). u ∷ ts) (eqb-true t 4 a) ∙ ap (λ (u : List ℕ). 4 ∷ u) i.whole ∙ sym (ending_more i.sets i.later);
      }
  | inr a ↦ elim (cases_Bool (eqb t 5)) [
    | inl b ↦
        let f = and_parts (ltb 0 n) (descriptors (n - 1) ts) (sym (cond-true (eqb t 5) _ _ b) ∙ sym (cond-false (eqb t 4) _ _ a) ∙ e) in
        let i = find_ending (n - 1) ts f.1 in
        let h : 0 < n = ltb-true 0 n f.0 in
        record {
          sets = suc i.sets;
          later = i.later;
          few = omega (arith, i.few);
          narrow = i.narrow;
          whole = ap (λ (u : ℕ). u ∷ ts) (eqb-true t 5 b) ∙ ap (λ (u : List ℕ). 5 ∷ u) i.whole;
        }
    | inr b ↦ elim (cases_Bool (eqb t 6)) [
      | inl d ↦
          record {
            sets = 0;
            later = [];
            few = omega arith;
            narrow = tt;
            whole = ap (λ (u : ℕ). u ∷ ts) (eqb-true t 6 d) ∙ ap (λ (u : List ℕ). 6 ∷ u) (ends ts (sym (cond-true (eqb t 6) _ _ d) ∙ sym (cond-false (eqb t 5) _ _ b) ∙ sym (cond-false (eqb t 4) _ _ a) ∙ e));
          }
      | inr d ↦ never (sym (cond-false (eqb t 6) (none ts) false d) ∙ sym (cond-false (eqb t 5) _ _ b) ∙ sym (cond-false (eqb t 4) _ _ a) ∙ e)
    ]
  ]
]

-- the entries, and what follows them
record Entries (ts : List ℕ) : Type 0 where
  named : List ℕ
  later : List ℕ
  each : Each (λ t. (t ≡ 2) ⊎ (t ≡ 3)) named
  narrow : Each (λ k. k ≤ 16) later
  whole : ts ≡ named ++ ending later

one_more : (t : ℕ) (ts : List ℕ) → (t ≡ 2) ⊎ (t ≡ 3) → Entries ts → Entries (t ∷ ts)
one_more t ts h i = record { named = t ∷ i.named; later = i.later; each = (h, i.each); narrow = i.narrow; whole = ap (λ (u : List ℕ). t ∷ u) i.whole }

no_more : (ts : List ℕ) → Ending 0 ts → Entries ts
no_more ts i =
    let z : i.sets ≡ 0 = omega (arith, i.few) in
    record { named = []; later = i.later; each = tt; narrow = i.narrow; whole = i.whole ∙ ap (λ (k : ℕ). replicate k 5 ++ ending i.later) z }

find_entries : (ts : List ℕ) → entries ts ≡ true → Entries ts
find_entries [] e = never e
find_entries (t ∷ ts) e = elim (cases_Bool (eqb t 2)) [
  | inl a ↦ one_more t ts (inl (eqb-true t 2 a)) (find_entries ts (sym (cond-true (eqb t 2) _ _ a) ∙ e))
  | inr a ↦ elim (cases_Bool (eqb t 3)) [
    | inl b ↦ one_more t ts (inr (eqb-true t 3 b)) (find_entries ts (sym (cond-true (eqb t 3) _ _ b) ∙ sym (cond-false (eqb t 2) _ _ a) ∙ e))
    | inr b ↦ no_more (t ∷ ts) (find_ending 0 (t ∷ ts) (sym (cond-false (eqb t 3) _ _ b) ∙ sym (cond-false (eqb t 2) _ _ a) ∙ e))
  ]
]

pub set_is : (ts : List ℕ) → set_order ts ≡ true → SetMessage ts
set_is [] e = never e
set_is (t ∷ ts) e = elim (cases_Bool (eqb t 1)) [
  | inl a ↦
      let i = find_entries ts (sym (cond-true (eqb t 1) _ _ a) ∙ e) in
      record { entries = i.named; descriptors = i.later; named = i.each; narrow = i.narrow; whole = ap (λ (u : ℕ). u ∷ ts) (eqb-true t 1 a) ∙ ap (λ (u : List ℕ). 1 ∷ u) i.whole }
  | inr a ↦ never (sym (cond-false (eqb t 1) (entries ts) false a) ∙ e)
]

-- a mode message
abbrev Lawful : ℕ → Type 0
Lawful k = (1 ≤ k) × (k ≤ 16)

elements_pass : (k m n : ℕ) (ts : List ℕ) → k ≤ n → modes m (n - k) ts ≡ true → modes m n (replicate k 8 ++ ts) ≡ true
elements_pass zero m n ts h f = let e : n - 0 ≡ n = omega arith in ap (λ (j : ℕ). modes m j ts) (sym e) ∙ f
elements_pass (suc k) m n ts h f =
    let e : (n - 1) - k ≡ n - suc k = omega arith in
    and_from _ _ (lt-ltb 0 n (omega arith)) (elements_pass k m (n - 1) ts (sub_suc n k h) (ap (λ (j : ℕ). modes m j ts) e ∙ f))

modes_pass : (ks : List ℕ) (m n : ℕ) → Each Lawful ks → length ks ≤ m → n < 16 → modes m n (flat_map mode_of ks) ≡ true
modes_pass [] m n e h l = lt-ltb n 16 l
modes_pass (k ∷ ks) m n e h l =
    and_from _ _ (and_from _ _ (lt-ltb n 16 l) (lt-ltb 0 m (omega arith)))
    (elements_pass k (m - 1) 16 (flat_map mode_of ks) e.0.1 (modes_pass ks (m - 1) (16 - k) e.1 (omega arith) (omega (arith, e.0.0))))

pub mode_from : (ts : List ℕ) → ModeMessage ts → mode_order ts ≡ true
mode_from ts m = ap mode_order m.whole ∙ go m.modes m.some m.few m.narrow
  where
    go : (ks : List ℕ) → 1 ≤ length ks → length ks ≤ 16 → Each Lawful ks → mode_order (flat_map mode_of ks) ≡ true
    go [] h l e = absurd (omega arith)
    go (k ∷ ks) h l e = elements_pass k 15 16 (flat_map mode_of ks) e.0.1 (modes_pass ks 15 (16 - k) e.1 (omega arith) (omega (arith, e.0.0)))

record Elements (m n : ℕ) (ts : List ℕ) : Type 0 where
  here : ℕ
  later : List ℕ
  few : here ≤ n
  some : n - here < 16
  most : length later ≤ m
  narrow : Each Lawful later
  whole : ts ≡ replicate here 8 ++ flat_map mode_of later

find_elements : (m n : ℕ) (ts : List ℕ) → n ≤ 16 → modes m n ts ≡ true → Elements m n ts
find_elements m n [] l e =
    let h : n < 16 = ltb-true n 16 e in
    record { here = 0; later = []; few = omega arith; some = omega arith; most = omega arith; narrow = tt; whole = refl }
find_elements m n (t ∷ ts) l e = elim (cases_Bool (eqb t 8)) [
  | inl a ↦
      let f = and_parts (ltb 0 n) (modes m (n - 1) ts) (sym (cond-true (eqb t 8) _ _ a) ∙ e) in
      let h : 0 < n = ltb-true 0 n f.0 in
      let i = find_elements m (n - 1) ts (omega arith) f.1 in
      record {
        here = suc i.here;
        later = i.later;
        few = omega (arith, i.few);
        some = omega (arith, i.some);
        most = i.most;
        narrow = i.narrow;
        whole = ap (λ (u : ℕ). u ∷ ts) (eqb-true t 8 a) ∙ ap (λ (u : List ℕ). 8 ∷ u) i.whole;
      }
  | inr a ↦ elim (cases_Bool (eqb t 7)) [
    | inl b ↦
        let f = and_parts (ltb n 16 && ltb 0 m) (modes (m - 1) 16 ts) (sym (cond-true (eqb t 7) _ _ b) ∙ sym (cond-false (eqb t 8) _ _ a) ∙ e) in
        let g = and_parts (ltb n 16) (ltb 0 m) f.0 in
        let h : n < 16 = ltb-true n 16 g.0 in
        let j : 0 < m = ltb-true 0 m g.1 in
        let i = find_elements (m - 1) 16 ts (omega arith) f.1 in
        record {
          here = 0;
          later = i.here ∷ i.later;
          few = omega arith;
          some = omega arith;
          most = omega (arith, i.most);
          narrow = ((omega (arith, i.some, i.few), i.few), i.narrow);
          whole = ap (λ (u : ℕ). u ∷ ts) (eqb-true t 7 b) ∙ ap (λ (u : List ℕ). 7 ∷ u) i.whole;
        }
    | inr b ↦ never (sym (cond-false (eqb t 7) (ltb n 16 && ltb 0 m && modes (m - 1) 16 ts) false b) ∙ sym (cond-false (eqb t 8) _ _ a) ∙ e)
  ]
]

pub mode_is : (ts : List ℕ) → mode_order ts ≡ true → ModeMessage ts
mode_is [] e = never e
mode_is (t ∷ ts) e = elim (cases_Bool (eqb t 7)) [
  | inl a ↦
      let i = find_elements 15 16 ts (omega arith) (sym (cond-true (eqb t 7) _ _ a) ∙ e) in
      record {
        modes = i.here ∷ i.later;
        some = omega arith;
        few = omega (arith, i.most);
        narrow = ((omega (arith, i.some, i.few), i.few), i.narrow);
        whole = ap (λ (u : ℕ). u ∷ ts) (eqb-true t 7 a) ∙ ap (λ (u : List ℕ). 7 ∷ u) i.whole;
      }
  | inr a ↦ never (sym (cond-false (eqb t 7) (modes 15 16 ts) false a) ∙ e)
]
