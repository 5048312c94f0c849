-- A message that is in order has at most 16 modes, of 1 to 16 elements each.
use Rattle.std.proofs.Common.{◌≡◌, ℕ, ◌-◌, ◌<◌, ◌≤◌, true, false, ◌&&◌, eqb, ltb, List, [], ◌∷◌, length, get_or, sym, refl, ap, ◌∙◌, subst, inl, inr, arith}
use Rattle.std.proofs.lemmas.Bool.{cases_Bool, cond-true, cond-false, and_parts, eqb-true, ltb-true, both_ways}
use Rattle.judges.specs.declared.words.Proposal.{Proposal}
use Rattle.refusals.specs.Checks.{Passed}
use Rattle.records.specs.declared.held.Form.TheVariants.{Modes}
use Rattle.records.specs.Layout.{Rec, mode, element, rec_of, be32}
use Rattle.records.specs.Messages.{Each, message_checks}
use Rattle.records.specs.Order.{modes, mode_order}
use Rattle.records.specs.Reads.{rows_of, says_of, tags}
use Rattle.records.proofs.Orders.{mode_from}
use Rattle.modes.specs.Modes.{elements_in, modes_in, Fit, Shaped}

never : {A : Type 0} → false ≡ true → A
never e = absurd (both_ways false refl e)

-- what the tags of a mode and of an element say
says_mode : (o : List ℕ) → get_or o 0 0 ≡ 7 → rec_of o ≡ mode
says_mode o e = rw e

says_element : (o : List ℕ) → get_or o 0 0 ≡ 8 → rec_of o ≡ element (record { kind = get_or o 1 0; p = be32 o 4; q = be32 o 8 })
says_element o e = rw e

-- what is left of a mode that can have n more elements, where m more modes can come
record Left (m n : ℕ) (rs : List Rec) : Type 0 where
  most : length (elements_in rs) ≤ n
  some : n ≡ 16 → 1 ≤ length (elements_in rs)
  few : length (modes_in rs) ≤ m
  each : Each Fit (modes_in rs)

one_element : (m n : ℕ) (p : Proposal) (rs : List Rec) → 0 < n → Left m (n - 1) rs → Left m n (element p ∷ rs)
one_element m n p rs h i = record { most = omega (arith, i.most); some = λ e. omega arith; few = i.few; each = i.each }

one_mode : (m n : ℕ) (rs : List Rec) → n < 16 → 0 < m → Left (m - 1) 16 rs → Left m n (mode ∷ rs)
one_mode m n rs h l i = record { most = omega arith; some = λ e. absurd (omega arith); few = omega (arith, i.few); each = ((i.some refl, i.most), i.each) }

elements_left : (m n : ℕ) (os : List (List ℕ)) → modes m n (tags os) ≡ true → Left m n (says_of os)
unfolding says_of
elements_left m n [] e = let h : n < 16 = ltb-true n 16 e in record { most = omega arith; some = λ f. absurd (omega arith); few = omega arith; each = tt }
elements_left m n (o ∷ os) e = elim (cases_Bool (eqb (get_or o 0 0) 8)) [
  | inl a ↦
      let f = and_parts (ltb 0 n) (modes m (n - 1) (tags os)) (sym (cond-true (eqb (get_or o 0 0) 8) _ _ a) ∙ e) in
      subst (λ (r : Rec). Left m n (r ∷ says_of os)) (sym (says_element o (eqb-true (get_or o 0 0) 8 a))) (one_element m n _ (says_of os) (ltb-true 0 n f.0) (elements_left m (n - 1) os f.1))
  | inr a ↦ elim (cases_Bool (eqb (get_or o 0 0) 7)) [
    | inl b ↦
        let f = and_parts (ltb n 16 && ltb 0 m) (modes (m - 1) 16 (tags os)) (sym (cond-true (eqb (get_or o 0 0) 7) _ _ b) ∙ sym (cond-false (eqb (get_or o 0 0) 8) _ _ a) ∙ e) in
        let g = and_parts (ltb n 16) (ltb 0 m) f.0 in
        subst (λ (r : Rec). Left m n (r ∷ says_of os)) (sym (says_mode o (eqb-true (get_or o 0 0) 7 b))) (one_mode m n (says_of os) (ltb-true n 16 g.0) (ltb-true 0 m g.1) (elements_left (m - 1) 16 os f.1))
    | inr b ↦ never (sym (cond-false (eqb (get_or o 0 0) 7) (ltb n 16 && ltb 0 m && modes (m - 1) 16 (tags os)) false b) ∙ sym (cond-false (eqb (get_or o 0 0) 8) _ _ a) ∙ e)
  ]
]

order_shaped : (os : List (List ℕ)) → mode_order (tags os) ≡ true → Shaped (modes_in (says_of os))
unfolding says_of
order_shaped [] e = never e
order_shaped (o ∷ os) e = elim (cases_Bool (eqb (get_or o 0 0) 7)) [
  | inl a ↦
      let i = elements_left 15 16 os (sym (cond-true (eqb (get_or o 0 0) 7) _ _ a) ∙ e) in
      let j = one_mode 16 0 (says_of os) (omega arith) (omega arith) i in
      subst (λ (r : Rec). Shaped (modes_in (r ∷ says_of os))) (sym (says_mode o (eqb-true (get_or o 0 0) 7 a))) (record { few = j.few; each = j.each })
  | inr a ↦ never (sym (cond-false (eqb (get_or o 0 0) 7) (modes 15 16 (tags os)) false a) ∙ e)
]

pub shaped : (octets : List ℕ) (os : List (List ℕ)) → os ≡ rows_of octets → Passed (message_checks Modes octets) → Shaped (modes_in (says_of os))
shaped octets os over p = order_shaped os (ap (λ (u : List (List ℕ)). mode_order (tags u)) over ∙ mode_from _ p.1.0)
