-- What the tests of length, order and field say of a message.
use Rattle.std.proofs.Common.{◌≡◌, ℕ, ◌%◌, true, false, ◌&&◌, eqb, ltb, leb, List, length, sym, refl, ap, ◌∙◌, inl, inr}
use Rattle.std.proofs.lemmas.Bool.{and_parts, and_from, ltb-true, eqb-true, leb-true, lt-ltb, eq-eqb, le-leb, both_ways}
use Rattle.records.specs.declared.held.Form.{Form}
use Rattle.records.specs.declared.held.Form.TheVariants.{Set, Modes}
use Rattle.refusals.specs.declared.refusal.Refusal.TheVariants.{Length, Order, Field}
use Rattle.refusals.specs.Checks.{First, Passed}
use Rattle.records.specs.Layout.{fitting, all_in_range}
use Rattle.records.specs.Messages.{Sized, Ordered, limit, message_checks}
use Rattle.records.specs.Reads.{rows_of, tags}
use Rattle.records.specs.Stages.{in_order}
use Rattle.records.proofs.Orders.{set_is, set_from, mode_is, mode_from}

sized_is : (most n : ℕ) → fitting most n ≡ true → Sized most n
sized_is most n e =
    let a = and_parts (ltb 0 n && eqb (n % 32) 0) (leb n most) e in
    let b = and_parts (ltb 0 n) (eqb (n % 32) 0) a.0 in
    record { some = ltb-true 0 n b.0; whole = eqb-true (n % 32) 0 b.1; few = leb-true n most a.1 }

sized_not : (most n : ℕ) → fitting most n ≡ false → Sized most n → ⊥
sized_not most n e s =
    both_ways (fitting most n) e
    (and_from (ltb 0 n && eqb (n % 32) 0) (leb n most) (and_from (ltb 0 n) (eqb (n % 32) 0) (lt-ltb 0 n s.some) (eq-eqb (n % 32) 0 s.whole)) (le-leb n most s.few))

ordered_is : (form : Form) (ts : List ℕ) → in_order form ts ≡ true → Ordered form ts
ordered_is Set ts e = set_is ts e
ordered_is Modes ts e = mode_is ts e

ordered_not : (form : Form) (ts : List ℕ) → in_order form ts ≡ false → Ordered form ts → ⊥
ordered_not Set ts e m = both_ways (in_order Set ts) e (set_from ts m)
ordered_not Modes ts e m = both_ways (in_order Modes ts) e (mode_from ts m)

-- the records that are read are those of the message
module _ (form : Form) (octets : List ℕ) (os : List (List ℕ)) (over : os ≡ rows_of octets) where
  ordered_over : in_order form (tags os) ≡ in_order form (tags (rows_of octets))
  ordered_over = ap (λ (u : List (List ℕ)). in_order form (tags u)) over

  module _ (sized : true ≡ fitting (limit form) (length octets)) where
    pub refused_order : false ≡ in_order form (tags os) → First (message_checks form octets) Order
    refused_order e = inr (sized_is _ _ (sym sized), inl (refl, ordered_not form _ (sym (e ∙ ordered_over))))

    module _ (ordered : true ≡ in_order form (tags os)) where
      pub refused_field : false ≡ all_in_range os → First (message_checks form octets) Field
      refused_field e = inr (sized_is _ _ (sym sized), inr (ordered_is form _ (sym (ordered ∙ ordered_over)), inl (refl, both_ways _ (sym (e ∙ ap all_in_range over)))))

      pub passed : true ≡ all_in_range os → Passed (message_checks form octets)
      passed e = (sized_is _ _ (sym sized), (ordered_is form _ (sym (ordered ∙ ordered_over)), (sym (e ∙ ap all_in_range over), tt)))

pub refused_length : (form : Form) (octets : List ℕ) → false ≡ fitting (limit form) (length octets) → First (message_checks form octets) Length
refused_length form octets e = inl (refl, sized_not _ _ (sym e))
