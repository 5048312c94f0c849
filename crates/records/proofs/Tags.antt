-- An octet that is no tag.
use Rattle.std.proofs.Common.{◌≡◌, ℕ, false, cond, eqb, List, ◌∷◌, get_or, refl, sym, subst, ap, ◌∙◌}
use Rattle.std.proofs.lemmas.Bool.{ne_eqb, cond-false}
use Rattle.records.specs.declared.tag.Tag.TheVariants.{Begin, Entry, Removed, Descriptor, Alternatives, End, Mode, Element}
use Rattle.records.specs.declared.stage.Stage.{Stage}
use Rattle.records.specs.declared.stage.Stage.TheVariants.{SetStart, Entries, Ended, ModeStart, Elements}
use Rattle.records.specs.declared.stage.Stage.TheVariants as stage
use Rattle.records.specs.Tag.{Unknown}
use Rattle.records.specs.Layout.{other, rec_of, in_range}
use Rattle.records.specs.Order.{descriptors}
use Rattle.records.specs.Stages.{rest}

-- none of the cases of a tag is taken
module _ {X : Type 0} (t : ℕ) where
  pub no_case : eqb t 1 ≡ false → eqb t 2 ≡ false → eqb t 3 ≡ false → eqb t 4 ≡ false → eqb t 5 ≡ false → eqb t 6 ≡ false → eqb t 7 ≡ false → eqb t 8 ≡ false → (a b c d e f g h none : X)
      → cond (eqb t 1) a (cond (eqb t 2) b (cond (eqb t 3) c (cond (eqb t 4) d (cond (eqb t 5) e (cond (eqb t 6) f (cond (eqb t 7) g (cond (eqb t 8) h none))))))) ≡ none
  no_case i j k l m n o p a b c d e f g h none =
      cond-false (eqb t 1) _ _ i ∙ cond-false (eqb t 2) _ _ j ∙ cond-false (eqb t 3) _ _ k ∙ cond-false (eqb t 4) _ _ l ∙ cond-false (eqb t 5) _ _ m ∙ cond-false (eqb t 6) _ _ n ∙ cond-false (eqb t 7) _ _ o ∙ cond-false (eqb t 8) h none p

  no_tag : Unknown t → (a b c d e f g h none : X)
      → cond (eqb t 1) a (cond (eqb t 2) b (cond (eqb t 3) c (cond (eqb t 4) d (cond (eqb t 5) e (cond (eqb t 6) f (cond (eqb t 7) g (cond (eqb t 8) h none))))))) ≡ none
  no_tag u =
      no_case (ne_eqb t 1 (u Begin)) (ne_eqb t 2 (u Entry)) (ne_eqb t 3 (u Removed)) (ne_eqb t 4 (u Descriptor)) (ne_eqb t 5 (u Alternatives)) (ne_eqb t 6 (u End)) (ne_eqb t 7 (u Mode)) (ne_eqb t 8 (u Element))

stray : (n t : ℕ) (ts : List ℕ) → Unknown t → descriptors n (t ∷ ts) ≡ false
stray n t ts u = cond-false (eqb t 4) _ _ (ne_eqb t 4 (u Descriptor)) ∙ cond-false (eqb t 5) _ _ (ne_eqb t 5 (u Alternatives)) ∙ cond-false (eqb t 6) _ _ (ne_eqb t 6 (u End))

module _ (o : List ℕ) (t : ℕ) (is : t ≡ get_or o 0 0) (u : Unknown t) where
  pub says_other : other t ≡ rec_of o
  says_other = ap other is ∙ sym (no_tag _ (subst Unknown is u) _ _ _ _ _ _ _ _ _)

  pub out_of_range : false ≡ in_range o
  out_of_range = sym (no_tag _ (subst Unknown is u) _ _ _ _ _ _ _ _ _)

pub out_of_order : (st : Stage) (t : ℕ) (ts : List ℕ) → Unknown t → rest st (t ∷ ts) ≡ false
out_of_order SetStart t ts u = cond-false (eqb t 1) _ _ (ne_eqb t 1 (u Begin))
out_of_order Entries t ts u = cond-false (eqb t 2) _ _ (ne_eqb t 2 (u Entry)) ∙ cond-false (eqb t 3) _ _ (ne_eqb t 3 (u Removed)) ∙ stray 0 t ts u
out_of_order (stage.Alternatives n) t ts u = stray n t ts u
out_of_order Ended t ts u = refl
out_of_order ModeStart t ts u = cond-false (eqb t 7) _ _ (ne_eqb t 7 (u Mode))
out_of_order (Elements m n) t ts u = cond-false (eqb t 8) _ _ (ne_eqb t 8 (u Element)) ∙ cond-false (eqb t 7) _ _ (ne_eqb t 7 (u Mode))
