-- The turns of the loop that keeps the items at which a closure answers true.
use Rattle.std.proofs.Common.{◌≡◌, ℕ, ◌+◌, ◌<◌, ◌≤◌, Bool, true, false, cond, List, [], ◌∷◌, ◌++◌, length, get_or, drop, sym, refl, ap, ◌∙◌, subst, arith}
use Rattle.std.specs.List.Retain.{IsFiltered}
use Rattle.std.proofs.lemmas.List.{append_assoc, append-nil, drop_more, drop_all, get_or-drop, length_push}

module _ {X : Type 0} where
  -- lists that are the same from i on have the same item there
  pub same_at : (xs ys : List X) (i : ℕ) (d : X) → drop i xs ≡ drop i ys → get_or xs i d ≡ get_or ys i d
  same_at xs ys i d e =
      let here : i + 0 ≡ i = omega arith in
      sym (ap (λ (k : ℕ). get_or xs k d) here) ∙ sym (get_or-drop i xs 0 d) ∙ ap (λ (zs : List X). get_or zs 0 d) e ∙ get_or-drop i ys 0 d ∙ ap (λ (k : ℕ). get_or ys k d) here

module _ {X P : Type 0} (R : P → X → Bool → P → Type 0) where
  -- kept has what stays of the first i items; the answers began at p, and go on at q
  abbrev pub Retaining : P → List X → List X → ℕ → P → Type 0
  Retaining p xs kept i q = (length kept ≤ i) × ((zs : List X) → IsFiltered R q (drop i xs) zs → IsFiltered R p xs (kept ++ zs))

  answered : (p q : P) (b : Bool) (x : X) (xs zs : List X) → R p x b q → IsFiltered R q xs zs → IsFiltered R p (x ∷ xs) (cond b (x ∷ zs) zs)
  answered p q true x xs zs r h = (true ∷ h.0, h.1, omega (arith, h.2), (q, r, h.3), ap (λ (t : List X). x ∷ t) h.4)
  answered p q false x xs zs r h = (false ∷ h.0, h.1, omega (arith, h.2), (q, r, h.3), h.4)

  module _ (p q u : P) (xs kept : List X) (i : ℕ) (x : X) (lt : i < length xs) (is : x ≡ get_or xs i x) (inv : Retaining p xs kept i q) where
    next : drop i xs ≡ x ∷ drop (i + 1) xs
    next = rw (← is) at (drop_more xs i x lt)

    pub retaining_true : R q x true u → Retaining p xs (kept ++ x ∷ []) (i + 1) u
    retaining_true r = (
      omega (arith, length_push kept x, inv.0),
      λ zs h. subst (IsFiltered R p xs) (sym (append_assoc kept (x ∷ []) zs))
          (inv.1 (x ∷ zs) (subst (λ (t : List X). IsFiltered R q t (x ∷ zs)) (sym next) (answered q u true x (drop (i + 1) xs) zs r h))),
    )

    pub retaining_false : R q x false u → Retaining p xs kept (i + 1) u
    retaining_false r = (
      omega (arith, inv.0),
      λ zs h. inv.1 zs (subst (λ (t : List X). IsFiltered R q t zs) (sym next) (answered q u false x (drop (i + 1) xs) zs r h)),
    )

  pub retaining_all : (p q : P) (xs kept : List X) (i : ℕ) → length xs ≤ i → Retaining p xs kept i q → IsFiltered R p xs kept
  retaining_all p q xs kept i le inv =
      subst (IsFiltered R p xs) (append-nil kept) (inv.1 [] (subst (λ (t : List X). IsFiltered R q t []) (sym (drop_all i xs le)) ([], q, refl, refl, refl)))
