-- What is held after what is held at one number was amended.
use Rattle.std.proofs.Common.{◌≡◌, ℕ, ◌<◌, ◌≤◌, Bool, true, false, ◌||◌, eqb, List, [], ◌∷◌, length, get_or, is_some, IfSome, Some, None, Option, sym, refl, ap, ◌∙◌, subst, inl, inr, arith}
use Rattle.std.specs.Option.{option_map}
use Rattle.std.proofs.lemmas.List.{length-map}
use Rattle.std.proofs.lemmas.Bool.{cases_Bool, cond-true, cond-false, eqb-true, eq-eqb, both_ways}
use Rattle.bounded.specs.Items.{items}
use Rattle.keyed.specs.Keyed.{Numbered, Mention, After, at, rising, numbers}
use Rattle.keyed.specs.Merge.{keeping, putting, number_of, merging, unnamed, find_in}
use Rattle.keyed.proofs.Merged.{merging_after, after_one}
use Rattle.keyed.proofs.Lookups.{at_next}
use Rattle.keyed.proofs.Views.{kept_unnamed, map-putting, length-putting, length-keeping, found_at}
use Rattle.search.specs.Lists.{At}
use Rattle.search.proofs.Covers.{at_mapped}
use Rattle.channels.specs.declared.words.Channel.{Channel}
use Rattle.channels.specs.Holdings.{Holding, channel_row, channel_rows}
use Rattle.refusals.specs.declared.refusal.Refusal.{Refusal}
use Rattle.refusals.specs.declared.refusal.Refusal.TheVariants.{Unknown, WrongState}
use Rattle.refusals.specs.Checks.{First, Passed}
use Rattle.channels.specs.declared.words.Event.{Event}
use Rattle.channels.specs.declared.words.State.{State}
use Rattle.channels.specs.declared.held.Channels.{Channels}
use Rattle.channels.specs.Held.{channels_of, shall, holding, becomes, expects, event_checks}

or_none : (b : Bool) → b ≡ (b || false)
or_none true = refl
or_none false = refl

-- where one of the number is held, fewer have another number
length_without : (n : ℕ) (xs : List Channel) (x : Holding) → at (channel_rows xs) n ≡ Some x → length (keeping (λ c. c.number) (λ k. eqb n k) xs) < length xs
length_without n [] x e = absurd (let z : ◌≡◌ {A = ℕ} 0 1 = cc in omega arith)
length_without n (y ∷ xs) x e = elim (cases_Bool (eqb n y.number)) [
  | inl t ↦
      omega (arith, length-keeping (λ c. c.number) (λ k. eqb n k) xs, ap length (cond-true (eqb n y.number) (keeping (λ c. c.number) (λ k. eqb n k) xs) (y ∷ keeping (λ c. c.number) (λ k. eqb n k) xs) t))
  | inr t ↦
      let ne : y.number ≡ n → ⊥ = λ q. both_ways (eqb n y.number) t (eq-eqb _ _ (sym q)) in
      let rest = length_without n xs x (sym (at_next (channel_row y) (channel_rows xs) n ne) ∙ e) in
      omega (arith, ap length (cond-false (eqb n y.number) (keeping (λ c. c.number) (λ k. eqb n k) xs) (y ∷ keeping (λ c. c.number) (λ k. eqb n k) xs) t))
]

abbrev held : Channel → Holding
held c = (channel_row c).value

module _ (n : ℕ) (xs left : List Channel) (rise : rising 0 (numbers (channel_rows xs)) ≡ true) (kept : left ≡ keeping (λ c. c.number) (λ k. eqb n k) xs) where
  others : (o : Option Holding) → channel_rows left ≡ unnamed (shall n o) (channel_rows xs)
  others o = kept_unnamed channel_row (shall n o) (eqb n) xs left (λ k. or_none (eqb n k)) kept

  -- nothing is put in
  pub gone : After (channel_rows xs) (shall n None) (channel_rows left)
  gone = subst (After (channel_rows xs) (shall n None)) (sym (others None)) (merging_after (shall n None) (channel_rows xs) refl rise)

  -- where one of the number was held, no more are held with another in its place
  pub no_more : (c : Channel) (zs : List Channel) → zs ≡ putting (λ c. c.number) c left → (x : Holding) → at (channel_rows xs) n ≡ Some x → length zs ≤ length xs
  no_more c zs e x h = omega (arith, ap length e, ap length kept, length-putting (λ c. c.number) c left, length_without n xs x h)

  pub fewer_held : length left ≤ length xs
  fewer_held = omega (arith, ap length kept, length-keeping (λ c. c.number) (λ k. eqb n k) xs)

  -- a channel of the number is put in
  pub came : (c : Channel) (zs : List Channel) → c.number ≡ n → zs ≡ putting (λ c. c.number) c left → After (channel_rows xs) (shall n (Some (held c))) (channel_rows zs)
  came c zs named put =
      let ms = shall n (Some (held c)) in
      let row : Numbered Holding = record { number = n; value = held c } in
      let same : channel_row c ≡ row = ap (λ (k : ℕ). record { number = k; value = held c }) named in
      let rows : channel_rows zs ≡ merging ms (channel_rows xs) =
      ap channel_rows put ∙ map-putting channel_row c left ∙ ap (λ (x : Numbered Holding). putting number_of x (channel_rows left)) same ∙ ap (putting number_of row) (others (Some (held c))) in
      subst (After (channel_rows xs) ms) (sym rows) (merging_after ms (channel_rows xs) refl rise)

-- what is found in the slice is what is held
pub found : (slice xs : List Channel) (n : ℕ) (o : Option Channel) → slice ≡ xs → o ≡ find_in (λ c. c.number) slice n → at (channel_rows xs) n ≡ option_map held o
found slice xs n o s e = found_at channel_row xs n ∙ sym (ap (option_map held) (e ∙ ap (λ (u : List Channel). find_in (λ c. c.number) u n) s))

-- something is found where something is held
pub some_held : (o : Option Channel) → is_some o ≡ is_some (option_map held o)
some_held None = refl
some_held (Some c) = refl

-- what is found has the number
pub found_number : (xs : List Channel) (n : ℕ) (c : Channel) → find_in (λ c. c.number) xs n ≡ Some c → c.number ≡ n
found_number [] n c e = absurd (let z : ◌≡◌ {A = ℕ} 0 1 = cc in omega arith)
found_number (x ∷ xs) n c e = elim (cases_Bool (eqb x.number n)) [
  | inl t ↦
      let same : Some x ≡ Some c = sym (cond-true (eqb x.number n) (Some x) (find_in (λ c. c.number) xs n) t) ∙ e in
      let here : x ≡ c = cc in
      sym (ap (λ (y : Channel). y.number) here) ∙ eqb-true _ _ t
  | inr t ↦ found_number xs n c (sym (cond-false (eqb x.number n) (Some x) (find_in (λ c. c.number) xs n) t) ∙ e)
]

pub numbered_as : (o : Option Channel) (m n : ℕ) → m ≡ n → IfSome o (λ d. d.number ≡ m) → IfSome o (λ d. d.number ≡ n)
numbered_as o m n e h = subst (λ (k : ℕ). IfSome o (λ d. d.number ≡ k)) e h

module _ (xs : List (Numbered Holding)) (e : Event) (n : ℕ) where
  pub none_held : at xs n ≡ None → First (event_checks xs e n) Unknown
  none_held none = inl (refl, λ h. let some = h.1 in let z : ◌≡◌ {A = ℕ} 0 1 = cc in omega arith)

  module _ (c : Channel) (here : at xs n ≡ Some (held c)) where
    pub other_state : (k : Refusal) → k ≡ WrongState → (c.state ≡ expects e → ⊥) → First (event_checks xs e n) k
    other_state k is ne =
        inr ((held c, here), inl (is, λ h. let same : Some (held c) ≡ Some (holding h.0 (expects e)) = sym here ∙ h.1 in let both : held c ≡ holding h.0 (expects e) = cc in ne (ap (λ (x : Holding). x.state) both)))

    pub in_state : c.state ≡ expects e → Passed (event_checks xs e n)
    in_state is = ((held c, here), ((c.proposal, here ∙ ap (λ (s : State). Some (holding c.proposal s)) is), tt))

    pub amended_as : (o : Option Channel) (ys : List (Numbered Holding)) → becomes e (Some (held c)) ≡ option_map held o → After xs (shall n (option_map held o)) ys → After xs (shall n (becomes e (at xs n))) ys
    amended_as o ys is after = subst (λ (h : Option Holding). After xs (shall n h) ys) (sym (ap (becomes e) here ∙ is)) after

-- more than 16 in the code are more than 16
pub too_many : (xs zs : List (Numbered Holding)) (ms : List (Mention Holding)) (list : List Channel) → After xs ms (channel_rows list) → 16 < length list → After xs ms zs → 16 < length zs
too_many xs zs ms list a many b = omega (arith, ap length (after_one xs ms (channel_rows list) zs a b), length-map list channel_row)

-- a channel of the list by rank
pub rank_at : (xs : List Channel) (k : ℕ) (c : Channel) → k < length xs → c ≡ get_or xs k c → At (channel_row c) (channel_rows xs) k
rank_at xs k c h e = at_mapped channel_row xs k c (h, sym e)

-- at most 16 are held
pub few_held : (c : Channels) → length (channels_of c) ≤ 16
few_held c = omega (arith, c.few, length-map (items c.list) channel_row)
