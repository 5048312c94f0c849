-- Where each item that is read of a message is put at its place, the list is the merged one.
use Rattle.std.proofs.Common.{◌≡◌, ℕ, ◌<◌, ◌≤◌, Bool, true, false, List, [], ◌∷◌, map, length, Ok, Err, Some, None, Option, Result, sym, refl, ap, ◌∙◌, subst, inl, inr, arith}
use Rattle.std.specs.Option.{option_map}
use Rattle.std.specs.Result.{MatchResult, IsOk, OnOk, result_or}
use Rattle.std.proofs.lemmas.List.{length-map}
use Rattle.std.proofs.lemmas.Bool.{cases_lt, false≢true}
use Rattle.bounded.specs.declared.held.Bounded.{Bounded}
use Rattle.bounded.specs.declared.held.NoRoom.{NoRoom}
use Rattle.bounded.specs.Items.{items}
use Rattle.refusals.specs.declared.refusal.Refusal.{Refusal}
use Rattle.records.specs.declared.held.Cursor.{Cursor}
use Rattle.records.specs.declared.held.Said.{Said}
use Rattle.records.specs.Layout.{Rec}
use Rattle.records.specs.Reads.{rec, says}
use Rattle.keyed.specs.Keyed.{Numbered, Mention, among, mentioned}
use Rattle.keyed.specs.Merge.{keeping, added, merging}
use Rattle.keyed.proofs.Views.{map-putting, kept_unnamed, length-added}
use Rattle.table.specs.Turns.{Brings, Places, Merges}

-- what a list says that has no room
pub full : (n cap : ℕ) → (n < cap → false ≡ true) → cap ≤ n
full n cap none = elim (cases_lt n cap) [ inl l ↦ absurd (false≢true (none l)) | inr l ↦ l ]

-- what `put` answers, told again with a refusal of the caller's
pub told_ok : (r : Result (Unit {0}) NoRoom) (k : Refusal) (s : Result (Unit {0}) Refusal) (P : Type 0) → s ≡ result_or r (Err k) → IsOk s → OnOk r P → P
told_ok (Ok u) k s P e is h = h
told_ok (Err n) k s P e is h = absurd (false≢true (subst IsOk e is))

pub told_err : (r : Result (Unit {0}) NoRoom) (k j : Refusal) (s : Result (Unit {0}) Refusal) → s ≡ result_or r (Err k) → s ≡ Err j → (IsOk r → false ≡ true) × (j ≡ k)
told_err (Ok u) k j s e f = absurd (false≢true (subst IsOk (sym e ∙ f) refl))
told_err (Err n) k j s e f = (λ is. is, cc)

module _ {X V : Type 0} (view : X → Numbered V) (said_in : List Rec → List (Mention V)) (reads : Said → Cursor → Option X → Type 0) (fit : List Rec → Bool)
    (rest : (r : Rec) (rs : List Rec) → fit (r ∷ rs) ≡ true → fit rs ≡ true)
    (brings : (s : Said) (left : Cursor) (o : Option X) → fit (rec s ∷ says left) ≡ true → reads s left o → Brings said_in (rec s) (says left) (option_map view o)) (all : List Rec) (fits : fit all ≡ true) where
  abbrev key : X → ℕ
  key x = (view x).number

  -- what is left to add to the list so far makes the same as all that there was to add
  placed : (kept : List X) (rs : List Rec) (xs : List X) → Places key reads all kept rs xs → (fit rs ≡ true) × (added (said_in rs) (map view xs) ≡ added (said_in all) (map view kept))
  placed kept rs xs (Places.begun ys e) = (fits, ap (λ (u : List X). added (said_in all) (map view u)) e)
  placed kept _ _ (Places.passed s left rs xs e read p) =
      let i = placed kept rs xs p in
      let f : fit (rec s ∷ says left) ≡ true = ap fit (sym e) ∙ i.0 in
      (rest _ _ f, sym (brings s left None f read (map view xs)) ∙ ap (λ (u : List Rec). added (said_in u) (map view xs)) (sym e) ∙ i.1)
  placed kept _ _ (Places.put s left x rs xs ys e read q p) =
      let i = placed kept rs xs p in
      let f : fit (rec s ∷ says left) ≡ true = ap fit (sym e) ∙ i.0 in (
        rest _ _ f,
        ap (λ (u : List X). added (said_in (says left)) (map view u)) q
            ∙ ap (added (said_in (says left))) (map-putting view x xs)
            ∙ sym (brings s left (Some x) f read (map view xs))
            ∙ ap (λ (u : List Rec). added (said_in u) (map view xs)) (sym e) ∙ i.1,
      )

  module _ (none : said_in [] ≡ []) (N : ℕ) (held : ℕ → Bool) (before : Bounded X N) (marks : (n : ℕ) → held n ≡ among n (mentioned (said_in all))) where
    kept_rows : added (said_in all) (map view (keeping key held (items before))) ≡ merging (said_in all) (map view (items before))
    kept_rows = ap (added (said_in all)) (kept_unnamed view (said_in all) held (items before) (keeping key held (items before)) marks refl)

    -- so the list is merged, or is refused as too long
    pub merges : (k : Refusal) (r : Result (Bounded X N) Refusal)
        → MatchResult r (λ b. Places key reads all (keeping key held (items before)) [] (items b))
        (λ j. (j ≡ k) × ((rs : List Rec) × (xs : List X) × (N < length xs) × Places key reads all (keeping key held (items before)) rs xs))
        → Merges view (said_in all) before k r
    merges k (Ok b) p = ap (λ (ms : List (Mention V)). added ms (map view (items b))) (sym none) ∙ (placed _ _ _ p).1 ∙ kept_rows
    merges k (Err j) (e, (rs, xs, many, p)) = (e, omega (arith, many, ap length ((placed _ _ _ p).1 ∙ kept_rows), length-added (said_in rs) (map view xs), length-map xs view))
