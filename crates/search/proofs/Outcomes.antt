-- What is found descriptor by descriptor, in the subject's words.
use Rattle.std.proofs.Common.{◌≡◌, ℕ, zero, suc, ◌+◌, ◌<◌, ◌≤◌, Bool, true, leb, ◌⊎◌, List, [], ◌∷◌, length, get_or, None, sym, refl, ap, ◌∙◌, subst, inl, inr, arith}
use Rattle.std.proofs.lemmas.Bool.{cases_eq, cases_lt, and_parts}
use Rattle.bounded.specs.Bit.{bit}
use Rattle.judges.specs.declared.words.Capability.{Capability}
use Rattle.judges.specs.declared.words.Proposal.{Proposal}
use Rattle.matching.specs.Board as board
use Rattle.keyed.specs.Keyed.{rising, numbers}
use Rattle.table.specs.Sets.{Standing}
use Rattle.search.specs.declared.found.NoteRow.{NoteRow}
use Rattle.search.specs.Answers.{Stands, CarriedBy, NoneCarries, Answer, Noted, Notes}
use Rattle.search.specs.Carrying.{usable, grouped}
use Rattle.search.specs.Filling.{Covered, meeting, uses}
use Rattle.search.specs.Lists.{At, In, passes_at}
use Rattle.search.specs.Settling.{meets_at, BlockedBy}
use Rattle.search.proofs.Bridge.{at_some, carries_is, carries_same, reach_many, blocks_is, blocks_same, blocks_refute, reach_same}
use Rattle.search.proofs.Covers.{at_one}
use Rattle.search.proofs.Meets.{below, meeting_usable}
use Rattle.search.proofs.Pairs.{Paired}
use Rattle.search.proofs.Places.{pass_at}

pass_ext : {X : Type 0} (P Q : X → Bool) (xs : List X) (k : ℕ) → ((x : X) → P x ≡ Q x) → passes_at P xs k ≡ passes_at Q xs k
pass_ext P Q [] k h = refl
pass_ext P Q (x ∷ xs) zero h = h x
pass_ext P Q (x ∷ xs) (suc k) h = pass_ext P Q xs k h

-- by rising number, a later place has a greater number
later : (from : ℕ) (ds : List Stands) → rising from (numbers ds) ≡ true → (i j : ℕ) (d e : Stands) → At d ds i → At e ds j → i < j → d.number < e.number
later from [] up i j d e a b l = absurd (omega (arith, a.0))
later from (x ∷ xs) up i zero d e a b l = absurd (omega arith)
later from (x ∷ xs) up zero (suc j) d e a b l =
    let two = and_parts (leb from x.number) (rising (x.number + 1) (numbers xs)) up in
    omega (arith, ap (λ (y : Stands). y.number) a.1, below (x.number + 1) xs j e two.1 (omega (arith, b.0), b.1))
later from (x ∷ xs) up (suc i) (suc j) d e a b l =
    let two = and_parts (leb from x.number) (rising (x.number + 1) (numbers xs)) up in
    later (x.number + 1) xs two.1 i j d e (omega (arith, a.0), a.1) (omega (arith, b.0), b.1) (omega arith)

-- a list has something or nothing
pub some_or_none : {X : Type 0} (xs : List X) → (xs ≡ []) ⊎ (0 < length xs)
some_or_none [] = inl refl
some_or_none (x ∷ xs) = inr (omega arith)

module _ (covers : Capability → Proposal → Bool) (t : Standing) (ps : List Proposal) where
  -- a descriptor with a blocking group does not carry
  pub refuted : (d : Stands) (w : NoteRow) → Noted covers t ps d w → CarriedBy covers t ps d → ⊥
  refuted d w n c = blocks_refute (usable covers t.entries) d.value ps (bit w.group) n.blocks c

  -- the first i descriptors have their rows
  abbrev pub Shown : ℕ → List NoteRow → Type 0
  Shown i ws = Paired (λ _ d w. Noted covers t ps d w) t.descriptors i ws

  pub shown_all : (i : ℕ) (ws : List NoteRow) → length t.descriptors ≡ i → Shown i ws → Notes covers t ps t.descriptors ws
  shown_all i ws e s = record { long = s.long ∙ sym e; each = λ k d w a b. s.each k d w (omega (arith, a.0)) a b }

  -- where each descriptor has its row, none carries
  pub notes_refute : (ws : List NoteRow) → Notes covers t ps t.descriptors ws → NoneCarries covers t ps
  notes_refute ws n d a c =
      let w = at_some ws a.0 (omega (arith, n.long, a.1.0)) in
      refuted d w.0 (n.each a.0 d w.0 a.1 w.1) c

  -- where none is found, either nothing is asked and nothing stands, or none carries
  pub unanswered : (ws : List NoteRow) → Notes covers t ps t.descriptors ws → Answer covers t ps None
  unanswered ws n = elim (some_or_none ps) [
    | inr some ↦ inr ((λ e. omega (arith, ap length e)), notes_refute ws n)
    | inl none ↦ elim (some_or_none t.descriptors) [
      | inl empty ↦ inl (none, empty)
      | inr stands ↦
          let d = at_some t.descriptors 0 stands in
          let w = at_some ws 0 (omega (arith, n.long)) in
          let b = (n.each 0 d.0 w.0 d.1 w.1).blocks.some in
          absurd (omega (arith, ap (λ (u : List Proposal). length (grouped (bit w.0.group) u)) none))
    ]
  ]

  -- none of the first i descriptors carries
  abbrev pub Past : ℕ → Type 0
  Past i = (k : ℕ) (d : Stands) → k < i → At d t.descriptors k → CarriedBy covers t ps d → ⊥

  pub shown_past : (i : ℕ) (ws : List NoteRow) → Shown i ws → Past i
  shown_past i ws s k d l a c = let w = at_some ws k (omega (arith, s.long)) in refuted d w.0 (s.each k d w.0 l a w.1) c

  pub past_more : (i : ℕ) (d : Stands) → At d t.descriptors i → (CarriedBy covers t ps d → ⊥) → Past i → Past (i + 1)
  past_more i d a not past k e l b c = elim (cases_eq k i) [
    | inl q ↦ not (subst (CarriedBy covers t ps) (at_one t.descriptors i e d (subst (λ x. At e t.descriptors x) q b) a) c)
    | inr ne ↦ past k e (omega arith) b c
  ]

  -- the first descriptor that carries has the smallest number
  pub least : rising 0 (numbers t.descriptors) ≡ true → (i : ℕ) (d : Stands) → At d t.descriptors i → Past i → (e : Stands) → In e t.descriptors → CarriedBy covers t ps e → d.number ≤ e.number
  least up i d a past e b k = elim (cases_lt b.0 i) [
    | inl l ↦ absurd (past b.0 e l b.1 k)
    | inr l ↦ elim (cases_eq i b.0) [
      | inl q ↦ omega (arith, ap (λ (y : Stands). y.number) (at_one t.descriptors i d e a (subst (λ x. At e t.descriptors x) (sym q) b.1)))
      | inr ne ↦ omega (arith, later 0 t.descriptors up i b.0 d e a b.1 (omega arith))
    ]
  ]

  -- the masks of the rows are those of the proposals
  module _ (up : rising 0 (numbers t.entries) ≡ true) (masks : List ℕ) (cov : Covered covers t.entries ps masks) where
    pub same : (sets : List (List ℕ)) (r s : ℕ) → r < length ps → meets_at t.entries sets masks r s ≡ uses (usable covers t.entries) sets ps r s
    same sets r s l =
        let p = at_some ps r l in
        pass_ext (λ S. meeting t.entries S (get_or masks r 0)) (λ S. usable covers t.entries S p.0) sets s (λ S. meeting_usable covers t.entries S p.0 (get_or masks r 0) up (cov.each r p.0 p.1))
        ∙ sym (pass_at (λ (q : Proposal). passes_at (λ S. usable covers t.entries S q) sets s) ps r p.0 p.1)

    pub carried : (d : Stands) → board.Carries (meets_at t.entries d.value masks) (length masks) (length d.value) → CarriedBy covers t ps d
    carried d c =
        carries_is (usable covers t.entries) d.value ps
        (carries_same (meets_at t.entries d.value masks) (uses (usable covers t.entries) d.value ps) (length ps) (length d.value) (same d.value)
        (subst (λ x. board.Carries (meets_at t.entries d.value masks) x (length d.value)) cov.long c))

    pub noted : (d : Stands) (w : NoteRow) → w.descriptor ≡ d.number → BlockedBy (meets_at t.entries d.value masks) (length masks) (length d.value) w.group w.sets → Noted covers t ps d w
    noted d w e b =
        let fit = usable covers t.entries in
        let c : BlockedBy (meets_at t.entries d.value masks) (length ps) (length d.value) w.group w.sets = subst (λ x. BlockedBy (meets_at t.entries d.value masks) x (length d.value) w.group w.sets) cov.long b in
        record {
          number = e;
          blocks = blocks_is fit d.value ps (bit w.group) c.inside (blocks_same (meets_at t.entries d.value masks) (uses fit d.value ps) (length ps) (length d.value) (same d.value) (bit w.group) c.blocks);
          sets = c.sets ∙ reach_same (meets_at t.entries d.value masks) (uses fit d.value ps) (length ps) (length d.value) (same d.value) (bit w.group) ∙ reach_many fit d.value ps (bit w.group);
        }
