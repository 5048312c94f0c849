-- What is carried, and what an entry covers.
use Rattle.std.proofs.Common.{◌≡◌, ℕ, zero, suc, Bool, true, false, ◌||◌, List, [], ◌∷◌, map, length, sym, refl, ap, ◌∙◌, inl, inr, arith}
use Rattle.std.specs.List.{list_any}
use Rattle.std.proofs.lemmas.List.{length-map}
use Rattle.std.proofs.lemmas.Bool.{both_ways}
use Rattle.channels.specs.declared.words.Channel.{Channel}
use Rattle.channels.specs.Holdings.{Holding, channel_rows, proposals}
use Rattle.judges.specs.declared.words.Capability.{Capability}
use Rattle.judges.specs.declared.words.Proposal.{Proposal}
use Rattle.keyed.specs.Keyed.{Numbered}
use Rattle.search.specs.declared.found.NoteRow.{NoteRow}
use Rattle.search.specs.Answers.{Smallest, Notes}
use Rattle.search.specs.Lists.{In}
use Rattle.search.proofs.Outcomes.{notes_refute}
use Rattle.table.specs.declared.held.Entry.{Entry}
use Rattle.table.specs.Rows.{entry_row, entry_rows}
use Rattle.table.specs.Sets.{Standing}
use Rattle.session.specs.Rules.{Whether, Carried}

-- the proposals of channels are those that they ask by
pub same_proposals : (cs : List Channel) → map (λ (c : Channel). c.proposal) cs ≡ proposals (channel_rows cs)
same_proposals [] = refl
same_proposals (c ∷ cs) = ap (λ (ps : List Proposal). c.proposal ∷ ps) (same_proposals cs)

pub none_proposed : (xs : List (Numbered Holding)) → length xs ≡ 0 → proposals xs ≡ []
none_proposed [] e = refl
none_proposed (x ∷ xs) e = absurd (omega arith)

pub some_proposed : (xs : List (Numbered Holding)) → (length xs ≡ 0 → ⊥) → proposals xs ≡ [] → ⊥
some_proposed xs some e = some (sym (length-map xs (λ x. x.value.proposal)) ∙ ap length e)

module _ (covers : Capability → Proposal → Bool) (t : Standing) where
  -- where each descriptor has its row of a note, what is proposed is not carried
  pub not_carried : (ps : List Proposal) (ws : List NoteRow) → (ps ≡ [] → ⊥) → Notes covers t ps t.descriptors ws → Carried covers t ps → ⊥
  not_carried ps ws some n (inl none) = some none
  not_carried ps ws some n (inr (d, i, c)) = notes_refute covers t ps ws n d i c

  pub carried_by : (ps : List Proposal) (n : ℕ) → Smallest covers t ps n → Carried covers t ps
  carried_by ps n s = inr (s.descriptor, s.stands, s.carries)

module _ (covers : Capability → Proposal → Bool) (p : Proposal) where
  -- one of the entries covers it
  abbrev pub Among : List (Numbered Capability) → Type 0
  Among rows = (y : Numbered Capability) × In y rows × (covers y.value p ≡ true)

  pub whether_among : (es : List Entry) → Whether (list_any (λ (e : Entry). covers e.capability p) es) (Among (entry_rows es))
  whether_among [] = λ (y, (k, (h, q)), c). absurd (omega arith)
  whether_among (e ∷ es) = step (covers e.capability p) (list_any (λ (x : Entry). covers x.capability p) es) refl (whether_among es)
    where
      not_either : covers e.capability p ≡ false → (Among (entry_rows es) → ⊥) → Among (entry_row e ∷ entry_rows es) → ⊥
      not_either c none (y, (zero, (h, q)), d) = both_ways (covers y.value p) (ap (λ (x : Numbered Capability). covers x.value p) (sym q) ∙ c) d
      not_either c none (y, (suc k, (h, q)), d) = none (y, (k, (omega (arith, h), q)), d)

      step : (b r : Bool) → covers e.capability p ≡ b → Whether r (Among (entry_rows es)) → Whether (b || r) (Among (entry_row e ∷ entry_rows es))
      step true r c w = (entry_row e, (0, (omega arith, refl)), c)
      step false true c (y, (k, (h, q)), d) = (y, (suc k, (omega (arith, h), q)), d)
      step false false c w = not_either c w
