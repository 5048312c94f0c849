-- The same calls have one history.
use Rattle.std.proofs.Common.{◌≡◌, ℕ, Bool, true, List, [], ◌∷◌, ◌++◌, length, Some, None, Option, sym, refl, ap, ◌∙◌, subst, arith}
use Rattle.channels.specs.Holdings.{Holding, proposals}
use Rattle.judges.specs.declared.words.Capability.{Capability}
use Rattle.judges.specs.declared.words.Proposal.{Proposal}
use Rattle.keyed.specs.Keyed.{Numbered, at, rising, numbers}
use Rattle.keyed.proofs.Merged.{same_rows}
use Rattle.modes.proofs.OneMode.{smallest_one, first_one_carried}
use Rattle.refusals.proofs.Firsts.{first_one, first_fails}
use Rattle.search.specs.declared.found.NoteRow.{NoteRow}
use Rattle.session.specs.Calls.{Call, set, ask, accept, decline, close, request, Answer, refused, opened, available, went}
use Rattle.session.specs.Rules.{Situation, checks, Result, Ends, refusal, result, Wrote}
use Rattle.table.specs.Sets.{Standing, message, Merged}
use Rattle.table.proofs.Judged.{same_standing, one_after}
use Rattle.runs.specs.History.{Ended, ended, calls, is_set, StandsAfter, nothing, merged, stays, HeldAfter, Situated, Reckoned, start, next}
use Rattle.runs.proofs.After.{concerned_some}

same_option : (o q : Option Holding) → ((x : Holding) → o ≡ Some x → q ≡ Some x) → ((x : Holding) → q ≡ Some x → o ≡ Some x) → o ≡ q
same_option None None f g = refl
same_option None (Some y) f g = g y refl
same_option (Some x) q f g = sym (f x refl)

pub held_one : {h : List Ended} {xs ys : List (Numbered Holding)} → HeldAfter h xs → HeldAfter h ys → xs ≡ ys
held_one {h} {xs} {ys} a b =
    same_rows 0 0 xs ys a.rises b.rises (λ n. same_option (at xs n) (at ys n) (λ x e. b.each n x (a.only n x e)) (λ x e. a.each n x (b.only n x e)))

pub stands_one : {h : List Ended} {t u : Standing} → StandsAfter h t → StandsAfter h u → t ≡ u
stands_one (nothing p q) (nothing r s) = same_standing _ _ (p ∙ sym r) (q ∙ sym s)
stands_one (merged {m = m} {t = t} {u = u} w s f) (merged {t = t2} {u = u2} v r g) =
    let same : t2 ≡ t = sym (stands_one s r) in
    one_after t (message m) u u2 f (subst (λ (z : Standing). Merged z (message m) u2) same g)
stands_one (merged w s f) (stays r d) = absurd (d w is_set)
stands_one (stays s d) (merged w r f) = absurd (d w is_set)
stands_one (stays s d) (stays r e) = stands_one s r

pub situated_one : {h : List Ended} {s t : Situation} → Situated h s → Situated h t → s ≡ t
situated_one {h} {s} {t} a b =
    let p : s.channels ≡ t.channels = held_one a.channels b.channels in
    let q : s.table ≡ t.table = stands_one a.table b.table in
    let l : s ≡ record { channels = t.channels; table = s.table } = ap (λ (xs : List (Numbered Holding)). record { channels = xs; table = s.table }) p in
    l ∙ ap (λ (u : Standing). record { channels = t.channels; table = u }) q

module _ (lawful : Capability → Bool) (covers : Capability → Proposal → Bool) (own : ℕ) (s : Situation) where
  pub result_went : (c : Call) (a : Answer) → Result lawful covers own s c a → went a ≡ true
  result_went (set m w) a e = ap went e
  result_went (ask n p note w) a (d, f, e) = ap went e
  result_went (accept i n) a e = ap went e
  result_went (decline i n) a e = ap went e
  result_went (close n) a e = ap went e
  result_went (request m w) a (v, f, e) = ap went e

  module _ (up : rising 0 (numbers s.channels) ≡ true) where
    result_one : (c : Call) (a b : Answer) → Result lawful covers own s c a → Result lawful covers own s c b → a ≡ b
    result_one (set m w) a b p q = p ∙ sym q
    result_one (ask n p note w) a b (d, f, e) (d2, f2, e2) =
        let (ys, after) = concerned_some s.channels n p up in
        e ∙ ap opened (smallest_one covers s.table (proposals ys) d d2 (f ys after) (f2 ys after)) ∙ sym e2
    result_one (accept i n) a b p q = p ∙ sym q
    result_one (decline i n) a b p q = p ∙ sym q
    result_one (close n) a b p q = p ∙ sym q
    result_one (request m w) a b (v, f, e) (v2, f2, e2) = e ∙ ap available (first_one_carried covers s.table _ v v2 f f2) ∙ sym e2

    pub ends_one : {c : Call} {a b : Answer} → Ends lawful covers own s c a → Ends lawful covers own s c b → a ≡ b
    ends_one {c} (refusal {k = j} f) (refusal {k = k} g) = ap refused (first_one (checks lawful covers own s c) j k f g)
    ends_one {c} (refusal {k = k} f) (result p r) = absurd (first_fails (checks lawful covers own s c) k f p)
    ends_one {c} (result p r) (refusal {k = k} f) = absurd (first_fails (checks lawful covers own s c) k f p)
    ends_one {c} {a} {b} (result p r) (result q t) = result_one c a b r t

head_one : {c d : Call} {cs ds : List Call} → c ∷ cs ≡ d ∷ ds → c ≡ d
head_one e = cc

tail_one : {c d : Call} {cs ds : List Call} → c ∷ cs ≡ d ∷ ds → cs ≡ ds
tail_one e = cc

not_empty : {c : Call} {cs : List Call} → c ∷ cs ≡ [] → ⊥
not_empty {c} {cs} e = let z : ◌≡◌ {A = ℕ} 0 1 = cc in omega arith

module _ (lawful : Capability → Bool) (covers : Capability → Proposal → Bool) (own : ℕ) where
  next_one : (h k : List Ended) (s t : Situation) (c d : Call) (a b : Answer) → h ≡ k → c ≡ d → Situated h s → Ends lawful covers own s c a → Situated k t → Ends lawful covers own t d b
      → ended c a ∷ h ≡ ended d b ∷ k
  next_one h k s t c d a b e f sh r tk q =
      let same : t ≡ s = situated_one (subst (λ (z : List Ended). Situated z t) (sym e) tk) sh in
      let q1 : Ends lawful covers own s d b = subst (λ (z : Situation). Ends lawful covers own z d b) same q in
      let q2 : Ends lawful covers own s c b = subst (λ (z : Call). Ends lawful covers own s z b) (sym f) q1 in
      let said : a ≡ b = ends_one lawful covers own s sh.channels.rises r q2 in
      ap (λ (z : Call). ended z a ∷ h) f ∙ ap (λ (z : Answer). ended d z ∷ h) said ∙ ap (λ (z : List Ended). ended d b ∷ z) e

  pub history_one : {h k : List Ended} {ns ms : List (List NoteRow)} → Reckoned lawful covers own h ns → Reckoned lawful covers own k ms → calls h ≡ calls k → h ≡ k
  history_one start start e = refl
  history_one start (next r s p q) e = absurd (not_empty (sym e))
  history_one (next r s p q) start e = absurd (not_empty e)
  history_one (next {h} {ns} {s} {c} {a} r sh p w) (next {h = k} {s = t} {c = d} {a = b} r2 tk p2 w2) e =
      next_one h k s t c d a b (history_one r r2 (tail_one e)) (head_one e) sh p tk p2

  -- a moment of a history: the situation just before a call, how it ended and what it left in its note
  pub moment : (g : List Ended) (c : Call) (a : Answer) (k : List Ended) (ms : List (List NoteRow)) (left : List NoteRow) (js : List (List NoteRow)) → length ms ≡ length g → Reckoned lawful covers own (g ++ (ended c a ∷ k)) (ms ++ (left ∷ js))
      → (s : Situation) × Situated k s × Ends lawful covers own s c a × Wrote covers s c a left
  moment [] c a k [] left js e (next {s = s} r sh p w) = (s, sh, p, w)
  moment [] c a k (m ∷ ms) left js e r = absurd (omega arith)
  moment (x ∷ g) c a k [] left js e r = absurd (omega arith)
  moment (x ∷ g) c a k (m ∷ ms) left js e (next r sh p w) = moment g c a k ms left js (omega arith) r

  pub judged : {h : List Ended} {ns : List (List NoteRow)} → Reckoned lawful covers own h ns → (g : List Ended) (c : Call) (a : Answer) (k : List Ended) (ms : List (List NoteRow)) (left : List NoteRow) (js : List (List NoteRow)) (v : Situation)
      → h ≡ g ++ (ended c a ∷ k) → ns ≡ ms ++ (left ∷ js) → length ms ≡ length g → Situated k v → Ends lawful covers own v c a × Wrote covers v c a left
  judged {h} {ns} r g c a k ms left js v e f l sv =
      let r1 : Reckoned lawful covers own (g ++ (ended c a ∷ k)) ns = subst (λ (z : List Ended). Reckoned lawful covers own z ns) e r in
      let r2 : Reckoned lawful covers own (g ++ (ended c a ∷ k)) (ms ++ (left ∷ js)) = subst (Reckoned lawful covers own (g ++ (ended c a ∷ k))) f r1 in
      let m = moment g c a k ms left js l r2 in
      let same : m.0 ≡ v = situated_one m.1 sv in
      (subst (λ (z : Situation). Ends lawful covers own z c a) same m.2, subst (λ (z : Situation). Wrote covers z c a left) same m.3)
