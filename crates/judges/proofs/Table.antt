-- The standard judge's tests mean its table.
use Rattle.std.proofs.Common.{◌≡◌, ℕ, ◌/◌, ◌%◌, true, eqb, ⊎_elim, arith}
use Rattle.std.proofs.lemmas.Bool.{and_from, and_parts, cases_eq, eq-eqb, eqb-true}
use Rattle.std.proofs.lemmas.Bool.Decides.{nat_tests}
use Rattle.judges.specs.Laws.{StandardLawfulMeans, StandardCoversMeans}
use Rattle.judges.specs.Rules.{Frames, Pictures, Lawful, Serves, PicturesServe, Covers}
use Rattle.judges.specs.Tests.{frames, pictures, serving, lawful_value, limits_kept, standard_covers}
use Rattle.judges.specs.declared.words.Capability.{Capability}
use Rattle.judges.specs.declared.words.Proposal.{Proposal}

frames_to : (p : ℕ) → frames p ≡ true → Frames p
frames_to p h = record { some = grind (arith, nat_tests); most = grind (arith, nat_tests) }

pictures_to : (p : ℕ) → pictures p ≡ true → Pictures p (p / 16) (p % 16)
pictures_to p h =
    let some : p ≡ 0 → ⊥ = grind (arith, nat_tests) in
    record {
      held = omega arith;
      cif_most = grind (arith, nat_tests);
      qcif_most = grind (arith, nat_tests);
      present = λ a b. omega arith;
    }

pictures_from : (p cif qcif : ℕ) → Pictures p cif qcif → pictures p ≡ true
pictures_from p cif qcif h = grind (arith, nat_tests)

serves_to : (have want : ℕ) → serving have want ≡ true → Serves have want
serves_to have want h = record { there = λ l. grind (arith, nat_tests); soon = λ l. grind (arith, nat_tests) }

lawful_to : (kind p q : ℕ) → lawful_value kind p q ≡ true → Lawful kind p q
lawful_to kind p q h =
    ⊎_elim
    (λ (e : kind ≡ 4).
    Lawful.h261 e (p / 16) (p % 16) (pictures_to p (grind (arith, nat_tests))) (grind (arith, nat_tests)) (grind (arith, nat_tests)))
    (λ (other : kind ≡ 4 → ⊥). grind (arith, nat_tests, frames_to, Lawful.g711_a_law, Lawful.g711_mu_law, Lawful.g723_1, Lawful.t120))
    (cases_eq kind 4)

lawful_from : (kind p q : ℕ) → Lawful kind p q → lawful_value kind p q ≡ true
lawful_from kind p q h = grind (arith, nat_tests, pictures_from)

pub standard_lawful_means : StandardLawfulMeans
standard_lawful_means c = (lawful_to c.kind c.p c.q, lawful_from c.kind c.p c.q)

pictures_serve : (p wanted : ℕ) → pictures p ≡ true → pictures wanted ≡ true → serving (p / 16) (wanted / 16) ≡ true → serving (p % 16) (wanted % 16) ≡ true → PicturesServe p wanted
pictures_serve p wanted had asked cif qcif =
    record {
      cif = p / 16;
      qcif = p % 16;
      wanted_cif = wanted / 16;
      wanted_qcif = wanted % 16;
      had = pictures_to p had;
      asked = pictures_to wanted asked;
      cif_serves = serves_to (p / 16) (wanted / 16) cif;
      qcif_serves = serves_to (p % 16) (wanted % 16) qcif;
    }

-- what is covered keeps the limits of its kind, and the other way round
limits_to : (c : Capability) (w : Proposal) → c.kind ≡ w.kind → lawful_value c.kind c.p c.q ≡ true → lawful_value w.kind w.p w.q ≡ true → limits_kept c w ≡ true → Covers c w
limits_to c w same had asked h =
    record {
      same_kind = same;
      capability_lawful = lawful_to c.kind c.p c.q had;
      proposal_lawful = lawful_to w.kind w.p w.q asked;
      g711_a_law_frames = λ e. grind (arith, nat_tests);
      g711_mu_law_frames = λ e. grind (arith, nat_tests);
      g723_1_frames = λ e. grind (arith, nat_tests);
      g723_1_silence = λ e. grind (arith, nat_tests);
      h261_pictures = λ e. pictures_serve c.p w.p (grind (arith, nat_tests)) (grind (arith, nat_tests)) (grind (arith, nat_tests)) (grind (arith, nat_tests));
      h261_rate = λ e. grind (arith, nat_tests);
      t120_rate = λ e. grind (arith, nat_tests);
    }

pictures_served : (p wanted : ℕ) → PicturesServe p wanted → (serving (p / 16) (wanted / 16) ≡ true) × (serving (p % 16) (wanted % 16) ≡ true)
pictures_served p wanted h = (
  grind (arith, nat_tests, h.cif_serves.there, h.cif_serves.soon),
  grind (arith, nat_tests, h.qcif_serves.there, h.qcif_serves.soon),
)

limits_from : (c : Capability) (w : Proposal) → Covers c w → Lawful c.kind c.p c.q → limits_kept c w ≡ true
limits_from c w h l = grind (arith, nat_tests, h.h261_pictures, pictures_served)

covers_to : (c : Capability) (w : Proposal) → standard_covers c w ≡ true → Covers c w
covers_to c w h =
    let same-had-asked = and_parts _ (limits_kept c w) h in
    let same-had = and_parts _ (lawful_value w.kind w.p w.q) same-had-asked.0 in
    let same = and_parts (eqb c.kind w.kind) _ same-had.0 in
    limits_to c w (eqb-true c.kind w.kind same.0) same.1 same-had.1 same-had-asked.1

covers_from : (c : Capability) (w : Proposal) → Covers c w → standard_covers c w ≡ true
covers_from c w h =
    let same = eq-eqb c.kind w.kind h.same_kind in
    let had = lawful_from c.kind c.p c.q h.capability_lawful in
    let asked = lawful_from w.kind w.p w.q h.proposal_lawful in
    let kept = limits_from c w h h.capability_lawful in
    and_from _ _ (and_from _ _ (and_from _ _ same had) asked) kept

pub standard_covers_means : StandardCoversMeans
standard_covers_means c w = (covers_to c w, covers_from c w)
