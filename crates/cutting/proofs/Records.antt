-- The records at the front of an input, and the messages that end among them.
use Rattle.std.proofs.Common.{◌≡◌, ℕ, zero, suc, ◌+◌, ◌-◌, ◌*◌, ◌<◌, ◌≤◌, Bool, eqb, ◌||◌, List, [], length, get_or, drop, Some, None, sym, ap, ◌∙◌, inl, arith, lit<, get_or-take}
use Rattle.std.proofs.lemmas.Bool.{eqb-true}
use Rattle.std.proofs.lemmas.Bool.Decides.{nat_tests}
use Rattle.std.proofs.lemmas.List.{get_or-drop}
use Rattle.std.proofs.lemmas.List.Folds.{length-prefix_len}
use Rattle.std.proofs.lemmas.List.Quantifiers.{position-Some}
use Rattle.std.proofs.lemmas.List.Sums.{fails_before_first, prefix_len_passes, prefix_len_stops, prefix_len-le-length}
use Rattle.std.specs.List.{position, position_or_len, prefix_len, take_while}
use Rattle.std.specs.Simd.{first_chunks}
use Rattle.cutting.specs.Cut.{tag, Records, SetExtent, OfMode, ModeExtent}

-- record i of the chunks of 32 octets is record i of the input
pub chunk_tag : (n i : ℕ) (xs : List ℕ) → i < n → get_or (get_or (first_chunks 32 n xs) i []) 0 0 ≡ get_or xs (32 * i) 0
chunk_tag zero i xs h = absurd (omega arith)
chunk_tag (suc n) zero xs h = get_or-take 32 xs 0 0 (lit< tt)
chunk_tag (suc n) (suc i) xs h =
    chunk_tag n i (drop 32 xs) (omega arith) ∙ get_or-drop 32 xs (32 * i) 0 ∙ ap (λ (k : ℕ). get_or xs k 0) (omega arith)

module _ (xs : List ℕ) (rs : List (List ℕ)) where
  -- a set message ends at the first record of tag 6
  pub set_ended : (k : ℕ) → Records xs 512 rs → position (λ r. eqb (get_or r 0 0) 6) rs ≡ Some k → SetExtent xs (k + 1)
  set_ended k f e =
      let p = position-Some (λ (r : List ℕ). eqb (get_or r 0 0) 6) rs k [] e in
      let n = f.count in
      let last : (k + 1) - 1 ≡ k = omega arith in
      record {
        some = omega arith;
        whole = omega (arith, p.0);
        most = omega (arith, p.0);
        unended = λ i h t. grind (arith, nat_tests, f.tags i (omega (arith, p.0)), p.2 i (omega arith));
        stops = inl (ap (tag xs) last ∙ sym (f.tags k p.0) ∙ eqb-true _ 6 p.1);
      }

  -- or takes all of them
  pub set_unended : 32 ≤ length xs → Records xs 512 rs → position (λ r. eqb (get_or r 0 0) 6) rs ≡ None → SetExtent xs (length rs)
  set_unended enough f e =
      let n = f.count in
      let none : length rs ≤ position_or_len (λ (r : List ℕ). eqb (get_or r 0 0) 6) rs = grind (arith, nat_tests) in
      record {
        some = omega arith;
        whole = omega arith;
        most = omega arith;
        unended = λ i h t. grind (arith, nat_tests, f.tags i (omega arith), fails_before_first (λ (r : List ℕ). eqb (get_or r 0 0) 6) rs i [] (omega arith));
        stops = grind arith;
      }

  -- a mode message takes the records before the first of another tag
  pub mode_run : 32 ≤ length xs → tag xs 0 ≡ 7 → Records xs 272 rs → (k : ℕ) → k ≡ length (take_while (λ r. eqb (get_or r 0 0) 7 || eqb (get_or r 0 0) 8) rs) → ModeExtent xs k
  mode_run enough begun f k e =
      let p : List ℕ → Bool = λ r. eqb (get_or r 0 0) 7 || eqb (get_or r 0 0) 8 in
      let is : k ≡ prefix_len p rs = e ∙ length-prefix_len p rs in
      let n = f.count in
      let l = prefix_len-le-length p rs in
      let stop : k < length rs → OfMode (tag xs k) → ⊥ = λ h o. grind (arith, nat_tests, f.tags k h, ap (λ (i : ℕ). p (get_or rs i [])) is ∙ prefix_len_stops p rs [] (omega arith)) in
      record {
        some = grind (arith, begun, stop);
        whole = omega arith;
        most = omega arith;
        tags = λ i h. grind (arith, nat_tests, f.tags i (omega arith), prefix_len_passes p rs i [] (omega arith));
        stops = grind (arith, stop);
      }
