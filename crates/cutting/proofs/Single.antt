-- A piece of one record at the front of the input.
use Rattle.std.proofs.Common.{◌≡◌, ℕ, ◌≤◌, eqb, ltb, ◌≢◌, List, ◌++◌, length, get_or, take, drop, sym, ap, ◌∙◌, arith, lit<, take-append-drop, length-take-le, get_or-take, rules}
use Rattle.std.proofs.lemmas.Bool.{cond-false, ne_eqb}
use Rattle.cutting.specs.Cut.{Kind, bad_record, tag, front, starts, Extent, Cut}

-- what is taken for a record has its 32 octets
pub long : (xs octets : List ℕ) → octets ≡ take 32 xs → 32 ≤ length xs → length octets ≡ 32
long xs octets before enough = ap length before ∙ length-take-le 32 xs enough

-- a record of any other tag than 1 and 7 is a bad record
pub starts_bad : (t : ℕ) → t ≢ 1 → t ≢ 7 → starts t ≡ bad_record
starts_bad t h k = cond-false (eqb t 1) _ _ (ne_eqb t 1 h) ∙ cond-false (eqb t 7) _ _ (ne_eqb t 7 k)

-- the kind that the first record starts is the kind of the piece at the front
at_front : (xs octets : List ℕ) → octets ≡ take 32 xs → 32 ≤ length xs → starts (get_or octets 0 0) ≡ front xs
at_front xs octets before enough =
    let same : get_or octets 0 0 ≡ tag xs 0 = ap (λ (l : List ℕ). get_or l 0 0) before ∙ get_or-take 32 xs 0 0 (lit< tt) in
    ap starts same ∙ sym (cond-false (ltb (length xs) 32) _ _ (search rules))

-- the first record is a piece, if a piece of its kind has just the octets of a record
pub cut_one : (xs octets rest : List ℕ) → octets ≡ take 32 xs → rest ≡ drop 32 xs → 32 ≤ length xs → (w : Kind) → starts (get_or octets 0 0) ≡ w → Extent xs w (length octets) → Cut xs (record { kind = w; octets = octets }) rest
cut_one xs octets rest before after enough w e f =
    record {
      some = omega arith;
      kind = sym e ∙ at_front xs octets before enough;
      extent = f;
      joined = sym (take-append-drop 32 xs) ∙ (λ i. sym before i ++ sym after i);
    }
