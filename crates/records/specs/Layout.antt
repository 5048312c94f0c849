-- What the octets of a record say.
use Rattle.std.specs.Prelude.{ℕ, zero, suc, ◌+◌, ◌*◌, ◌%◌, min, Bool, false, cond, not, ◌&&◌, List, [], ◌∷◌, drop, ◌==◌, nat_le, nat_lt, slice_index}
use Rattle.std.specs.List.{list_all}
use Rattle.judges.specs.declared.words.Capability.{Capability}
use Rattle.judges.specs.declared.words.Proposal.{Proposal}

-- big-endian numbers at a place
abbrev pub be16 : List ℕ → ℕ → ℕ
be16 o i = slice_index o i * 256 + slice_index o (i + 1)

abbrev pub be32 : List ℕ → ℕ → ℕ
be32 o i = slice_index o i * 16777216 + slice_index o (i + 1) * 65536 + slice_index o (i + 2) * 256 + slice_index o (i + 3)

-- n numbers of 16 bits, one after another from a place
abbrev pub shorts : ℕ → ℕ → List ℕ → List ℕ
shorts zero at o = []
shorts (suc n) at o = be16 o at ∷ shorts n (at + 2) o

-- What a record says: set begin, entry, entry removed, descriptor, alternative set, set end, mode, mode element.
pub data Rec : Type 0 where
  begin : ℕ → Rec
  entry : ℕ → Capability → Rec
  removed : ℕ → Rec
  descriptor : ℕ → Rec
  alternatives : List ℕ → Rec
  end : Rec
  mode : Rec
  element : Proposal → Rec
  other : ℕ → Rec

abbrev pub rec_of : List ℕ → Rec
rec_of o =
    cond (slice_index o 0 == 1) (begin (slice_index o 1))
    (cond (slice_index o 0 == 2) (entry (be16 o 2) (record { kind = slice_index o 1; p = be32 o 4; q = be32 o 8 }))
    (cond (slice_index o 0 == 3) (removed (be16 o 2))
    (cond (slice_index o 0 == 4) (descriptor (slice_index o 1))
    (cond (slice_index o 0 == 5) (alternatives (shorts (min (slice_index o 1) 15) 2 o))
    (cond (slice_index o 0 == 6) end
    (cond (slice_index o 0 == 7) mode
    (cond (slice_index o 0 == 8) (element (record { kind = slice_index o 1; p = be32 o 4; q = be32 o 8 }))
    (other (slice_index o 0)))))))))

-- whole records, at least one, and no more octets than the most
abbrev pub fitting : ℕ → ℕ → Bool
fitting most n = nat_lt 0 n && n % 32 == 0 && nat_le n most

abbrev pub all_zero : List ℕ → Bool
all_zero xs = list_all (λ x. x == 0) xs

-- entry numbers are 1 or more
abbrev pub all_named : List ℕ → Bool
all_named ns = list_all (λ n. not (n == 0)) ns

-- each field is in its range, and each octet without a name is zero
abbrev pub in_range : List ℕ → Bool
in_range o =
    cond (slice_index o 0 == 1) (all_zero (drop 2 o))
    (cond (slice_index o 0 == 2) (not (be16 o 2 == 0) && all_zero (drop 12 o))
    (cond (slice_index o 0 == 3) (not (be16 o 2 == 0) && slice_index o 1 == 0 && all_zero (drop 4 o))
    (cond (slice_index o 0 == 4) (all_zero (drop 2 o))
    (cond (slice_index o 0 == 5) (nat_le 1 (slice_index o 1) && nat_le (slice_index o 1) 15 && all_named (shorts (slice_index o 1) 2 o) && all_zero (drop (2 + 2 * slice_index o 1) o))
    (cond (slice_index o 0 == 6) (all_zero (drop 1 o))
    (cond (slice_index o 0 == 7) (all_zero (drop 1 o))
    (cond (slice_index o 0 == 8) (be16 o 2 == 0 && all_zero (drop 12 o)) false)))))))

abbrev pub all_in_range : List (List ℕ) → Bool
all_in_range os = list_all in_range os
