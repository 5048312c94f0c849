-- How an input is cut into pieces. A record is 32 octets, and its first octet is its tag.
use Rattle.std.specs.Prelude.{◌≡◌, ℕ, ◌+◌, ◌-◌, ◌*◌, ◌/◌, ◌%◌, ◌<◌, ◌≤◌, min, cond, ◌⊎◌, List, [], ◌∷◌, ◌++◌, length, ◌==◌, ◌≢◌, nat_lt, slice_index, slice_index_or}

-- The kinds of pieces.
pub data Kind : Type 0 where
  set_message : Kind
  mode_message : Kind
  bad_record : Kind
  short_rest : Kind

-- A piece: its kind and its octets.
pub record Portion : Type 0 where
  pub kind : Kind
  pub octets : List ℕ

-- the tag of record i of the input, where the first is record 0
abbrev pub tag : List ℕ → ℕ → ℕ
tag xs i = slice_index xs (32 * i)

-- The list rs is the whole records at the front of the input, at most so many.
pub record Records (xs : List ℕ) (most : ℕ) (rs : List (List ℕ)) : Type 0 where
  pub count : length rs ≡ min most (length xs / 32)
  pub tags : (i : ℕ) → i < length rs → slice_index (slice_index_or rs i []) 0 ≡ tag xs i

-- a whole record stands after the first k records
abbrev pub More : List ℕ → ℕ → Type 0
More xs k = 32 * k + 32 ≤ length xs

-- the kind of the piece that begins with a record of tag t
abbrev pub starts : ℕ → Kind
starts t = cond (t == 1) set_message (cond (t == 7) mode_message bad_record)

-- the kind of the piece at the front of the input
abbrev pub front : List ℕ → Kind
front xs = cond (nat_lt (length xs) 32) short_rest (starts (tag xs 0))

-- A set message at the front takes k records: to the first of tag 6, the 512th or the last whole one.
pub record SetExtent (xs : List ℕ) (k : ℕ) : Type 0 where
  pub some : 1 ≤ k
  pub whole : 32 * k ≤ length xs
  pub most : k ≤ 512
  -- no record before the last has tag 6
  pub unended : (i : ℕ) → i + 1 < k → tag xs i ≢ 6
  -- the last has tag 6, or is the 512th, or no whole record follows it
  pub stops : (tag xs (k - 1) ≡ 6) ⊎ ((k ≡ 512) ⊎ (More xs k → ⊥))

-- a record of a mode message has tag 7 or 8
abbrev pub OfMode : ℕ → Type 0
OfMode t = (t ≡ 7) ⊎ (t ≡ 8)

-- A mode message at the front takes k records of tags 7 and 8: to the last before one of another tag, the 272nd or the last whole one.
pub record ModeExtent (xs : List ℕ) (k : ℕ) : Type 0 where
  pub some : 1 ≤ k
  pub whole : 32 * k ≤ length xs
  pub most : k ≤ 272
  -- each of them has tag 7 or 8
  pub tags : (i : ℕ) → i < k → OfMode (tag xs i)
  -- the last is the 272nd, or no whole record follows it, or the one that follows has another tag
  pub stops : (k ≡ 272) ⊎ ((More xs k → ⊥) ⊎ (OfMode (tag xs k) → ⊥))

-- a piece of a kind at the front takes n octets
abbrev pub Extent : List ℕ → Kind → ℕ → Type 0
Extent xs set_message n = (k : ℕ) × ((n ≡ 32 * k) × SetExtent xs k)
Extent xs mode_message n = (k : ℕ) × ((n ≡ 32 * k) × ModeExtent xs k)
Extent xs bad_record n = n ≡ 32
Extent xs short_rest n = n ≡ length xs

-- The input xs has an octet, and is the piece p followed by the rest.
pub record Cut (xs : List ℕ) (p : Portion) (rest : List ℕ) : Type 0 where
  pub some : 0 < length xs
  pub kind : p.kind ≡ front xs
  pub extent : Extent xs p.kind (length p.octets)
  pub joined : xs ≡ p.octets ++ rest

-- how many octets a piece of a kind can have: a set message has 1 to 512 whole records, a mode message 1 to 272
abbrev pub Size : Kind → ℕ → Type 0
Size set_message n = (32 ≤ n) × (n ≤ 16384) × (n % 32 ≡ 0)
Size mode_message n = (32 ≤ n) × (n ≤ 8704) × (n % 32 ≡ 0)
Size bad_record n = n ≡ 32
Size short_rest n = (0 < n) × (n < 32)

-- What a caller learns of the sizes: each piece takes an octet or more, so the rest is shorter.
pub record Sizes (xs : List ℕ) (p : Portion) (rest : List ℕ) : Type 0 where
  pub piece : Size p.kind (length p.octets)
  pub shorter : length rest < length xs

-- the input is cut into the pieces ps
abbrev pub Pieces : List ℕ → List Portion → Type 0
Pieces xs [] = xs ≡ []
Pieces xs (p ∷ ps) = (rest : List ℕ) × (Cut xs p rest × Pieces rest ps)

-- an input is cut in one way alone
abbrev pub OneCutting : Type 0
OneCutting = (xs : List ℕ) (ps qs : List Portion) → Pieces xs ps → Pieces xs qs → ps ≡ qs
