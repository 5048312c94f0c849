-- What the records of a message hold, and what is left to read of it.
use Rattle.std.specs.Prelude.{ℕ, ◌/◌, List, map, length, slice_index}
use Rattle.std.specs.Simd.{first_chunks}
use Rattle.bounded.specs.Items.{items}
use Rattle.records.specs.declared.held.Record.{Record}
use Rattle.records.specs.declared.held.Cursor.{Cursor}
use Rattle.records.specs.declared.held.Said.{Said}
use Rattle.records.specs.declared.held.Said.TheVariants.{Begin, Entry, Removed, Descriptor, Alternatives, End, Mode, Element, Other}
use Rattle.records.specs.Layout.{Rec, begin, entry, removed, descriptor, alternatives, end, mode, element, other, rec_of}

-- the octets of each whole record
unfoldable pub rows_of : List ℕ → List (List ℕ)
rows_of xs = first_chunks 32 (length xs / 32) xs

-- the tag of each record
abbrev pub tags : List (List ℕ) → List ℕ
tags os = map (λ o. slice_index o 0) os

-- what the records say, one after another
unfoldable pub says_of : List (List ℕ) → List Rec
says_of rs = map rec_of rs

abbrev pub octets : Record → List ℕ
octets r = r.octets.now

abbrev pub rows : Cursor → List (List ℕ)
rows c = rows_of c.rest.now

abbrev pub says : Cursor → List Rec
says c = says_of (rows c)

abbrev pub rec : Said → Rec
rec (Begin n) = begin n
rec (Entry n c) = entry n c
rec (Removed n) = removed n
rec (Descriptor d) = descriptor d
rec (Alternatives ms) = alternatives (items ms)
rec End = end
rec Mode = mode
rec (Element p) = element p
rec (Other t) = other t
