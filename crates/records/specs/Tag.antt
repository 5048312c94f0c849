-- The number of each tag.
use Rattle.std.specs.Prelude.{◌≡◌, ℕ}
use Rattle.records.specs.declared.tag.Tag.{Tag}
use Rattle.records.specs.declared.tag.Tag.TheVariants.{Begin, Entry, Removed, Descriptor, Alternatives, End, Mode, Element}

abbrev pub code : Tag → ℕ
code Begin = 1
code Entry = 2
code Removed = 3
code Descriptor = 4
code Alternatives = 5
code End = 6
code Mode = 7
code Element = 8

-- no tag has the number
abbrev pub Unknown : ℕ → Type 0
Unknown n = (tag : Tag) → n ≡ code tag → ⊥
