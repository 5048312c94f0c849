-- The codes of the standard kinds.
use Rattle.std.specs.Prelude.{◌≡◌, ℕ, ◌<◌, ◌⊎◌, Result, MatchResult}
use Rattle.judges.specs.declared.kind.Kind.{Kind}
use Rattle.judges.specs.declared.kind.Kind.TheVariants.{G711ALaw, G711MuLaw, G7231, H261, T120}
use Rattle.judges.specs.declared.kind.UnknownKind.{UnknownKind}

-- the code of a kind
abbrev pub code_of : Kind → ℕ
code_of G711ALaw = 1
code_of G711MuLaw = 2
code_of G7231 = 3
code_of H261 = 4
code_of T120 = 5

-- the kind of this code, or an error with the code, which no standard kind has
abbrev pub Decodes : ℕ → Result Kind UnknownKind → Type 0
Decodes code r = MatchResult r (λ kind. code_of kind ≡ code) (λ e. (e.0 ≡ code) × ((code ≡ 0) ⊎ (5 < code)))
