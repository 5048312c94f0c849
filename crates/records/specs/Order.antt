-- The order of the tags of a message, as a test that goes from tag to tag.
use Rattle.std.specs.Prelude.{ℕ, ◌-◌, Bool, true, false, cond, ◌&&◌, List, [], ◌∷◌, ◌==◌, nat_lt}

abbrev pub none : List ℕ → Bool
none [] = true
none (t ∷ ts) = false

-- what may follow in a descriptor that can have n more alternative sets
abbrev pub descriptors : ℕ → List ℕ → Bool
descriptors n [] = false
descriptors n (t ∷ ts) = cond (t == 4) (descriptors 16 ts) (cond (t == 5) (nat_lt 0 n && descriptors (n - 1) ts) (cond (t == 6) (none ts) false))

-- what may follow the begin of a set message
abbrev pub entries : List ℕ → Bool
entries [] = false
entries (t ∷ ts) = cond (t == 2) (entries ts) (cond (t == 3) (entries ts) (descriptors 0 (t ∷ ts)))

abbrev pub set_order : List ℕ → Bool
set_order [] = false
set_order (t ∷ ts) = cond (t == 1) (entries ts) false

-- what may follow in a mode: m more modes can come, and n more elements of this one, which has one where n is below 16
abbrev pub modes : ℕ → ℕ → List ℕ → Bool
modes m n [] = nat_lt n 16
modes m n (t ∷ ts) = cond (t == 8) (nat_lt 0 n && modes m (n - 1) ts) (cond (t == 7) (nat_lt n 16 && nat_lt 0 m && modes (m - 1) 16 ts) false)

abbrev pub mode_order : List ℕ → Bool
mode_order [] = false
mode_order (t ∷ ts) = cond (t == 7) (modes 15 16 ts) false
