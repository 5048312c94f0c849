-- The tests that the judges' answers are; Laws says what each of them means.
use Rattle.std.specs.Prelude.{ℕ, ◌/◌, ◌%◌, Bool, false, cond, not, ◌&&◌, ◌||◌, ◌==◌, bit_and, nat_le}
use Rattle.judges.specs.declared.words.Capability.{Capability}
use Rattle.judges.specs.declared.words.Proposal.{Proposal}

abbrev pub frames : ℕ → Bool
frames p = nat_le 1 p && nat_le p 256

-- p / 16 is the interval of CIF, and p % 16 that of QCIF
abbrev pub pictures : ℕ → Bool
pictures p = nat_le (p / 16) 4 && nat_le (p % 16) 4 && not (p == 0)

abbrev pub serving : ℕ → ℕ → Bool
serving have want = want == 0 || (nat_le 1 have && nat_le have want)

abbrev pub lawful_value : ℕ → ℕ → ℕ → Bool
lawful_value kind p q =
    cond (kind == 1 || kind == 2) (frames p && q == 0)
    (cond (kind == 3) (frames p && nat_le q 1)
    (cond (kind == 4) (pictures p && nat_le 1 q && nat_le q 19200)
    (cond (kind == 5) (q == 0) false)))

-- the limits that the capability's kind sets
abbrev pub limits_kept : Capability → Proposal → Bool
limits_kept c w =
    cond (c.kind == 1 || c.kind == 2 || c.kind == 5) (nat_le w.p c.p)
    (cond (c.kind == 3) (nat_le w.p c.p && nat_le w.q c.q)
    (cond (c.kind == 4) (nat_le w.q c.q && serving (c.p / 16) (w.p / 16) && serving (c.p % 16) (w.p % 16)) false))

-- the standard judge
abbrev pub standard_lawful : Capability → Bool
standard_lawful c = lawful_value c.kind c.p c.q

abbrev pub standard_covers : Capability → Proposal → Bool
standard_covers c w =
    (c.kind == w.kind) && lawful_value c.kind c.p c.q && lawful_value w.kind w.p w.q && limits_kept c w

-- the own-kind judge, over what the judge below it finds
abbrev pub own_lawful : ℕ → ℕ → (Capability → Bool) → Capability → Bool
own_lawful code ceiling below c = cond (c.kind == code) (nat_le c.p ceiling) (below c)

abbrev pub own_covers : ℕ → ℕ → (Capability → Proposal → Bool) → Capability → Proposal → Bool
own_covers code ceiling below c w =
    cond (c.kind == code || w.kind == code)
    (c.kind == w.kind && nat_le c.p ceiling && nat_le w.p c.p && bit_and w.q c.q == w.q)
    (below c w)
