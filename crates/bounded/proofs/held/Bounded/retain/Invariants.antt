use Rattle.std.proofs.Common.{◌≡◌, ◌≤◌, take, drop}
use Rattle.std.specs.Fn.{CalledAt}
use Rattle.bounded.specs.Items.{items}
use Rattle.bounded.proofs.Retained.{Retaining}
use Rattle.bounded.proofs.held.Bounded.retain.Given as goal

abbrev pub invariant-loop-i : goal.invariant-loop-i
invariant-loop-i g l =
    goal.F-IsAlwaysCallable g l.keep
    × (Retaining (CalledAt g.F.FnMut) l.initial.keep (items l.initial.self) (take l.kept l.self.at) l.i l.keep
    × ((l.kept ≤ l.i) × ((l.self.len ≡ l.initial.self.len) × (drop l.i l.self.at ≡ drop l.i l.initial.self.at))))
