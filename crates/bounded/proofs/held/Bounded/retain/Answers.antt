use Rattle.std.proofs.Common.{◌≡◌, ℕ, ◌+◌, ◌<◌, [], ◌∷◌, ◌++◌, true, false, length, get_or, set, take, drop, sym, ap, ◌∙◌, subst, arith, of_calls}
use Rattle.std.specs.Fn.{CalledAt}
use Rattle.std.proofs.lemmas.Fn.{called_at}
use Rattle.std.proofs.lemmas.List.{get_or-take, drop-drop, take_more_set, drop-set-lt}
use Rattle.bounded.specs.Items.{items}
use Rattle.bounded.proofs.Most.{items_length}
use Rattle.bounded.proofs.Retained.{Retaining, retaining_true, retaining_false, retaining_all, same_at}
use Rattle.bounded.proofs.held.Bounded.retain.Goals.{then-keep, else-keep}
use Rattle.bounded.proofs.held.Bounded.retain.Goals as goal

pub loop-i-preserved : goal.loop-i-preserved
unfolding items
loop-i-preserved g c =
    let R = CalledAt g.F.FnMut in
    let old = c.args.self.now in
    let now = c.loop-i.self in
    let i = c.loop-i.i in
    let n = c.loop-i.kept in
    let x = c.index-self-i.result in
    let inv = c.loop-i.invariant in
    let room : n < length now.at = omega (arith, now.ok) in
    let within : i < old.len = omega arith in
    let long : i < length (items old) = omega (arith, items_length old) in
    let rest : drop (i + 1) now.at ≡ drop (i + 1) old.at = sym (drop-drop 1 i now.at) ∙ ap (drop 1) inv.1.1.1.1 ∙ drop-drop 1 i old.at in
    let is : x ≡ get_or (items old) i x = c.index-self-i.is ∙ same_at now.at old.at i x inv.1.1.1.1 ∙ sym (get_or-take old.len old.at i x within) in (
      search of_calls,
      elim c.if-keep.branch [
        | then-keep w ↦
            let put : c.if-keep.self.at ≡ set now.at n x = ap (λ b. b.at) w.self-is ∙ ap (set now.at n) (sym c.index-self-i.is) in
            let more : take c.if-keep.kept c.if-keep.self.at ≡ take n now.at ++ x ∷ [] =
            ap (λ (k : ℕ). take k c.if-keep.self.at) w.kept-is ∙ ap (take (n + 1)) put ∙ take_more_set now.at n x room in (
              subst (λ ks. Retaining R c.args.keep (items old) ks (i + 1) c.keep.new.self) (sym more)
                  (retaining_true R c.args.keep c.loop-i.keep c.keep.new.self (items old) (take n now.at) i x long is inv.1.0 (subst (λ v. R c.loop-i.keep v true c.keep.new.self) (sym c.index-self-i.is) (called_at g.F.FnMut c.keep.ensures w.if-keep.true))),
              (omega (arith, w.kept-is), (ap (λ b. b.len) w.self-is ∙ inv.1.1.1.0, ap (drop (i + 1)) put ∙ drop-set-lt (i + 1) now.at n x (omega arith) ∙ rest)),
            )
        | else-keep w ↦
            rw (w.self-is, w.kept-is) (
              retaining_false R c.args.keep c.loop-i.keep c.keep.new.self (items old) (take n now.at) i x long is inv.1.0 (subst (λ v. R c.loop-i.keep v false c.keep.new.self) (sym c.index-self-i.is) (called_at g.F.FnMut c.keep.ensures w.if-keep.false)),
              (omega arith, (inv.1.1.1.0, rest)),
            )
      ],
    )

pub returns : goal.returns
unfolding items
returns g c =
    retaining_all (CalledAt g.F.FnMut) c.args.keep c.loop-i.keep (items c.args.self.now) (take c.loop-i.kept c.loop-i.self.at) c.loop-i.i (omega (arith, items_length c.args.self.now)) c.loop-i.invariant.1.0
