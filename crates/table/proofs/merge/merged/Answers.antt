use Rattle.std.proofs.Common.{length, IsOk, sym, refl, subst, arith}
use Rattle.std.proofs.lemmas.Result.{err_from_is_err_and}
use Rattle.bounded.specs.Items.{items}
use Rattle.records.specs.Reads.{says}
use Rattle.keyed.specs.Merge.{putting}
use Rattle.keyed.proofs.Views.{length-putting}
use Rattle.table.specs.Turns.{Places}
use Rattle.table.proofs.Placed.{full, told_ok, told_err}
use Rattle.table.proofs.merge.merged.Goals as goal

pub loop-said-init : goal.loop-said-init
loop-said-init g c = Places.begun _ c.kept-list.ensures

pub returns-in_err-or : goal.returns-in_err-or
returns-in_err-or g c =
    let e = err_from_is_err_and c.from_residual.result c.from_residual.ensures.1 in
    let told = told_err c.put.result c.args.full _ c.or.result c.or.ensures c.in_err-or.was in
    rw (e.1, e.2) (
      told.1,
      (
        says c.read.new.self,
        putting g.T.ByNumber.key c.in-Some-item.x (items c.loop-said.list),
        omega (arith, full (length (items c.loop-said.list)) g.row.N (λ l. told.0 (c.put.ensures.variant.1 l)), length-putting g.T.ByNumber.key c.in-Some-item.x (items c.loop-said.list)),
        Places.put c.in-Some.said c.read.new.self c.in-Some-item.x _ _ _ c.in-Some.ensures c.in-Some-item.ensures refl c.loop-said.invariant,
      ),
    )

pub loop-said-preserved : goal.loop-said-preserved
loop-said-preserved g c =
    let put = told_ok c.put.result c.args.full c.or.result _ c.or.ensures (subst IsOk (sym c.in_ok-or.was) refl) c.put.ensures.ok in
    Places.put c.in-Some.said c.read.new.self c.in-Some-item.x _ _ _ c.in-Some.ensures c.in-Some-item.ensures put c.loop-said.invariant

pub loop-said-preserved-in_default-item : goal.loop-said-preserved-in_default-item
loop-said-preserved-in_default-item g c = Places.passed c.in-Some.said c.read.new.self _ _ c.in-Some.ensures c.in_default-item.ensures c.loop-said.invariant
