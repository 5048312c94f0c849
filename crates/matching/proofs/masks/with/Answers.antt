use Rattle.std.proofs.Common.{◌≡◌, ◌*◌, ◌%◌, ◌^◌}
use Rattle.std.proofs.lemmas.Nat.{one_shl, or_lt, pow_below}
use Rattle.bounded.proofs.Mask.{set_here, set_other}
use Rattle.matching.proofs.masks.with.Goals as goal

pub returns : goal.returns
returns c =
    let x = c.args.mask in
    let s = c.args.s in
    let e : (1 * 2 ^ s) % 2 ^ 64 ≡ 2 ^ s = one_shl s 64 c.requires in
    rw e (record {
      here = set_here x s;
      other = set_other x s;
      fits = λ k l b. or_lt k x (2 ^ s) b (pow_below s k l);
    })
