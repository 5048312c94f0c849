use Rattle.std.proofs.Common.{List, ◌++◌, ℕ, drop, replicate, ap, ◌∙◌}
use Rattle.std.proofs.lemmas.List.{length-take-le}
use Rattle.search.specs.Scratch.{cleared}
use Rattle.search.proofs.guard.wipe.Goals as goal

pub returns : goal.returns
unfolding cleared
returns c =
    let octets = c.args.octets.now in
    ap (λ (t : List ℕ). t ++ drop 512 octets) (c.fill.ensures.after (λ _ e. e) ∙ ap (λ n. replicate n 0) (length-take-le 512 octets c.requires))
