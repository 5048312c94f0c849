use Rattle.std.proofs.Common.{ℕ, List, sym, subst, inl, inr, arith}
use Rattle.std.proofs.lemmas.Option.{slice_get_cases}
use Rattle.std.proofs.lemmas.List.{length-map}
use Rattle.std.specs.List.{slice_get}
use Rattle.bounded.specs.Items.{items}
use Rattle.channels.specs.declared.words.Channel.{Channel}
use Rattle.channels.specs.Holdings.{channel_row, channel_rows}
use Rattle.channels.specs.Held.{Ranked}
use Rattle.channels.proofs.Amends.{rank_at}
use Rattle.channels.proofs.held.Channels.ranked.Goals as goal

ranks : (xs : List Channel) (k : ℕ) → Ranked (channel_rows xs) k (slice_get xs k)
ranks xs k = elim (slice_get_cases xs k).1 [
  | inl (c, h, is, e) ↦ subst (Ranked (channel_rows xs) k) (sym is) (rank_at xs k c h (sym e))
  | inr (h, is) ↦ subst (Ranked (channel_rows xs) k) (sym is) (omega (arith, length-map xs channel_row))
]

pub returns : goal.returns
returns c = subst (Ranked (channel_rows (items c.args.self.now.list)) c.args.rank) (sym c.get.ensures) (ranks (items c.args.self.now.list) c.args.rank)
