use Rattle.std.proofs.Common.{◌≡◌, Some, None, sym, refl, ◌∙◌, arith}
use Rattle.std.proofs.lemmas.Result.{err_from_is_err_and}
use Rattle.bounded.specs.Items.{items}
use Rattle.channels.specs.Holdings.{channel_row}
use Rattle.channels.specs.Held.{channels_of}
use Rattle.channels.proofs.Amends.{found, found_number, numbered_as, none_held, other_state, in_state, amended_as}
use Rattle.channels.proofs.held.Channels.meet.Goals as goal

pub returns-in_err-channel : goal.returns-in_err-channel
returns-in_err-channel c =
    let none : c.find.result ≡ None = grind arith in
    let e = err_from_is_err_and c.from_residual.result c.from_residual.ensures.1 in
    let k : c.in_err-channel.field-0.0 ≡ Rattle.refusals.specs.declared.refusal.Refusal.TheVariants.Unknown = grind arith in
    rw (e.1, e.2, k)
    (refl, none_held (channels_of c.args.self.now) c.args.event c.args.number (found _ (items c.args.self.now.list) c.args.number None c.as_slice.ensures.list (sym none ∙ c.find.ensures)))

pub amended-list-requires : goal.amended-list-requires
amended-list-requires c =
    let some : c.find.result ≡ Some c.in_ok-channel.channel = grind arith in
    let named = found_number _ c.args.number c.in_ok-channel.channel (sym c.find.ensures ∙ some) in
    (c.args.self.now.few, (c.args.self.now.ordered, numbered_as c.in_ok-next.next _ _ named c.in_ok-next.ensures.2))

pub invariant_of-self : goal.invariant_of-self
invariant_of-self c =
    let some : c.find.result ≡ Some c.in_ok-channel.channel = grind arith in
    let h = found _ (items c.args.self.now.list) c.args.number (Some c.in_ok-channel.channel) c.as_slice.ensures.list (sym some ∙ c.find.ensures) in
    let l = c.amended-list.ensures.few ((channel_row c.in_ok-channel.channel).value, h) in
    record { few = omega (arith, c.args.self.now.few); ordered = c.amended-list.ensures.after.order }

pub returns : goal.returns
returns c =
    let some : c.find.result ≡ Some c.in_ok-channel.channel = grind arith in
    let h = found _ (items c.args.self.now.list) c.args.number (Some c.in_ok-channel.channel) c.as_slice.ensures.list (sym some ∙ c.find.ensures) in
    let t = c.in_ok-next.ensures in
    (in_state _ c.args.event c.args.number c.in_ok-channel.channel h t.0, amended_as _ c.args.event c.args.number c.in_ok-channel.channel h c.in_ok-next.next _ t.1 c.amended-list.ensures.after)

pub returns-in_err-next : goal.returns-in_err-next
returns-in_err-next c =
    let some : c.find.result ≡ Some c.in_ok-channel.channel = grind arith in
    let h = found _ (items c.args.self.now.list) c.args.number (Some c.in_ok-channel.channel) c.as_slice.ensures.list (sym some ∙ c.find.ensures) in
    let t = c.in_err-next.ensures in
    let e = err_from_is_err_and c.from_residual-in_err-next.result c.from_residual-in_err-next.ensures.1 in
    rw (e.1, e.2) (refl, other_state _ c.args.event c.args.number c.in_ok-channel.channel h _ t.0 t.1)
