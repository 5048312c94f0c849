use Rattle.std.proofs.Common.{◌≡◌, IfSome, OnOk, Option, Result, sym, subst, arith}
use Rattle.std.specs.Option.{option_map}
use Rattle.keyed.specs.Keyed.{After}
use Rattle.bounded.specs.declared.held.NoRoom.{NoRoom}
use Rattle.bounded.specs.Items.{items}
use Rattle.keyed.specs.Merge.{putting}
use Rattle.channels.specs.declared.words.Channel.{Channel}
use Rattle.channels.specs.Holdings.{channel_row, channel_rows}
use Rattle.channels.specs.Held.{shall}
use Rattle.channels.proofs.Amends.{gone, came, no_more, fewer_held}
use Rattle.channels.proofs.list.amended.Goals as goal

pub unwrap-requires : goal.unwrap-requires
unwrap-requires c =
    let fewer = fewer_held c.args.number (items c.args.list.now) (items c.without-left.result) c.requires.1.0 c.without-left.ensures in
    c.put.ensures.variant.1 (omega (arith, fewer, c.requires.0))

pub returns-in-Some : goal.returns-in-Some
returns-in-Some c =
    let xs = items c.args.list.now in
    let named = subst (λ (o : Option Channel). IfSome o (λ d. d.number ≡ c.args.number)) c.in-Some.is c.requires.1.1 in
    let put : items c.put.new.list ≡ putting (λ (c : Channel). c.number) c.in-Some.channel (items c.without-left.result) = subst (λ (r : Result (Unit {0}) NoRoom). OnOk r (items c.put.new.list ≡ putting (λ (c : Channel). c.number) c.in-Some.channel (items c.without-left.result))) c.unwrap.ensures c.put.ensures.ok in
    record {
      after =
          subst (λ (o : Option Channel). After (channel_rows xs) (shall c.args.number (option_map (λ d. (channel_row d).value) o)) (channel_rows (items c.put.new.list))) (sym c.in-Some.is)
          (came c.args.number xs (items c.without-left.result) c.requires.1.0 c.without-left.ensures c.in-Some.channel _ named put);
      few = λ h. no_more c.args.number xs (items c.without-left.result) c.requires.1.0 c.without-left.ensures c.in-Some.channel _ put h.0 h.1;
    }

pub returns-in_default : goal.returns-in_default
returns-in_default c =
    let xs = items c.args.list.now in
    record {
      after =
          subst (λ (o : Option Channel). After (channel_rows xs) (shall c.args.number (option_map (λ d. (channel_row d).value) o)) (channel_rows (items c.without-left.result))) (sym c.in_default.is)
          (gone c.args.number xs (items c.without-left.result) c.requires.1.0 c.without-left.ensures);
      few = λ _. fewer_held c.args.number xs (items c.without-left.result) c.requires.1.0 c.without-left.ensures;
    }
