use Rattle.std.proofs.Common.{arith}
use Rattle.kin_plain.proofs.Filling.{filled_more, filled_all}
use Rattle.kin_plain.proofs.numbers.live_numbers.Goals as goal

pub loop-no-preserved : goal.loop-no-preserved
loop-no-preserved c =
    let low = c.loop-no-test.true in
    let end = c.numbers_below-no-end.ensures in
    let room = c.requires.room in
    filled_more c.args.motions.now c.loop-no.no c.loop-no.numbers.items c.put_if_live.new.numbers.items _ (omega (arith, low, end, room)) c.in_ok-put_if_live.ensures c.loop-no.invariant

pub returns : goal.returns
returns c =
    let high = c.loop-no-test.false in
    let end = c.numbers_below-no-end.ensures in
    let room = c.requires.room in
    filled_all c.args.motions.now c.loop-no.no c.loop-no.numbers.items _ (omega (arith, high, end, room)) c.loop-no.invariant
