use Rattle.kin_plain.proofs.Sweeping.{all_back}
use Rattle.kin_plain.proofs.diameter.put_breakpoints_back.Goals as goal

pub returns : goal.returns
returns c = all_back c.args.back.now c.loop-place.place c.loop-place.list.items _ c.loop-place-test.false c.loop-place.auto.place c.loop-place.invariant
