use Rattle.std.proofs.Common.{arith}
use Rattle.kin_sorted.proofs.MarkLaws.{in_none}
use Rattle.kin_sorted.proofs.marks.place_in.Goals as goal

pub returns-clause-none : goal.returns-clause-none
returns-clause-none c = λ e. in_none c.args.list.now c.args.slot c.loop-place.place (let past = c.loop-place-test.false in omega arith) c.loop-place.invariant
