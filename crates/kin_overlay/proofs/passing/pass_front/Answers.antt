use Rattle.std.proofs.Common.{arith}
use Rattle.kin_overlay.proofs.PassLaws.{untouched-more}
use Rattle.kin_overlay.proofs.passing.pass_front.Goals as goal

pub loop-place-preserved : goal.loop-place-preserved
loop-place-preserved c =
    let w = c.args.standing.now in
    let rs = w.list.now.records in
    let i = c.loop-place.invariant in
    let p = c.in-Some.ensures.passed in
    record {
      within = omega (arith, c.loop-place-test.true, c.len.ensures);
      untouched = untouched-more w c.args.puts.a.now c.args.puts.b.now rs c.loop-place.place p.0 c.args.a.now c.args.b.now c.loop-place.first.now c.loop-place.second.now c.in-Some.left.0.now c.in-Some.left.1.now p.1 i.untouched p.2 p.3;
    }
