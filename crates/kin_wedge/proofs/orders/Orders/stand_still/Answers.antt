use Rattle.std.proofs.Common.{refl, arith, length}
use Rattle.std.proofs.lemmas.Option.{slice_get_read}
use Rattle.kin_wedge.specs.Parts.{StandsStill}
use Rattle.kin_wedge.proofs.Stepwise.{made_more, made_all}
use Rattle.kin_wedge.proofs.orders.Orders.stand_still.Goals as goal

pub loop-part-preserved : goal.loop-part-preserved
loop-part-preserved c =
    let lists = c.loop-part.self.lists.items in
    let n = c.loop-part.invariant.count in
    let m = c.requires in
    let t = c.loop-part-test.true in
    let l = c.index_mut.result.now in
    made_more StandsStill c.args.self.now.lists.items lists c.loop-part.part l c.stand_still.new.self c.loop-part.invariant (slice_get_read lists (length lists) c.loop-part.part l refl (omega (arith, n, m, t)) c.index_mut.ensures.value)
    (record { same = c.stand_still.ensures.same; settled = c.stand_still.ensures.settled })

pub returns : goal.returns
returns c =
    let n = c.requires in
    let h = c.loop-part-test.false in
    made_all StandsStill c.args.self.now.lists.items c.loop-part.self.lists.items c.loop-part.part (omega (arith, n, h)) c.loop-part.invariant
