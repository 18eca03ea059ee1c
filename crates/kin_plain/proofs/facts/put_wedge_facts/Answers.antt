use Rattle.kin_plain.proofs.Wedges.{small_read, wedge_more}
use Rattle.kin_plain.proofs.facts.put_wedge_facts.Goals as goal

pub loop-part-preserved : goal.loop-part-preserved
loop-part-preserved g c =
    let way = c.direction_of-dx in
    wedge_more (g.O.Signs.scene c.args.now.now) c.loop-part.part way.result.0 way.result.1 _ _ c.loop-part.facts.items c.put_order_facts.new.facts.items _ (small_read way.result.0 way.ensures.small.0)
    (small_read way.result.1 way.ensures.small.1)
    way.ensures.known c.in_ok-put_order_facts.ensures c.loop-part.invariant
