use Rattle.std.proofs.Common.{◌∙◌, ◌*◌, List, length, subst, arith}
use Rattle.std.proofs.lemmas.List.{take_all}
use Rattle.kin_motion.specs.declared.fact.Placed.{Placed}
use Rattle.kin_cert.specs.Cost.{TakesAtMost, ungiven}
use Rattle.kin_cert.specs.Facts.{Facts, NoneAlike}
use Rattle.kin_cert.proofs.Tables.{table-once}
use Rattle.kin_cert.proofs.Changes.{dropped-live, dropped-more, dropped-all}
use Rattle.kin_cert.proofs.Paying.{one-dropped}
use Rattle.kin_cert.proofs.table.Table.drop_each.Goals as goal

pub drop_one-requires : goal.drop_one-requires
drop_one-requires g c =
    let once = subst (λ (t : Facts). NoneAlike t.live) c.self.view_is (table-once c.self.inside.roll c.len.ensures.once) in
    record { live = dropped-live c.args.structure c.args.dropped.now c.loop-placed.placed-index c.args.self.now.live c.loop-placed.self.live _ c.loop-placed-test.true c.loop-placed.invariant.dropped once c.requires.live c.requires.once }

pub loop-placed-preserved : goal.loop-placed-preserved
loop-placed-preserved g c =
    record {
      dropped = dropped-more c.args.structure c.args.dropped.now c.loop-placed.placed-index c.args.self.now.live c.loop-placed.self.live c.drop_one.new.self.live _ c.loop-placed-test.true c.loop-placed.invariant.dropped c.drop_one.ensures.rest c.drop_one.ensures.count;
      made = c.drop_one.ensures.made ∙ c.loop-placed.invariant.made;
      cost =
          let count = c.loop-placed.invariant.dropped.count in
          one-dropped c.args.structure c.args.self.now.live c.loop-placed.self.live c.args.dropped.now c.loop-placed.placed-index _ _ _ _ c.loop-placed-test.true (λ l there. ((c.loop-placed.invariant.dropped.rest l).0 there).0) (omega (arith, count)) c.loop-placed.invariant.cost c.drop_one.ensures.cost;
    }

pub returns-clause-rest : goal.returns-clause-rest
returns-clause-rest g c =
    dropped-all c.args.structure c.args.dropped.now c.loop-placed.placed-index c.args.self.now.live c.loop-placed.self.live c.loop-placed.invariant.dropped (omega arith) (omega arith)

pub returns-clause-cost : goal.returns-clause-cost
returns-clause-cost g c =
    subst (λ (ps : List Placed). TakesAtMost (length c.args.self.now.live) (λ r. ungiven c.args.structure c.args.self.now.live ps * r) c.args.steps.now c.loop-placed.steps)
    (take_all c.loop-placed.placed-index c.args.dropped.now c.loop-placed-test.false) c.loop-placed.invariant.cost
