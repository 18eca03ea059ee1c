use Rattle.std.proofs.Common.{◌≡◌, ◌∙◌, ℕ, ◌+◌, ◌*◌, length, refl, subst, arith}
use Rattle.kin_cert.specs.Cost.{TakesAtMost}
use Rattle.kin_cert.proofs.Costs.{one_more, in_queue}
use Rattle.kin_motion.specs.Scene.{scene_at}
use Rattle.kin_cert.specs.Facts.{Facts, NoneAlike}
use Rattle.kin_cert.proofs.Tables.{table-once}
use Rattle.kin_cert.proofs.Changes.{born-none, born-free, born-more, born-all, born-only}
use Rattle.kin_cert.proofs.table.Table.bear_each.Goals as goal

pub loop-placed-init : goal.loop-placed-init
loop-placed-init g c =
    record {
      born = born-none c.args.structure (scene_at c.args.motions.now) c.args.now.now c.args.born.now 0 c.args.self.now.live c.args.self.now.live;
      made = refl;
      cost = λ r e. omega arith;
    }

pub bear_one-requires-clause-free : goal.bear_one-requires-clause-free
bear_one-requires-clause-free g c =
    born-free c.args.structure (scene_at c.args.motions.now) c.args.now.now c.args.born.now c.loop-placed.placed-index c.args.self.now.live c.loop-placed.self.live _ c.loop-placed-test.true c.loop-placed.invariant.born c.requires.free c.requires.once

pub loop-placed-preserved : goal.loop-placed-preserved
loop-placed-preserved g c =
    record {
      born = born-more c.args.structure (scene_at c.args.motions.now) c.args.now.now c.args.born.now c.loop-placed.placed-index c.args.self.now.live c.loop-placed.self.live c.bear_one.new.self.live _ c.loop-placed-test.true c.loop-placed.invariant.born c.in_ok-bear_one.ensures.gained c.in_ok-bear_one.ensures.count;
      made = c.in_ok-bear_one.ensures.made ∙ c.loop-placed.invariant.made;
      cost =
          let count = c.loop-placed.invariant.born.count in
          one_more _ c.loop-placed.placed-index _ _ _ (λ r. r + 1) c.loop-placed.invariant.cost (in_queue (length c.args.self.now.live + length c.args.born.now) (length c.loop-placed.self.live) _ _ (λ r. r + 1) (omega (arith, count, c.loop-placed-test.true)) c.in_ok-bear_one.ensures.cost);
    }

pub returns-clause-kept : goal.returns-clause-kept
returns-clause-kept g c = c.loop-placed.invariant.born.kept

pub returns-clause-born : goal.returns-clause-born
returns-clause-born g c =
    born-all c.args.structure (scene_at c.args.motions.now) c.args.now.now c.args.born.now c.loop-placed.placed-index c.args.self.now.live c.loop-placed.self.live c.loop-placed.invariant.born c.loop-placed-test.false

pub returns-clause-only : goal.returns-clause-only
returns-clause-only g c =
    born-only c.args.structure (scene_at c.args.motions.now) c.args.now.now c.args.born.now c.loop-placed.placed-index c.args.self.now.live c.loop-placed.self.live c.loop-placed.invariant.born (omega arith)

pub returns-clause-once : goal.returns-clause-once
returns-clause-once g c = subst (λ (t : Facts). NoneAlike t.live) c.self.view_is (table-once c.self.inside.roll c.len.ensures.once)

pub returns-clause-cost : goal.returns-clause-cost
returns-clause-cost g c =
    let all : c.loop-placed.placed-index ≡ length c.args.born.now = omega arith in
    subst (λ (n : ℕ). TakesAtMost (length c.args.self.now.live + length c.args.born.now) (λ r. n * (r + 1)) c.args.steps.now c.loop-placed.steps) all c.loop-placed.invariant.cost
