use Rattle.std.proofs.Common.{◌≡◌, ◌+◌, ◌∙◌, List, length, ap₂, sym, subst, refl, arith, rules}
use Rattle.kin_motion.specs.declared.fact.Placed.{Placed}
use Rattle.kin_motion.specs.Deltas.{Change}
use Rattle.kin_motion.specs.Scene.{scene_at}
use Rattle.kin_cert.specs.Cost.{TakesAtMost, change_cost}
use Rattle.kin_cert.specs.Facts.{Facts}
use Rattle.kin_cert.specs.Applied.{HasApplied}
use Rattle.kin_cert.specs.Layout.{change_of}
use Rattle.kin_cert.proofs.Changes.{applied}
use Rattle.kin_cert.proofs.Paying.{all-paid}
use Rattle.kin_cert.proofs.table.Table.apply.Goals as goal

pub bear_each-requires-clause-free : goal.bear_each-requires-clause-free
bear_each-requires-clause-free g c = λ l there among.
    let was = (c.drop_each.ensures.rest l).0 there in
    was.1 (c.in_ok-rest.ensures.may.born_free l was.0 among)

pub returns-clause-applied : goal.returns-clause-applied
returns-clause-applied g c =
    let rest = c.in_ok-rest.rest in
    let scene = scene_at c.args.motions.now in
    let change_is : record { dropped = c.deref.result.now; born = c.deref-2.result.now } ≡ c.args.delta.now =
    ap₂ (λ (ds bs : List Placed). record { dropped = ds; born = bs }) c.deref.ensures.value c.deref-2.ensures.value ∙ c.delta.view_is in
    let left = applied c.args.structure (change_of rest) scene c.args.now.now c.replace_each.new.self.live c.drop_each.new.self.live c.bear_each.new.self.live rest.dropped.now rest.born.now refl refl c.drop_each.ensures.rest c.drop_each.ensures.count
    c.in_ok-bear_each.ensures.kept c.in_ok-bear_each.ensures.born c.in_ok-bear_each.ensures.only c.in_ok-bear_each.ensures.count in
    let whole : HasApplied c.args.structure c.args.delta.now scene c.args.now.now c.args.self.now.live c.bear_each.new.self.live =
    subst (λ (x : Change). HasApplied c.args.structure x scene c.args.now.now c.args.self.now.live c.bear_each.new.self.live) change_is (c.in_ok-rest.ensures.did c.bear_each.new.self.live left) in
    subst (λ (t : Facts). HasApplied c.args.structure c.args.delta.now scene c.args.now.now c.args.self.now.live t.live) (sym c.self.view_is) whole

pub returns-clause-cost : goal.returns-clause-cost
returns-clause-cost g c =
    let rest = c.in_ok-rest.rest in
    let change_is : record { dropped = c.deref.result.now; born = c.deref-2.result.now } ≡ c.args.delta.now =
    ap₂ (λ (ds bs : List Placed). record { dropped = ds; born = bs }) c.deref.ensures.value c.deref-2.ensures.value ∙ c.delta.view_is in
    let n = length c.args.self.now.live + length c.deref-2.result.now in
    let counted = c.in_ok-rest.ensures.count.live in
    let fewer = c.in_ok-rest.ensures.count.fewer in
    let dropped = c.drop_each.ensures.count in
    subst (λ (x : Change). TakesAtMost (length c.args.self.now.live + length x.born) (change_cost c.args.structure x c.args.self.now.live) c.args.steps.now c.bear_each.new.steps) change_is
    (all-paid n c.args.structure (record { dropped = c.deref.result.now; born = c.deref-2.result.now }) (change_of rest) c.args.self.now.live c.replace_each.new.self.live (length c.drop_each.new.self.live + length rest.born.now) _ _ _ _
    (omega (arith, counted, fewer)) (omega (arith, counted, fewer, dropped)) c.in_ok-rest.ensures.cost c.drop_each.ensures.cost c.in_ok-bear_each.ensures.cost)

pub returns-clause-made : goal.returns-clause-made
returns-clause-made g c = search rules
