use Rattle.std.proofs.Common.{◌≡◌, refl, ap, ap₂, ◌∙◌, subst, arith, List, get_or}
use Rattle.kin_algebra.proofs.Members.{contains_from_get}
use Rattle.std.proofs.lemmas.Option.{slice_get-get_or}
use Rattle.kin_algebra.proofs.Results.{for_ok, at_ok}
use Rattle.kin_motion.specs.declared.fact.Placed.{Placed}
use Rattle.kin_motion.specs.Kinetics.{HasChanged}
use Rattle.kin_env.specs.Nodes.{chain_with, facts_with}
use Rattle.kin_env.specs.Walks.{tree_facts}
use Rattle.kin_env.proofs.Ends.{walk_starts}
use Rattle.kin_env.proofs.Paid.{orders_from}
use Rattle.kin_env.proofs.Reports.{inner_part, tree_same}
use Rattle.kin_env.proofs.branches.Branches.settle.Goals as goal

pub give_failed-requires : goal.give_failed-requires
give_failed-requires g c = record {
  shape = c.requires.sound.shape;
  inside = λ k d low.
      let t = c.args.self.now in
      let p = get_or c.args.failed.now k d in
      let there = contains_from_get c.args.failed.now k p (slice_get-get_or c.args.failed.now k d low) in
      let inner = (inner_part t.size t.nodes.items c.requires.sound.joined p ((c.requires.ready.failing.each p).0 there).0).1 in
      omega (arith, inner, c.requires.sound.shape.nodes_room);
}

pub repair-requires : goal.repair-requires
repair-requires g c =
    let e = c.in_ok-give_failed.ensures in
    let r = c.requires.ready in
    record {
      real = c.requires.real;
      walked = walk_starts (g.O.Signs.scene c.args.now.now) c.requires.real c.args.self.now c.give_failed.new.self c.requires.sound e.shape e.size e.slots c.args.failed.now e.given e.doubted r.live r.spared r.are_spared r.failing;
      quiet = λ v some. e.given.edits v ∙ c.requires.sound.quiet v some;
    }

pub returns-clause-delta : goal.returns-clause-delta
returns-clause-delta g c =
    let t = c.args.self.now in
    let x = c.give_failed.new.self in
    let y = c.repair.new.self in
    let e = c.in_ok-give_failed.ensures in
    let r = c.repair.result in
    let same : tree_facts x.size x.nodes.items ≡ tree_facts t.size t.nodes.items = ap (λ n. tree_facts n x.nodes.items) e.size ∙ tree_same t.size t.nodes.items x.nodes.items (λ v. ap facts_with (e.given.merge v)) in
    for_ok r _ (λ v k. subst (λ (l : List Placed). HasChanged l (tree_facts y.size y.nodes.items) c.args.out.now c.repair.new.out) same (at_ok r _ v k c.repair.ensures.delta))

pub returns-clause-tests : goal.returns-clause-tests
returns-clause-tests g c =
    let t = c.args.self.now in
    let x = c.give_failed.new.self in
    let y = c.repair.new.self.nodes.items in
    let e = c.in_ok-give_failed.ensures in
    let r = c.repair.result in
    for_ok r _ (λ v k keep. at_ok r _ v k c.repair.ensures.tests (orders_from t.size x.size t.nodes.items y x.nodes.items y e.size (λ u. ap₂ chain_with (e.given.merge u) (e.given.passed u)) (λ u. refl) keep))
