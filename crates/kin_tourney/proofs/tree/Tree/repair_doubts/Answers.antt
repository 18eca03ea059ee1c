use Rattle.std.proofs.Common.{◌≡◌, sym, ap, ◌∙◌, subst, arith, ◌<◌, length}
use Rattle.kin_tourney.specs.declared.doubt.Doubt.TheVariants.{Clear}
use Rattle.kin_tourney.specs.Standings.{Standings, doubt_in}
use Rattle.kin_tourney.specs.Repairs.{IsPerfect, IsLowest, IsDone}
use Rattle.kin_tourney.proofs.Trees.{all_clear, some_inner, perfect}
use Rattle.kin_tourney.proofs.Mending.{mending_starts, passed, stepped}
use Rattle.kin_tourney.proofs.Climbing.{climbed_on}
use Rattle.kin_tourney.proofs.tree.Tree.repair_doubts.Goals as goal

pub first_doubt-node-requires : goal.first_doubt-node-requires
first_doubt-node-requires g c =
    let t = c.args.self.now in
    let tree = c.requires.doubtful.tree in
    let same = c.deref.ensures.value ∙ ap (λ (t : Standings g.row.K-Item.Denot). t.doubts) c.self.view_is in
    let many = some_inner t tree c.requires.some in
    record { tree = subst IsPerfect (sym same) (perfect t tree); some = subst (λ ds. 1 < length ds) (sym same) (omega (arith, many, tree.doubts_room)) }

pub loop-node-init : goal.loop-node-init
loop-node-init g c =
    let same = c.deref.ensures.value ∙ ap (λ (t : Standings g.row.K-Item.Denot). t.doubts) c.self.view_is in
    record {
      mending = mending_starts c.args.all (g.K.Keyed.key c.args.key.now) (g.O.Signs.scene c.args.now.now).sign c.args.self.now c.args.out.now c.requires.doubtful;
      place = subst (λ ds. 0 < c.first_doubt-node.result → IsLowest ds c.first_doubt-node.result) same c.first_doubt-node.ensures.lowest;
      ended = subst (λ ds. c.first_doubt-node.result ≡ 0 → doubt_in ds 1 ≡ Clear) same c.first_doubt-node.ensures.none;
      cost = omega arith;
    }

pub settle_node-requires-clause-halves : goal.settle_node-requires-clause-halves
settle_node-requires-clause-halves g c =
    (passed _ _ _ _ _ _ _ _ _ _ (c.loop-node.invariant.place c.loop-node-test.true) c.loop-node.invariant.mending c.renew.ensures.tree c.in_ok-renew.ensures.renewed).halves_clear

pub climb-node-requires-clause-done : goal.climb-node-requires-clause-done
climb-node-requires-clause-done g c =
    (stepped _ _ _ _ _ _ _ _ _ _ _ (c.loop-node.invariant.place c.loop-node-test.true) c.loop-node.invariant.mending c.renew.ensures.tree c.in_ok-renew.ensures.renewed c.settle_node.ensures.tree c.settle_node.ensures.cleared).done

pub next_doubt-node-requires : goal.next_doubt-node-requires
next_doubt-node-requires g c =
    let p = stepped _ _ _ _ _ _ _ _ _ _ _ (c.loop-node.invariant.place c.loop-node-test.true) c.loop-node.invariant.mending c.renew.ensures.tree c.in_ok-renew.ensures.renewed c.settle_node.ensures.tree c.settle_node.ensures.cleared in
    let q = climbed_on _ _ _ _ _ _ c.climb-node.new.self _ _ _ _ p c.climb-node.ensures.same c.climb-node.ensures.climbed in
    let same = c.deref-in-loop-node.ensures.value ∙ ap (λ (t : Standings g.row.K-Item.Denot). t.doubts) c.self-in-loop-node.view_is in
    record { tree = subst IsPerfect (sym same) (perfect c.climb-node.new.self q.mending.doubtful.tree); done = subst (λ ds. IsDone ds c.climb-node.result) (sym same) q.done }

pub loop-node-smaller : goal.loop-node-smaller
loop-node-smaller g c =
    let p = stepped _ _ _ _ _ _ _ _ _ _ _ (c.loop-node.invariant.place c.loop-node-test.true) c.loop-node.invariant.mending c.renew.ensures.tree c.in_ok-renew.ensures.renewed c.settle_node.ensures.tree c.settle_node.ensures.cleared in
    let q = climbed_on _ _ _ _ _ _ c.climb-node.new.self _ _ _ _ p c.climb-node.ensures.same c.climb-node.ensures.climbed in
    omega (arith, q.count)

pub loop-node-preserved : goal.loop-node-preserved
loop-node-preserved g c =
    let p = stepped _ _ _ _ _ _ _ _ _ _ _ (c.loop-node.invariant.place c.loop-node-test.true) c.loop-node.invariant.mending c.renew.ensures.tree c.in_ok-renew.ensures.renewed c.settle_node.ensures.tree c.settle_node.ensures.cleared in
    let q = climbed_on _ _ _ _ _ _ c.climb-node.new.self _ _ _ _ p c.climb-node.ensures.same c.climb-node.ensures.climbed in
    let same = c.deref-in-loop-node.ensures.value ∙ ap (λ (t : Standings g.row.K-Item.Denot). t.doubts) c.self-in-loop-node.view_is in
    record {
      mending = q.mending;
      place = subst (λ ds. 0 < c.next_doubt-node.result → IsLowest ds c.next_doubt-node.result) same c.next_doubt-node.ensures.lowest;
      ended = λ e. q.ended (c.next_doubt-node.ensures.none e);
      cost = omega (arith, q.count, c.loop-node.invariant.cost, c.in_ok-renew.ensures.cost);
    }

pub returns-clause-clear : goal.returns-clause-clear
returns-clause-clear g c = all_clear c.loop-node.self.doubts c.loop-node.invariant.mending.doubtful.tree.closed (c.loop-node.invariant.ended (omega arith))
