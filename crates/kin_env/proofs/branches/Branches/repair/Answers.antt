use Rattle.std.proofs.Common.{◌≡◌, refl, sym, ap, ◌∙◌, subst, arith, ◌+◌, ◌*◌, ◌<◌, ◌/◌, ◌^◌, List, length}
use Rattle.std.proofs.lemmas.Nat.{pow-add}
use Rattle.std.proofs.Math.Pow.{pow_pos}
use Rattle.kin_motion.specs.declared.fact.Placed.{Placed}
use Rattle.kin_motion.specs.Kinetics.{HasChanged}
use Rattle.kin_tourney.specs.declared.doubt.Doubt.TheVariants.{Clear}
use Rattle.kin_tourney.specs.Standings.{doubt_in}
use Rattle.kin_tourney.specs.Repairs.{IsPerfect, IsLowest, IsDone}
use Rattle.kin_tourney.proofs.Trees.{above_in_doubt}
use Rattle.kin_env.specs.declared.branches.Branches.{Branches}
use Rattle.kin_env.specs.Walks.{IsShaped, tree_facts}
use Rattle.kin_env.proofs.Reports.{reporting_starts, reporting_on}
use Rattle.kin_env.proofs.Ends.{all_sound, all_right, chains_stay, facts_stay}
use Rattle.kin_env.proofs.Paid.{paid_on, orders_from}
use Rattle.kin_env.proofs.branches.Branches.repair.Goals as goal

perfect : (t : Branches) → IsShaped t → IsPerfect t.doubts.items
perfect t h = (t.size + 1, h.doubts_room ∙ (let double : 2 ^ (t.size + 1) ≡ 2 ^ t.size * 2 = pow-add 2 t.size 1 in omega arith))

pub first_doubt-node-requires : goal.first_doubt-node-requires
first_doubt-node-requires g c =
    let shape = c.requires.walked.shape in
    let same = c.deref.ensures.value in
    record { tree = subst IsPerfect (sym same) (perfect c.args.self.now shape); some = subst (λ ds. 1 < length ds) (sym same) (omega (arith, shape.doubts_room, pow_pos c.args.self.now.size)) }

pub loop-node-init : goal.loop-node-init
loop-node-init g c =
    let same = c.deref.ensures.value in
    record {
      walked = c.requires.walked;
      report = reporting_starts c.args.self.now c.args.out.now c.requires.walked.joined;
      paid = λ h. omega arith;
      place = subst (λ ds. 0 < c.first_doubt-node.result → IsLowest ds c.first_doubt-node.result) same c.first_doubt-node.ensures.lowest;
      ended = subst (λ ds. c.first_doubt-node.result ≡ 0 → doubt_in ds 1 ≡ Clear) same c.first_doubt-node.ensures.none;
    }

pub next_doubt-node-requires : goal.next_doubt-node-requires
next_doubt-node-requires g c =
    let t = c.loop-node.self in
    let x = c.renew.new.self in
    let v = c.loop-node.node in
    let i = c.loop-node.invariant in
    let at = i.place c.loop-node-test.true in
    let r = c.in_ok-renew.ensures.renewed in
    let shape = c.in_ok-renew.ensures.walked.shape in
    let size_is : 2 ^ x.size ≡ 2 ^ t.size = ap (λ n. 2 ^ n) r.same_size in
    let same = c.deref-in-loop-node.ensures.value in
    record {
      tree = subst IsPerfect (sym same) (perfect x shape);
      done = subst (λ ds. IsDone ds v) (sym same) (record {
        some = at.some;
        inside = omega (arith, at.inside, i.walked.shape.doubts_room, shape.doubts_room, size_is);
        clear = r.cleared;
        above = r.others (v / 2) (let some = at.some in omega arith) (above_in_doubt t.doubts.items i.walked.shape.closed v at.some at.doubted);
      });
    }

pub loop-node-smaller : goal.loop-node-smaller
loop-node-smaller g c = omega (arith, c.in_ok-renew.ensures.renewed.count)

pub loop-node-preserved : goal.loop-node-preserved
loop-node-preserved g c =
    let i = c.loop-node.invariant in
    let x = c.renew.new.self in
    let v = c.loop-node.node in
    let some = c.loop-node-test.true in
    let at = i.place some in
    let r = c.in_ok-renew.ensures.renewed in
    let w = c.in_ok-renew.ensures.walked in
    record {
      walked = w;
      report = reporting_on c.args.self.now c.loop-node.self x c.args.out.now c.loop-node.out c.renew.new.out v at.doubted i.walked.joined w.joined i.report r;
      paid = λ keep. paid_on c.args.self.now c.loop-node.self x c.args.out.now c.loop-node.out c.renew.new.out v some at.doubted c.requires.quiet i.report r keep c.args.steps.now c.loop-node.steps c.renew.new.steps i.paid c.in_ok-renew.ensures.tests;
      place = subst (λ ds. 0 < c.next_doubt-node.result → IsLowest ds c.next_doubt-node.result) c.deref-in-loop-node.ensures.value c.next_doubt-node.ensures.lowest;
      ended = λ none. ap (doubt_in x.doubts.items) (let up = c.next_doubt-node.ensures.none none in let one : 1 ≡ v = omega arith in one) ∙ r.cleared;
    }

pub returns-clause-sound : goal.returns-clause-sound
returns-clause-sound g c = all_sound (g.O.Signs.scene c.args.now.now) c.requires.real c.loop-node.self c.quiet_root.new.self c.loop-node.invariant.walked (c.loop-node.invariant.ended (omega arith)) c.quiet_root.ensures

pub returns-clause-right : goal.returns-clause-right
returns-clause-right g c = all_right (g.O.Signs.scene c.args.now.now) c.requires.real c.loop-node.self c.quiet_root.new.self c.loop-node.invariant.walked (c.loop-node.invariant.ended (omega arith)) c.quiet_root.ensures

pub returns-clause-delta : goal.returns-clause-delta
returns-clause-delta g c =
    let start = c.args.self.now in
    let t = c.loop-node.self in
    let x = c.quiet_root.new.self in
    let i = c.loop-node.invariant in
    let size_is = ap (λ (b : Branches). b.size) c.quiet_root.ensures.same ∙ i.report.same_size in
    subst (λ (l : List Placed). HasChanged (tree_facts start.size start.nodes.items) l c.args.out.now c.loop-node.out)
    (sym (ap (λ n. tree_facts n x.nodes.items) size_is ∙ facts_stay (g.O.Signs.scene c.args.now.now) c.requires.real t x i.walked (i.ended (omega arith)) c.quiet_root.ensures start.size)) i.report.changed

pub returns-clause-tests : goal.returns-clause-tests
returns-clause-tests g c = λ keep.
    let start = c.args.self.now in
    let i = c.loop-node.invariant in
    let stay = chains_stay (g.O.Signs.scene c.args.now.now) c.requires.real c.loop-node.self c.quiet_root.new.self i.walked (i.ended (omega arith)) c.quiet_root.ensures in
    i.paid (orders_from start.size start.size start.nodes.items c.quiet_root.new.self.nodes.items start.nodes.items c.loop-node.self.nodes.items refl (λ v. refl) (λ v. sym (stay v)) keep)
