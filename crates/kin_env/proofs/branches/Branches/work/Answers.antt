use Rattle.std.proofs.Common.{◌≡◌, sym, ◌∙◌, arith, ◌<◌, ◌≤◌, ◌^◌, true, false}
use Rattle.kin_algebra.proofs.Results.{for_ok, at_ok}
use Rattle.kin_env.proofs.Works.{told, worked_visit, worked_idle, worked_leaf}
use Rattle.kin_env.proofs.branches.Branches.work.Goals as goal

pub visit-requires-clause-told : goal.visit-requires-clause-told
visit-requires-clause-told g c =
    let inner : c.args.node < 2 ^ c.args.self.now.size = omega (arith, c.requires.walked.shape.slots_room) in
    told (g.O.Signs.scene c.args.now.now) c.requires.real c.args.self.now c.requires.walked c.args.node c.requires.next inner

pub returns-then-node-len-clause-worked : goal.returns-then-node-len-clause-worked
returns-then-node-len-clause-worked g c =
    let high : 2 ^ c.args.self.now.size ≤ c.args.node = omega (arith, c.requires.walked.shape.slots_room) in
    let e = c.visit_leaf.ensures in
    let r = c.visit_leaf.result in
    for_ok r _ (λ x k. worked_leaf (g.O.Signs.scene c.args.now.now) c.requires.real c.args.self.now c.requires.walked c.args.node c.requires.next high c.visit_leaf.new.self.nodes.items c.args.out.now
    e.room e.others e.merge (at_ok r _ x k e.passed) (at_ok r _ x k e.leads) e.failed)

pub returns-then-node-len-clause-tests : goal.returns-then-node-len-clause-tests
returns-then-node-len-clause-tests g c = for_ok c.visit_leaf.result _ (λ x k h. omega arith)

pub returns-then-has_work-clause-tests : goal.returns-then-has_work-clause-tests
returns-then-has_work-clause-tests g c = c.visit.ensures.tests

pub returns-clause-tests : goal.returns-clause-tests
returns-clause-tests g c = λ h. omega arith

pub returns-then-has_work-clause-worked : goal.returns-then-has_work-clause-worked
returns-then-has_work-clause-worked g c =
    let inner : c.args.node < 2 ^ c.args.self.now.size = omega (arith, c.requires.walked.shape.slots_room) in
    let r = c.visit.result in
    for_ok r _ (λ x k. worked_visit (g.O.Signs.scene c.args.now.now) c.requires.real c.args.self.now c.requires.walked c.args.node c.requires.next inner c.visit.new.self.nodes.items c.args.out.now c.visit.new.out (at_ok r _ x k c.visit.ensures.visited))

pub returns-clause-worked : goal.returns-clause-worked
returns-clause-worked g c =
    let inner : c.args.node < 2 ^ c.args.self.now.size = omega (arith, c.requires.walked.shape.slots_room) in
    worked_idle (g.O.Signs.scene c.args.now.now) c.requires.real c.args.self.now c.requires.walked c.args.node c.requires.next inner
    (λ e. absurd (let k : false ≡ true = sym c.if-has_work.false ∙ c.has_work.ensures.1 e in cc)) c.args.out.now
