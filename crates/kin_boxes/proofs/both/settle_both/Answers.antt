use Rattle.std.proofs.Common.{◌∙◌}
use Rattle.std.proofs.lemmas.Result.{on_ok_weaker}
use Rattle.kin_algebra.proofs.Results.{from_three, from_four}
use Rattle.kin_boxes.proofs.Settling.{x_ready, y_ready, x_told, y_told, joined_now, settled_now, boxes_changed, few_tests}
use Rattle.kin_boxes.proofs.both.settle_both.Goals as goal

pub settle_in-requires-clause-ready : goal.settle_in-requires-clause-ready
settle_in-requires-clause-ready g c = x_ready c.args.by_x.now c.args.by_y.now c.requires.joined (g.O.Signs.scene c.args.now.now) c.requires.ready

pub settle_in-requires-clause-failing : goal.settle_in-requires-clause-failing
settle_in-requires-clause-failing g c = x_told c.args.by_x.now c.args.by_y.now c.requires.joined (g.O.Signs.scene c.args.now.now) c.args.failed.now c.requires.failing c.facts.result.now
    (c.facts.ensures ∙ c.in_ok-sort.ensures.x)

pub settle_in-requires-2-clause-ready : goal.settle_in-requires-2-clause-ready
settle_in-requires-2-clause-ready g c = y_ready c.args.by_x.now c.args.by_y.now c.requires.joined (g.O.Signs.scene c.args.now.now) c.requires.ready

pub settle_in-requires-2-clause-failing : goal.settle_in-requires-2-clause-failing
settle_in-requires-2-clause-failing g c = y_told c.args.by_x.now c.args.by_y.now c.requires.joined (g.O.Signs.scene c.args.now.now) c.args.failed.now c.requires.failing c.facts-2.result.now
    (c.facts-2.ensures ∙ c.in_ok-sort.ensures.y)

pub returns-clause-joined : goal.returns-clause-joined
returns-clause-joined g c =
    let s = g.O.Signs.scene c.args.now.now in
    let x = c.in_ok-settle_in.ensures in
    let y = c.settle_in-2.ensures in
    from_three c.settle_in-2.result
    (λ rest members settled. joined_now c.args.by_x.now c.args.by_y.now c.requires.joined c.settle_in.new.self c.settle_in-2.new.self s c.requires.ready
    (record { rest = x.rest; members = x.members; settled = x.settled; same = c.settle_in.ensures.same }) (record { rest = rest; members = members; settled = settled; same = y.same })) y.rest
    y.members y.settled

pub returns-clause-settled : goal.returns-clause-settled
returns-clause-settled g c =
    let s = g.O.Signs.scene c.args.now.now in
    let x = c.in_ok-settle_in.ensures in
    let y = c.settle_in-2.ensures in
    from_three c.settle_in-2.result
    (λ rest members settled. settled_now c.args.by_x.now c.args.by_y.now c.requires.joined c.settle_in.new.self c.settle_in-2.new.self s c.requires.ready
    (record { rest = x.rest; members = x.members; settled = x.settled; same = c.settle_in.ensures.same }) (record { rest = rest; members = members; settled = settled; same = y.same })) y.rest
    y.members y.settled

pub returns-clause-delta : goal.returns-clause-delta
returns-clause-delta g c =
    let s = g.O.Signs.scene c.args.now.now in
    let x = c.in_ok-settle_in.ensures in
    let y = c.settle_in-2.ensures in
    from_four c.settle_in-2.result
    (λ rest members settled changed. boxes_changed c.args.by_x.now c.args.by_y.now c.requires.joined c.settle_in.new.self c.settle_in-2.new.self s c.requires.ready
    (record { rest = x.rest; members = x.members; settled = x.settled; same = c.settle_in.ensures.same }) (record { rest = rest; members = members; settled = settled; same = y.same })
    c.args.out.now c.settle_in.new.out c.settle_in-2.new.out x.delta changed) y.rest y.members y.settled y.delta

pub returns-clause-tests : goal.returns-clause-tests
returns-clause-tests g c =
    on_ok_weaker c.settle_in-2.result
    (λ second. few_tests c.args.by_x.now c.args.by_y.now c.settle_in.new.self c.settle_in-2.new.self c.args.out.now c.settle_in.new.out c.settle_in-2.new.out c.args.steps.now c.settle_in.new.steps
    c.settle_in-2.new.steps c.in_ok-settle_in.ensures.tests second)
    c.settle_in-2.ensures.tests
