use Rattle.std.proofs.Common.{◌∙◌, arith}
use Rattle.std.proofs.lemmas.Result.{on_ok_weaker}
use Rattle.kin_algebra.proofs.Results.{from_two}
use Rattle.kin_wedge.proofs.Posted.{failing_told}
use Rattle.kin_range.proofs.Settling.{x_told, y_told, y_ready, settled_now, joined_now, range_changed, few_tests}
use Rattle.kin_range.proofs.both.settle_both.Goals as goal

pub settle_list-requires-clause-failing : goal.settle_list-requires-clause-failing
settle_list-requires-clause-failing g c =
    let x = c.args.by_x.now in
    let n = c.requires.told in
    failing_told 0 x.mark x.facts c.args.failed.now c.told.result.now (g.O.Signs.scene c.args.now.now) (c.told.ensures ∙ c.in_ok-sort.ensures.told 0 (omega (arith, n)))
    (x_told x c.args.by_y.now c.requires.joined (g.O.Signs.scene c.args.now.now) c.args.failed.now c.requires.failing)

pub settle_list-requires-2-clause-ready : goal.settle_list-requires-2-clause-ready
settle_list-requires-2-clause-ready g c = y_ready c.args.by_x.now c.args.by_y.now c.requires.joined (g.O.Signs.scene c.args.now.now) c.requires.ready

pub settle_list-requires-2-clause-failing : goal.settle_list-requires-2-clause-failing
settle_list-requires-2-clause-failing g c =
    let y = c.args.by_y.now in
    let n = c.requires.told in
    failing_told 1 y.mark y.facts c.args.failed.now c.told-2.result.now (g.O.Signs.scene c.args.now.now) (c.told-2.ensures ∙ c.in_ok-sort.ensures.told 1 (omega (arith, n)))
    (y_told c.args.by_x.now y c.requires.joined (g.O.Signs.scene c.args.now.now) c.args.failed.now c.requires.failing)

pub returns-clause-joined : goal.returns-clause-joined
returns-clause-joined g c =
    on_ok_weaker c.settle_list-2.result (λ second. joined_now c.args.by_x.now c.args.by_y.now c.requires.joined c.settle_list.new.list c.settle_list-2.new.list (g.O.Signs.scene c.args.now.now) c.in_ok-settle_list.ensures.resettled second) c.settle_list-2.ensures.resettled

pub returns-clause-settled : goal.returns-clause-settled
returns-clause-settled g c =
    on_ok_weaker c.settle_list-2.result (λ second. settled_now c.args.by_x.now c.args.by_y.now c.requires.joined c.settle_list.new.list c.settle_list-2.new.list (g.O.Signs.scene c.args.now.now) c.in_ok-settle_list.ensures.resettled second) c.settle_list-2.ensures.resettled

pub returns-clause-delta : goal.returns-clause-delta
returns-clause-delta g c =
    from_two c.settle_list-2.result
    (λ second changed. range_changed c.args.by_x.now c.args.by_y.now c.requires.joined c.settle_list.new.list c.settle_list-2.new.list (g.O.Signs.scene c.args.now.now) c.in_ok-settle_list.ensures.resettled second c.args.out.now c.settle_list.new.out c.settle_list-2.new.out c.in_ok-settle_list.ensures.delta changed)
    c.settle_list-2.ensures.resettled c.settle_list-2.ensures.delta

pub returns-clause-tests : goal.returns-clause-tests
returns-clause-tests g c =
    on_ok_weaker c.settle_list-2.result
    (λ second. few_tests c.args.by_x.now c.args.by_y.now c.requires.joined c.settle_list.new.list c.settle_list-2.new.list c.args.out.now c.settle_list.new.out c.settle_list-2.new.out c.args.steps.now c.settle_list.new.steps c.settle_list-2.new.steps c.in_ok-settle_list.ensures.tests second)
    c.settle_list-2.ensures.tests
