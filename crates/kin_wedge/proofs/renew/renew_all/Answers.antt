use Rattle.std.proofs.Common.{sym, subst, ℕ, ◌<◌, get_or}
use Rattle.std.specs.Prelude.{None}
use Rattle.std.proofs.lemmas.List.{drop_more}
use Rattle.std.proofs.lemmas.List.Elements.{Contains-get_or}
use Rattle.kin_wedge.specs.Seen.{rows_of}
use Rattle.kin_wedge.proofs.TakenUp.{taken_more, taken_all}
use Rattle.kin_wedge.proofs.renew.renew_all.Goals as goal

pub renew-requires-clause-slot : goal.renew-requires-clause-slot
renew-requires-clause-slot c =
    subst (λ (n : ℕ). (get_or c.args.touches.now c.loop-touch.touch-index (record { slot = 0; old = None; offer = None })).slot < n) (sym c.loop-touch.invariant.count)
    (c.requires.slots (get_or c.args.touches.now c.loop-touch.touch-index (record { slot = 0; old = None; offer = None })) (Contains-get_or c.args.touches.now c.loop-touch.touch-index (record { slot = 0; old = None; offer = None }) c.loop-touch-test.true))

pub loop-touch-preserved : goal.loop-touch-preserved
loop-touch-preserved c =
    taken_more (rows_of c.args.orders.now.lists.items) c.requires.rows c.requires.ranked c.args.table.now c.args.touches.now c.loop-touch.table c.renew.new.table c.loop-touch.touch-index
    (get_or c.args.touches.now c.loop-touch.touch-index (record { slot = 0; old = None; offer = None })) c.loop-touch.invariant
    (drop_more c.args.touches.now c.loop-touch.touch-index (record { slot = 0; old = None; offer = None }) c.loop-touch-test.true)
    (subst (λ (n : ℕ). (get_or c.args.touches.now c.loop-touch.touch-index (record { slot = 0; old = None; offer = None })).slot < n) (sym c.loop-touch.invariant.count)
    (c.requires.slots (get_or c.args.touches.now c.loop-touch.touch-index (record { slot = 0; old = None; offer = None })) (Contains-get_or c.args.touches.now c.loop-touch.touch-index (record { slot = 0; old = None; offer = None }) c.loop-touch-test.true)))
    c.renew.ensures.length c.renew.ensures.renewed c.renew.ensures.written

pub returns-clause-answered : goal.returns-clause-answered
returns-clause-answered c = λ slot o e h. taken_all (rows_of c.args.orders.now.lists.items) c.requires.rows c.requires.ranked c.args.table.now c.args.touches.now c.loop-touch.table c.loop-touch.touch-index c.loop-touch-test.false c.loop-touch.invariant slot o e h
