use Rattle.std.proofs.Common.{sym, ap, ◌∙◌, subst, arith, ◌<◌}
use Rattle.std.specs.Prelude.{IfSome}
use Rattle.std.specs.VecDeque.{deque_items, deque_len, deque_capacity}
use Rattle.std.proofs.Math.Seq.{map-set_same}
use Rattle.std.proofs.lemmas.Result.{on_ok_weaker}
use Rattle.kin_algebra.proofs.Places.{get-set_same}
use Rattle.kin_legs.specs.Filing.{filed_under}
use Rattle.kin_legs.proofs.legs.make_room.Goals as goal

pub returns-clause-filed : goal.returns-clause-filed
returns-clause-filed c = λ i.
    ap (filed_under i) (map-set_same deque_items c.grow.new.queues.items c.args.no c.reserve.new.self c.index_mut.result.now (c.reserve.ensures.items ∙ ap deque_items c.index_mut.ensures.value)) ∙ c.in_ok-grow.ensures.filed i

pub returns-clause-room : goal.returns-clause-room
returns-clause-room c =
    on_ok_weaker c.reserve.result
    (λ fits. subst (λ o. IfSome o (λ q. deque_len q < deque_capacity q)) (sym (get-set_same c.grow.new.queues.items c.args.no c.reserve.new.self (let e = c.in_ok-grow.ensures.enough in omega (arith, e)))) (let l = c.reserve.ensures.len in omega (arith, fits, l)))
    c.reserve.ensures.ok
