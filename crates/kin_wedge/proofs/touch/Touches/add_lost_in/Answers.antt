use Rattle.std.specs.Prelude.{None, ⊤}
use Rattle.kin_wedge.proofs.Lost.{offered_first, hit_within, offered_more, offered_done}
use Rattle.kin_wedge.proofs.touch.Touches.add_lost_in.Goals as goal

pub loop-apex-init : goal.loop-apex-init
loop-apex-init c = offered_first c.args.table.now c.args.w c.args.no (λ apex. ⊤) None c.args.self.now.all.items c.hits-apex-items.result _ c.into_iter-apex-iterator.ensures.into_iter_gives c.hits-apex-items.ensures

pub add-requires-clause-slot : goal.add-requires-clause-slot
add-requires-clause-slot c = hit_within c.args.table.now c.args.w c.args.no (λ apex. ⊤) None c.args.self.now.all.items c.loop-apex.self.all.items c.loop-apex.apex-iterator _ c.in-Some.apex c.in-Some.ensures.steps c.loop-apex.invariant

pub loop-apex-preserved : goal.loop-apex-preserved
loop-apex-preserved c =
    offered_more c.args.table.now c.args.w c.args.no (λ apex. ⊤) None c.args.self.now.all.items c.loop-apex.self.all.items c.loop-apex.apex-iterator c.next.new.self c.in-Some.apex c.in-Some.ensures.steps c.loop-apex.invariant
    c.add.new.self.all.items (λ k. c.in_ok-add.ensures.offered) c.in_ok-add.ensures.touched

pub returns-clause-offered : goal.returns-clause-offered
returns-clause-offered c = λ apex hit. offered_done c.args.table.now c.args.w c.args.no (λ apex. ⊤) None c.args.self.now.all.items c.loop-apex.self.all.items c.loop-apex.apex-iterator c.in-None.ensures.steps.0 c.loop-apex.invariant apex tt hit

pub returns-clause-touched : goal.returns-clause-touched
returns-clause-touched c = c.loop-apex.invariant.touched
