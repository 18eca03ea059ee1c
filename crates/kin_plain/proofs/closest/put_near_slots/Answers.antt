use Rattle.std.proofs.Common.{arith, ◌+◌, ◌*◌}
use Rattle.std.specs.Prelude.{IfSome}
use Rattle.std.proofs.lemmas.List.Elements.{All-push, All-same}
use Rattle.kin_plain.specs.Comparing.{AreBothLive}
use Rattle.kin_plain.proofs.Wedges.{slot_more}
use Rattle.kin_plain.proofs.closest.put_near_slots.Goals as goal

pub loop-w-preserved : goal.loop-w-preserved
loop-w-preserved g c = record {
  value =
      slot_more (g.O.Signs.scene c.args.now.now) c.args.p (8 * c.args.p + c.loop-w.w) _ c.loop-w.w _ c.near_slot-held.result c.loop-w.slots.items c.put.new.list.items _ (omega arith)
      c.octant_at.ensures.octant c.near_slot-held.ensures.value c.in_ok-put.ensures
      c.loop-w.invariant.value;
  may =
      All-same (λ held. IfSome held (AreBothLive (g.O.Signs.scene c.args.now.now).live)) _ _ c.in_ok-put.ensures
      (All-push (λ held. IfSome held (AreBothLive (g.O.Signs.scene c.args.now.now).live)) c.loop-w.slots.items c.near_slot-held.result c.loop-w.invariant.may c.near_slot-held.ensures.may);
}
