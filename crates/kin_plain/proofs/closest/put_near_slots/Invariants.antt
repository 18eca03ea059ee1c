use Rattle.std.proofs.Common.{◌≡◌, ◌++◌, ◌+◌, ◌*◌, drop}
use Rattle.std.specs.Prelude.{IfSome}
use Rattle.std.specs.List.{All}
use Rattle.kin_motion.specs.ClosestFacts.{near_slots_of_point}
use Rattle.kin_motion.specs.Octants.{octants}
use Rattle.kin_plain.specs.Comparing.{AreBothLive}
use Rattle.kin_plain.proofs.closest.put_near_slots.Given as goal

abbrev pub invariant-loop-w : goal.invariant-loop-w
invariant-loop-w g l = record {
  value : l.slots.items ++ near_slots_of_point (g.O.Signs.scene l.now) l.p (8 * l.p + l.w) (drop l.w octants) ≡ l.fn.slots.items ++ near_slots_of_point (g.O.Signs.scene l.now) l.p (8 * l.p) octants;
  may : All (λ held. IfSome held (AreBothLive (g.O.Signs.scene l.now).live)) l.slots.items;
}
