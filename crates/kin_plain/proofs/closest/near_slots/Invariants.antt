use Rattle.std.proofs.Common.{◌≡◌, ◌++◌, ◌*◌, ◌-◌, ◌^◌, ℕ}
use Rattle.std.specs.Prelude.{IfSome, flat_map}
use Rattle.std.specs.List.{All}
use Rattle.kin_motion.specs.ClosestFacts.{near_slots, near_slots_of_point}
use Rattle.kin_motion.specs.Numbers.{numbers_from}
use Rattle.kin_motion.specs.Octants.{octants}
use Rattle.kin_plain.specs.Comparing.{AreBothLive}
use Rattle.kin_plain.proofs.closest.near_slots.Given as goal

abbrev pub invariant-loop-p : goal.invariant-loop-p
invariant-loop-p g l = record {
  value : l.slots.items ++ flat_map (λ (p : ℕ). near_slots_of_point (g.O.Signs.scene l.now) p (8 * p) octants) (numbers_from l.p (2 ^ l.size - l.p)) ≡ near_slots l.size (g.O.Signs.scene l.now);
  may : All (λ held. IfSome held (AreBothLive (g.O.Signs.scene l.now).live)) l.slots.items;
}
