use Rattle.std.proofs.Common.{◌≡◌, ℕ, Some, slice_get, ◌<◌}
use Rattle.kin_hull.specs.Hulls.{Hull}
use Rattle.kin_world.specs.declared.structure.Structure.TheVariants.{Hull as HullOf}
use Rattle.kin_world.proofs.farthest.hull_among.Given as goal

abbrev pub invariant-loop-structure : goal.invariant-loop-structure
invariant-loop-structure l = (n : ℕ) (hull : Hull) → n < l.structure-index → ¬ (slice_get l.structures n ≡ Some (HullOf hull))
