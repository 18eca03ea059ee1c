use Rattle.std.proofs.Common.{◌≡◌, ◌≤◌, ℕ, ℤ, Some, slice_get}
use Rattle.kin_motion.specs.declared.keep.Keep.TheVariants.{Boxes}
use Rattle.kin_world.proofs.places.find_boxes.Given as goal

-- no boxes have been passed
abbrev pub invariant-loop-k : goal.invariant-loop-k
invariant-loop-k l = (j : ℕ) (w h : ℤ) → slice_get l.keeps j ≡ Some (Boxes w h) → l.k ≤ j
