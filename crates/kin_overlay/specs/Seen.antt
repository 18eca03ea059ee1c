-- The halves and breakpoints of the code, as the definitions have them.
use Rattle.kin_motion.specs.Merges.{Half.{A, B}, Half, Breakpoint}
use Rattle.kin_overlay.specs.declared.half.Half.{Half as Side}
use Rattle.kin_overlay.specs.declared.half.Half.TheVariants.{A as SideA, B as SideB}
use Rattle.kin_overlay.specs.declared.breakpoint.Breakpoint.{Breakpoint as Pair}

-- the half
abbrev pub half_of : Side → Half
half_of SideA = A
half_of SideB = B

-- the breakpoint
abbrev pub seen : Pair → Breakpoint
seen e = record { half = half_of e.half; left = e.left; right = e.right }
