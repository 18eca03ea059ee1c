-- The breakpoints and slopes of the code, as the definitions have them.
use Rattle.kin_algebra.specs.declared.sign.Sign.{Sign}
use Rattle.kin_motion.specs.declared.fact.Placed.{Placed}
use Rattle.kin_motion.specs.declared.form.Form.TheVariants.{Slope}
use Rattle.kin_motion.specs.Merges.{Half, Half.{A, B}, Breakpoint, slope_form}
use Rattle.kin_diameter.specs.declared.breakpoint.Chain.{Chain}
use Rattle.kin_diameter.specs.declared.breakpoint.Chain.TheVariants.{Upper, Lower}
use Rattle.kin_diameter.specs.declared.breakpoint.Breakpoint.{Breakpoint as Pair}
use Rattle.kin_diameter.specs.declared.slope.Slope.{Slope as Kept}

-- the half of a chain
abbrev pub half_of : Chain → Half
half_of Upper = A
half_of Lower = B

-- the breakpoint
abbrev pub seen : Pair → Breakpoint
seen e = record { half = half_of e.chain; left = e.left; right = e.right }

-- the slope of two breakpoints with this sign, as a fact
abbrev pub compared : Breakpoint → Breakpoint → Sign → Placed
compared e f t = record { part = 0; fact = record { form = slope_form e f; sign = t } }

-- a kept slope as a fact
abbrev pub slope_fact : Kept → Placed
slope_fact k = record { part = 0; fact = record { form = Slope k.i k.j k.k k.l; sign = k.sign } }
