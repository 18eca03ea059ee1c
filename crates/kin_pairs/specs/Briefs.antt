-- The fact of two pairs in few bytes.
use Rattle.std.specs.Prelude.{Option, Some, None}
use Rattle.kin_algebra.specs.declared.sign.Sign.{Sign}
use Rattle.kin_motion.specs.declared.fact.Fact.{Fact}
use Rattle.kin_motion.specs.declared.form.Form.TheVariants.{Dist}
use Rattle.kin_pairs.specs.declared.brief.DistanceBrief.{DistanceBrief}

-- the fact of two distances that is written here, if it has a sign
abbrev pub near_at : DistanceBrief → Option Sign → Option Fact
near_at b None = None
near_at b (Some s) = Some (record { form = Dist b.i b.j b.k b.l; sign = s })

-- the fact of two pairs
abbrev pub near_fact : DistanceBrief → Option Fact
near_fact b = near_at b b.sign
