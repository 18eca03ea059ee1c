-- What is written in few bytes.
use Rattle.std.specs.Prelude.{ℕ, pos, cond, nat_eq, Option, Some, None}
use Rattle.kin_algebra.specs.declared.sign.Sign.{Sign}
use Rattle.kin_motion.specs.declared.fact.Fact.{Fact}
use Rattle.kin_motion.specs.declared.form.Form.TheVariants.{Line}
use Rattle.kin_tourney.specs.declared.along.AlongBrief.{AlongBrief}

-- the slot that a number of two bytes names, where the greatest one names none
abbrev pub slot_of : ℕ → Option ℕ
slot_of n = cond (nat_eq n 65535) None (Some n)

-- the fact of a line that is written here, if it has a sign
abbrev pub along_at : AlongBrief → Option Sign → Option Fact
along_at b None = None
along_at b (Some s) = Some (record { form = Line b.dx b.dy (pos 0) b.i b.j; sign = s })

-- the fact of two points along a direction
abbrev pub along_fact : AlongBrief → Option Fact
along_fact b = along_at b b.sign
