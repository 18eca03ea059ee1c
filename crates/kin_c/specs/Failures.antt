-- Failures as plain numbers.
use Rattle.std.specs.Prelude.{ℤ, pos, negsuc}
use Rattle.kin_algebra.specs.declared.sign.Sign.{Sign}
use Rattle.kin_algebra.specs.declared.sign.Sign.TheVariants.{Minus, Zero, Plus}
use Rattle.kin_motion.specs.declared.form.Form.{Form}
use Rattle.kin_motion.specs.declared.form.Form.TheVariants.{Line, Turn, Slope, Dist}
use Rattle.kin_motion.specs.Journal.{Failure}
use Rattle.kin_c.specs.declared.failure.KinFailure.{KinFailure}
use Rattle.kin_c.specs.declared.failure.KinForm.{KinForm}

-- a sign as a number
abbrev pub sign_number : Sign → ℤ
sign_number Minus = negsuc 0
sign_number Zero = pos 0
sign_number Plus = pos 1

-- a form as numbers, 0 where it has none
abbrev pub form_numbers : Form → KinForm
form_numbers (Line dx dy off i j) = record { kind = 0; i = i; j = j; k = 0; l = 0; dx = dx; dy = dy; off = off }
form_numbers (Turn i j k) = record { kind = 1; i = i; j = j; k = k; l = 0; dx = pos 0; dy = pos 0; off = pos 0 }
form_numbers (Slope i j k l) = record { kind = 2; i = i; j = j; k = k; l = l; dx = pos 0; dy = pos 0; off = pos 0 }
form_numbers (Dist i j k l) = record { kind = 3; i = i; j = j; k = k; l = l; dx = pos 0; dy = pos 0; off = pos 0 }

-- a failure as numbers
abbrev pub failure_numbers : Failure → KinFailure
failure_numbers f = record {
  structure = f.was.structure;
  part = f.was.placed.part;
  form = form_numbers f.was.placed.fact.form;
  before = sign_number f.was.placed.fact.sign;
  after = sign_number f.now;
}
