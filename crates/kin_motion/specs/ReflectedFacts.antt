-- Facts after y is turned round: the form stays, the sign may change sides.
use Rattle.std.specs.Prelude.{◌≡◌, ◌⊎◌, ◌↔◌, zero, suc, Bool, true, false, cond, ℤ, pos, negsuc}
use Rattle.kin_algebra.specs.Signs.{opposite_of}
use Rattle.kin_motion.specs.declared.form.Form.{Form}
use Rattle.kin_motion.specs.declared.form.Form.TheVariants.{Line, Turn, Slope, Dist}
use Rattle.kin_motion.specs.declared.fact.Fact.{Fact}
use Rattle.kin_motion.specs.Scene.{Scene, IsReal, Holds, reflected}

-- whether the number is 0
abbrev pub is_nothing : ℤ → Bool
is_nothing (pos zero) = true
is_nothing (pos (suc n)) = false
is_nothing (negsuc n) = false

-- whether the sign of the form is the opposite one after y is turned round: that of a turn, of a slope and of a line along y
abbrev pub changes_sides : Form → Bool
changes_sides (Line dx dy off i j) = cond (is_nothing dy) false true
changes_sides (Turn i j k) = true
changes_sides (Slope i j k l) = true
changes_sides (Dist i j k l) = false

-- the fact as it is seen after y is turned round
abbrev pub reflected_fact : Fact → Fact
reflected_fact f = record { form = f.form; sign = cond (changes_sides f.form) (opposite_of f.sign) f.sign }

-- a line goes along x or along y, without an offset, as every line of a hull does
abbrev pub IsUpright : Form → Type 0
IsUpright (Line dx dy off i j) = ((dx ≡ pos 0) ⊎ (dy ≡ pos 0)) × (off ≡ pos 0)
IsUpright _ = Unit {0}

-- a fact whose lines are along x or along y holds exactly where, as it is seen after y is turned round, it holds in the reflected scene
abbrev pub ReflectedFactsHold : Type 0
ReflectedFactsHold = (s : Scene) (f : Fact) → IsReal s → IsUpright f.form → Holds s f ↔ Holds (reflected s) (reflected_fact f)

-- and reflected twice it is the same
abbrev pub ReflectedTwiceIsSame : Type 0
ReflectedTwiceIsSame = (f : Fact) → reflected_fact (reflected_fact f) ≡ f
