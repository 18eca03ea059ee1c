-- What can be seen at one moment. Every answer but that of a rectangle, and every fact, depends on one scene.
use Rattle.std.specs.Prelude.{◌≡◌, ℕ, pos, List, Option}
use lib.IntN.{neg_ℤ}
use Rattle.kin_algebra.specs.declared.sign.Sign.{Sign}
use Rattle.kin_num.specs.declared.instant.Moment.{Moment}
use Rattle.kin_algebra.specs.Signs.{opposite_of}
use Rattle.kin_num.specs.Canonical.{IsCanonical}
use Rattle.kin_motion.specs.declared.form.Form.{Form}
use Rattle.kin_motion.specs.declared.form.Form.TheVariants.{Line, Turn, Slope, Dist}
use Rattle.kin_motion.specs.declared.fact.Fact.{Fact}
use Rattle.kin_motion.specs.declared.fact.Placed.{Placed}
use Rattle.kin_motion.specs.Course.{Course, live_of}
use Rattle.kin_motion.specs.Forms.{sign_of_form}

-- the live numbers, rising, and the sign of each form
pub record Scene : Type 0 where
  pub live : List ℕ
  pub sign : Form → Sign

-- the scene of these motions at this moment
abbrev pub scene_at : List (Option Course) → Moment → Scene
scene_at ms m = record { live = live_of ms; sign = λ f. sign_of_form ms f m }

-- + where j is to the right of i, and 0 where it has the same x
abbrev pub x_sign : Scene → ℕ → ℕ → Sign
x_sign s i j = s.sign (Line (pos 1) (pos 0) (pos 0) i j)

-- + where j is higher than i, and 0 where it has the same y
abbrev pub y_sign : Scene → ℕ → ℕ → Sign
y_sign s i j = s.sign (Line (pos 0) (pos 1) (pos 0) i j)

-- a form with its sign
abbrev pub fact_at : Scene → Form → Fact
fact_at s f = record { form = f; sign = s.sign f }

-- a form with its sign, in a part
abbrev pub placed_at : Scene → ℕ → Form → Placed
placed_at s part f = record { part = part; fact = fact_at s f }

-- the form has the fact's sign
abbrev pub Holds : Scene → Fact → Type 0
Holds s f = s.sign f.form ≡ f.sign

-- the sign of a form after y is turned round
abbrev pub reflected_sign : Scene → Form → Sign
reflected_sign s (Line dx dy off i j) = s.sign (Line dx (neg_ℤ dy) off i j)
reflected_sign s (Turn i j k) = opposite_of (s.sign (Turn i j k))
reflected_sign s (Slope i j k l) = opposite_of (s.sign (Slope i j k l))
reflected_sign s (Dist i j k l) = s.sign (Dist i j k l)

-- the scene after y is turned round
abbrev pub reflected : Scene → Scene
reflected s = record { live = s.live; sign = reflected_sign s }

-- it is the scene of some motions at some canonical moment, so the laws of signs hold in it
pub record IsReal (s : Scene) : Type 0 where
  pub motions : List (Option Course)
  pub moment : Moment
  pub canonical : IsCanonical moment.at
  pub live : s.live ≡ live_of motions
  pub sign : (f : Form) → s.sign f ≡ sign_of_form motions f moment
