-- Two points of the generator, and their first failures.
use Rattle.std.specs.Prelude.{◌≡◌, pos, negsuc, List, [], ◌∷◌, Option}
use Rattle.kin_algebra.specs.declared.sign.Sign.TheVariants.{Zero, Plus}
use Rattle.kin_num.specs.declared.instant.Shape.TheVariants.{Ratio}
use Rattle.kin_num.specs.declared.instant.Phase.TheVariants.{At, After}
use Rattle.kin_num.specs.declared.instant.Moment.{Moment}
use Rattle.kin_motion.specs.declared.form.Form.TheVariants.{Line}
use Rattle.kin_motion.specs.declared.keep.Keep.TheVariants.{Order, Extreme, Hull, Closest, Range}
use Rattle.kin_motion.specs.Course.{Course}
use Rattle.kin_motion.specs.Journal.{Setting, failures_at}
use Rattle.kin_rows.specs.Settings.{point, at, setting, failure}

-- the first two points of the seed 0
abbrev pub generated : List (Option Course)
generated = point (pos 463) (negsuc 752) (pos 1) (negsuc 4) ∷ point (pos 158) (negsuc 269) (pos 4) (negsuc 1) ∷ []

-- every kind of structure is kept
abbrev pub generated_kept : Setting
generated_kept = setting 1 (Order (pos 1) (pos 0) ∷ Extreme (pos 1) (pos 1) ∷ Hull ∷ Closest ∷ Range ∷ []) generated

-- the instant 127/9
abbrev pub meeting : Moment
meeting = record { at = Ratio (pos 127) (pos 9); phase = At }

-- just after it
abbrev pub met : Moment
met = record { at = Ratio (pos 127) (pos 9); phase = After }

-- along 2x + y, a direction of the octants, the points are level at 127/9
pub record GeneratedRows : Type 0 where
  pub level : failures_at generated_kept (at (pos 0)) meeting ≡ failure 3 4 (Line (pos 2) (pos 1) (pos 0) 1 0) Plus Zero ∷ []
  pub exchanged : failures_at generated_kept meeting met ≡ failure 3 4 (Line (pos 2) (pos 1) (pos 0) 0 1) Zero Plus ∷ []
