-- Which remembered facts neither have failed nor name a number that has left.
use Rattle.std.specs.Prelude.{◌≡◌, false, ℕ, List, Contains}
use Rattle.kin_motion.specs.declared.fact.Fact.{Fact}
use Rattle.kin_motion.specs.declared.fact.Placed.{Placed}
use Rattle.kin_motion.specs.Scene.{Scene, Holds}
use Rattle.kin_overlay.specs.declared.standing.Standing.{Standing}
use Rattle.kin_overlay.specs.Overlays.{names_any}
use Rattle.kin_overlay.specs.Remembered.{facts_of}

-- the fact isn't among the failed ones, and it names none of the numbers
pub record IsUnfailed (failed : List Placed) (gone : List ℕ) (f : Fact) : Type 0 where
  pub not_failed : (p : Placed) → Contains failed p → p.fact ≡ f → ⊥
  pub not_named : names_any f.form gone ≡ false

-- the remembered facts that haven't failed and name no number that is gone hold in the scene
abbrev pub StandIn : Scene → Standing → Type 0
StandIn s w = (f : Fact) → Contains (facts_of w.list.now) f → IsUnfailed w.failed.now w.gone.now f → Holds s f
