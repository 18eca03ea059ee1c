-- A repair where one turn has failed, and nothing else has changed.
use Rattle.std.specs.Prelude.{◌≡◌, ℕ, [], ◌∷◌, Some, slice_get, slice_set}
use Rattle.kin_algebra.specs.declared.sign.Sign.{Sign}
use Rattle.kin_motion.specs.declared.form.Form.TheVariants.{Turn}
use Rattle.kin_motion.specs.declared.fact.Placed.{Placed}
use Rattle.kin_motion.specs.Scene.{Scene}
use Rattle.kin_overlay.specs.declared.record.Record.{Record}
use Rattle.kin_overlay.specs.declared.sketch.Puts.{Puts}
use Rattle.kin_overlay.specs.declared.standing.Standing.{Standing}
use Rattle.kin_overlay.specs.Remembered.{Remembered, turn_fact}

-- the turn of the record at this place has failed, no other fact has, and no number was put or has left
pub record IsLoneTurn (w : Standing) (puts : Puts) (k : ℕ) : Type 0 where
  pub turned : Record
  pub there : slice_get w.list.now.records k ≡ Some turned
  pub failed : Placed
  pub alone : w.failed.now ≡ failed ∷ []
  pub is_turn : turn_fact turned ≡ failed.fact
  pub gone : w.gone.now ≡ []
  pub put_a : puts.a.now ≡ []
  pub put_b : puts.b.now ≡ []

-- the list with this sign of the turn of a record, which is at this place
abbrev pub with_turn : Remembered → ℕ → Record → Sign → Remembered
with_turn m k r t = record m { records = slice_set m.records k (record r { turn = t }) }

-- the record with the sign that its turn has in the scene
abbrev pub asked_again : Scene → Record → Record
asked_again s r = record r { turn = s.sign (Turn r.at.left r.at.right r.across) }

-- the list with the turn at this place asked again
pub record IsTurned (s : Scene) (old : Remembered) (k : ℕ) (new : Remembered) : Type 0 where
  pub turned : Record
  pub there : slice_get old.records k ≡ Some turned
  pub new_is : new ≡ with_turn old k turned (asked_again s turned).turn
