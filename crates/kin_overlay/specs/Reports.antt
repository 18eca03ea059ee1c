-- What is reported of the facts of one list that another doesn't have.
use Rattle.std.specs.Prelude.{◌≡◌, ℕ, ◌+◌, ◌-◌, ◌<◌, ◌≤◌, false, List, [], ◌∷◌, ◌++◌, length, take, drop, slice_get, Contains, ◌⊎◌}
use Rattle.kin_motion.specs.declared.form.Form.{Form}
use Rattle.kin_motion.specs.declared.form.Form.TheVariants.{Line, Turn, Slope, Dist}
use Rattle.kin_motion.specs.declared.fact.Fact.{Fact}
use Rattle.kin_motion.specs.declared.fact.Placed.{Placed}
use Rattle.kin_motion.specs.Numbers.{is_in}
use Rattle.kin_overlay.specs.declared.record.Record.{Record}
use Rattle.kin_overlay.specs.declared.shared.Shared.{Shared}
use Rattle.kin_overlay.specs.Remembered.{placed, left_points}

-- a fact that isn't known is put at the end, and a known one isn't
abbrev pub IsToldOne : ℕ → List Fact → Fact → List Placed → List Placed → Type 0
IsToldOne part known f before after = (Contains known f × (after ≡ before)) ⊎ ((Contains known f → ⊥) × (after ≡ before ++ placed part f ∷ []))

-- the facts that aren't known are put at the end, in their order
abbrev pub IsTold : ℕ → List Fact → List Fact → List Placed → List Placed → Type 0
IsTold part known [] before after = after ≡ before
IsTold part known (f ∷ fs) before after = (middle : List Placed) × IsToldOne part known f before middle × IsTold part known fs middle after

-- w.front records are at the front of both lists, and w.back others at the end of both
pub record AreShared (w : Shared) (xs ys : List Record) : Type 0 where
  pub room : w.front + w.back ≤ length xs
  pub other_room : w.front + w.back ≤ length ys
  pub front_is : (k : ℕ) → k < w.front → slice_get xs k ≡ slice_get ys k
  pub back_is : (k : ℕ) → k < w.back → slice_get xs (length xs - (k + 1)) ≡ slice_get ys (length ys - (k + 1))

-- the point isn't a left point of a record at one of both ends
abbrev pub IsLeftBetween : Shared → List Record → ℕ → Type 0
IsLeftBetween w rs x = (is_in x (left_points (take w.front rs)) ≡ false) × (is_in x (left_points (drop (length rs - w.back) rs)) ≡ false)

-- a form that begins with a left point begins with no left point of a record at one of both ends
abbrev pub IsBetween : Shared → List Record → Form → Type 0
IsBetween w rs (Turn i j k) = IsLeftBetween w rs i
IsBetween w rs (Slope i j k l) = IsLeftBetween w rs i
IsBetween w rs (Line dx dy off i j) = Unit {0}
IsBetween w rs (Dist i j k l) = Unit {0}
