-- Calls that change the points.
use Rattle.std.specs.Prelude.{◌≡◌, ℕ, ℤ}
use Rattle.kin_motion.specs.Course.{Course, IsSlow}
use Rattle.kin_tracker.specs.Changes.{MayInsert, IsRefusedInsert, MayRemove, IsRefusedRemoval, MayTurn, IsRefusedTurn, MayPlan, IsRefusedLeg}
use Rattle.kin_tracker.specs.Numbers.{IsRefusedMotion}
use Rattle.kin_world.specs.Worlds.{World, HasInserted, HasRemoved, HasReplaced, HasTurned, HasPlanned}
use Rattle.kin_c.specs.declared.status.Status.{Status}
use Rattle.kin_c.specs.Calls.{Changes, Reads}

-- the motion of these four numbers
abbrev pub IsMotion : ℤ → ℤ → ℤ → ℤ → Course → Type 0
IsMotion x y u v motion = (motion ≡ record { x = x; y = y; u = u; v = v }) × IsSlow motion

-- a point starts with a motion
abbrev pub Enters : ℕ → Course → World → World → Status → Type 0
Enters point motion old new = Changes old new (MayInsert old point) (HasInserted point motion old new) (IsRefusedInsert old point)

-- a point starts with the motion of four numbers
abbrev pub Inserts : ℕ → ℤ → ℤ → ℤ → ℤ → World → World → Status → Type 0
Inserts point x y u v old new =
    Reads (IsMotion x y u v) (IsRefusedMotion (record { x = x; y = y; u = u; v = v })) (new ≡ old) (λ motion. Enters point motion old new)

-- a point leaves
abbrev pub Removes : ℕ → World → World → Status → Type 0
Removes point old new = Changes old new (MayRemove old point) (HasRemoved point old new) (IsRefusedRemoval old point)

-- a point starts anew with a motion
abbrev pub Restarts : ℕ → Course → World → World → Status → Type 0
Restarts point motion old new = Changes old new (MayRemove old point) (HasReplaced point motion old new) (IsRefusedRemoval old point)

-- a point starts anew with the motion of four numbers
abbrev pub Replaces : ℕ → ℤ → ℤ → ℤ → ℤ → World → World → Status → Type 0
Replaces point x y u v old new =
    Reads (IsMotion x y u v) (IsRefusedMotion (record { x = x; y = y; u = u; v = v })) (new ≡ old) (λ motion. Restarts point motion old new)

-- a point has another velocity where it is
abbrev pub Turns : ℕ → ℤ → ℤ → World → World → Status → Type 0
Turns point u v old new = Changes old new (MayTurn old point u v) (HasTurned point u v old new) (IsRefusedTurn old point u v)

-- a point is to have another velocity from a whole instant on
abbrev pub Plans : ℕ → ℕ → ℤ → ℤ → World → World → Status → Type 0
Plans point at u v old new = Changes old new (MayPlan old point at u v) (HasPlanned point at u v old new) (IsRefusedLeg old point at u v)
