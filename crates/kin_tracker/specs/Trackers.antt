-- A tracker is seen as the world that it has. It is lost where that isn't whole.
use Rattle.std.specs.Prelude.{◌≡◌, ℕ, IsTrue, IsFalse}
use Rattle.kin_motion.specs.Course.{is_live}
use Rattle.kin_tracker.specs.declared.refusal.Refusal.{Refusal}
use Rattle.kin_tracker.specs.declared.refusal.Refusal.TheVariants.{NoMemory}
use Rattle.kin_world.specs.Worlds.{World}

-- memory was never wanting
abbrev pub IsHere : World → Type 0
IsHere w = IsTrue w.whole

-- memory was wanting in a change
abbrev pub IsLost : World → Type 0
IsLost w = IsFalse w.whole

-- the number is live
abbrev pub IsPresent : World → ℕ → Type 0
IsPresent w number = IsTrue (is_live w.motions number)

-- the number isn't live
abbrev pub IsAbsent : World → ℕ → Type 0
IsAbsent w number = IsFalse (is_live w.motions number)

-- a call that isn't carried out changes nothing, but where memory is wanting the tracker is lost
abbrev pub Leaves : World → World → Refusal → Type 0
Leaves old new NoMemory = IsLost new
Leaves old new _ = new ≡ old
