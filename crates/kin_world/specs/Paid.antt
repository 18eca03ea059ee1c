-- What repairs cost, structure after structure. No public clause of the world cites this module.
use Rattle.std.specs.Prelude.{◌≡◌, ◌≢◌, ℕ, ◌+◌, ◌*◌, ◌≤◌, List, Some, slice_get, length, sum}
use Rattle.kin_motion.specs.declared.keep.Keep.{Keep}
use Rattle.kin_motion.specs.Agreements.{FitsSize}
use Rattle.kin_motion.specs.Live.{Certificate, IsLiveFact}
use Rattle.kin_motion.specs.Scene.{Scene, IsReal, Holds}
use Rattle.kin_motion.specs.Spending.{AreInStep}
use Rattle.kin_cert.specs.Cost.{IsEnough, waiting_count}
use Rattle.kin_cert.specs.Facts.{LiveFact}
use Rattle.kin_cert.specs.Told.{AreNew, certificates_of}
use Rattle.kin_world.specs.declared.structure.Structure.{Structure}
use Rattle.kin_world.specs.Costs.{IsAsked, AreAsked, AreInFirstAlone}
use Rattle.kin_world.specs.Structures.{IsSettledFor}
use Rattle.kin_world.specs.Upkeep.{Stage, sight}

-- The count has risen by these asked signs and by what the changes of the table take. A fact that waits was paid for as it was given, so it makes up for r where it is dropped.
pub record IsPaid (old new : List LiveFact) (asked before after : ℕ) : Type 0 where
  pub dropped : List Certificate
  pub gone : AreNew new old dropped
  pub born : List Certificate
  pub come : AreNew old new born
  pub few : length new ≤ length old + length born
  pub bound : (r : ℕ) → IsEnough (length old + length born) r → after + waiting_count old * r ≤ before + asked + (length dropped + length born) * (r + 1) + waiting_count new * r

-- the structure is settled in the scene before, and its keep is in step with the scene now
pub record IsInStep (size : ℕ) (keep : Keep) (v w : Scene) (st : Structure) : Type 0 where
  pub settled : IsSettledFor size keep v st
  pub step : AreInStep size keep v w

-- each structure is
abbrev pub AreAllInStep : Scene → Stage → Type 0
AreAllInStep v s = (j : ℕ) (keep : Keep) (st : Structure) → slice_get s.keeps j ≡ Some keep → slice_get s.structures j ≡ Some st → IsInStep s.size keep v (sight s) st

-- the structure k alone has changed, and what that cost is paid, seen from each scene before with such live numbers
pub record HasPaid (may : List ℕ → Type 0) (k : ℕ) (s t : Stage) (before after : ℕ) : Type 0 where
  pub others : (j : ℕ) → j ≢ k → slice_get t.structures j ≡ slice_get s.structures j
  pub paid : (v : Scene) (keep : Keep) (st : Structure) → may v.live → slice_get s.keeps k ≡ Some keep → slice_get s.structures k ≡ Some st → IsInStep s.size keep v (sight s) st
      → (asked : ℕ) × IsAsked s.size keep v (sight s) asked × IsPaid s.table.live t.table.live asked before after

-- the structures below k asked so many signs, each its number, and all is paid
pub record ArePaid (k : ℕ) (v : Scene) (start now : Stage) (before after : ℕ) : Type 0 where
  pub asked : List ℕ
  pub count : length asked ≡ k
  pub each : (j : ℕ) (keep : Keep) (n : ℕ) → slice_get start.keeps j ≡ Some keep → slice_get asked j ≡ Some n → IsAsked start.size keep v (sight start) n
  pub paid : IsPaid start.table.live now.table.live (sum asked) before after

-- so it is, seen from each scene before with such live numbers; and the structures from k on are as they were
pub record HavePaid (may : List ℕ → Type 0) (k : ℕ) (start now : Stage) (before after : ℕ) : Type 0 where
  pub ahead : (j : ℕ) → k ≤ j → slice_get now.structures j ≡ slice_get start.structures j
  pub paid : (v : Scene) → may v.live → AreAllInStep v start → ArePaid k v start now before after

-- a scene before, in which all structures were settled as they are now, and all of whose live facts hold now
pub record IsSeenBefore (v : Scene) (s : Stage) : Type 0 where
  pub real : IsReal v
  pub fits : FitsSize s.size v
  pub same_live : v.live ≡ (sight s).live
  pub settled : (j : ℕ) (keep : Keep) (st : Structure) → slice_get s.keeps j ≡ Some keep → slice_get s.structures j ≡ Some st → IsSettledFor s.size keep v st
  pub hold : (c : Certificate) → IsLiveFact s.size s.keeps v c → Holds (sight s) c.placed.fact

-- The count has risen by at most what the structures ask since that scene, by what the changes of the table take, 2 for each failure, and 1.
pub record IsRepaid (v : Scene) (s t : Stage) (failures before after : ℕ) : Type 0 where
  pub asked : List ℕ
  pub asks : AreAsked s.size s.keeps v (sight t) asked
  pub dropped : List Certificate
  pub gone : AreInFirstAlone (certificates_of s.table.live) (certificates_of t.table.live) dropped
  pub born : List Certificate
  pub come : AreInFirstAlone (certificates_of t.table.live) (certificates_of s.table.live) born
  pub few : length t.table.live ≤ length s.table.live + length born
  pub bound : (r : ℕ) → IsEnough (length s.table.live + length born) r → after ≤ before + (sum asked + (length dropped + length born) * (r + 1) + 2 * failures + 1)
