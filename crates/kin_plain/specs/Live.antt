-- Lists of live numbers.
use Rattle.std.specs.Prelude.{ℕ, List}
use Rattle.std.specs.List.{All}
use Rattle.kin_motion.specs.BoxFacts.{point}
use Rattle.kin_motion.specs.Numbers.{IsIn}
use Rattle.kin_motion.specs.Scene.{Scene}

-- each number of the list is live
abbrev pub AreLive : Scene → List ℕ → Type 0
AreLive s xs = All (λ i. IsIn i s.live) xs

-- each end of the list is one of the box of a live number
abbrev pub AreEndsOfLive : Scene → List ℕ → Type 0
AreEndsOfLive s ends = All (λ e. IsIn (point e) s.live) ends
