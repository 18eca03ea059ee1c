-- How many facts may be live over n live numbers.
use Rattle.std.specs.Prelude.{ℕ, zero, suc, ◌+◌, ◌-◌, ◌*◌, ◌≤◌, List, length, sum_by}
use Rattle.kin_motion.specs.declared.fact.Placed.{Placed}
use Rattle.kin_motion.specs.declared.keep.Keep.{Keep}
use Rattle.kin_motion.specs.declared.keep.Keep.TheVariants.{Order, Extreme, Hull, Closest, Range, Nearest, Diameter, Boxes}
use Rattle.kin_motion.specs.DiameterFacts.{IsDiameterFact}
use Rattle.kin_motion.specs.Scene.{Scene, IsReal}
use Rattle.kin_motion.specs.Sets.{ListsExactly}
use Rattle.kin_motion.specs.Agreements.{FitsSize}
use Rattle.kin_motion.specs.Live.{IsKeepFact, IsLiveCount}

-- the most facts of one structure: with no live number none, and with n + 1 of them as many as this
abbrev pub most_facts : ℕ → Keep → ℕ → ℕ
most_facts size keep zero = 0
most_facts size (Order dx dy) (suc n) = n
most_facts size (Extreme dx dy) (suc n) = n
most_facts size Range (suc n) = 2 * n
most_facts size Nearest (suc n) = 8 * n
most_facts size Diameter (suc n) = 4 * n
most_facts size (Boxes width height) (suc n) = 4 * n + 2
most_facts size Closest (suc n) = 16 * (n + 1)
most_facts size Hull (suc n) = 4 * (n + 1) * size

-- the most facts of all kept structures together
abbrev pub most_live : ℕ → List Keep → ℕ → ℕ
most_live size keeps n = sum_by (λ keep. most_facts size keep n) keeps

-- a structure has no more, where the live numbers have slots
abbrev pub FewFacts : Type 0
FewFacts = (size : ℕ) (s : Scene) (keep : Keep) (facts : List Placed) → IsReal s → FitsSize size s → ListsExactly facts (IsKeepFact size s keep)
    → length facts ≤ most_facts size keep (length s.live)

-- a farthest pair has at most four facts for each live number but one
abbrev pub FewDiameterFacts : Type 0
FewDiameterFacts = (size : ℕ) (s : Scene) (facts : List Placed) → IsReal s → ListsExactly facts (IsDiameterFact size s) → length facts ≤ 4 * (length s.live - 1)

-- and all kept structures together have no more
abbrev pub FewLiveFacts : Type 0
FewLiveFacts = (size : ℕ) (keeps : List Keep) (s : Scene) (count : ℕ) → IsReal s → FitsSize size s → IsLiveCount size keeps s count → count ≤ most_live size keeps (length s.live)
