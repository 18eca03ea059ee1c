use Rattle.std.proofs.Common.{◌≢◌, ℕ, ◌<◌, Some}
use Rattle.kin_motion.specs.Tournaments.{item_in}
use Rattle.kin_cases.proofs.contest.holds_elsewhere.Given as goal

-- no other slot so far holds the item
abbrev pub invariant-loop-other : goal.invariant-loop-other
invariant-loop-other l = (i : ℕ) → i < l.other → i ≢ l.slot → item_in l.slots i ≢ Some l.item
