use Rattle.std.proofs.Common.{◌≡◌, ◌++◌, drop}
use Rattle.std.specs.Prelude.{filter}
use Rattle.kin_motion.specs.Tournaments.{is_under}
use Rattle.kin_plain.proofs.hull.numbers_under.Given as goal

abbrev pub invariant-loop-no : goal.invariant-loop-no
invariant-loop-no l = l.under.items ++ filter (is_under l.size l.node) (drop l.no-index l.live) ≡ filter (is_under l.size l.node) l.live
