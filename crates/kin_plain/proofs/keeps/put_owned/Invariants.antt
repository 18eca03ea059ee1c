use Rattle.std.proofs.Common.{◌≡◌, ◌++◌, map, drop}
use Rattle.kin_motion.specs.Live.{owned_by}
use Rattle.kin_plain.proofs.keeps.put_owned.Given as goal

abbrev pub invariant-loop-fact : goal.invariant-loop-fact
invariant-loop-fact l = l.owned.items ++ map (owned_by l.structure) (drop l.fact-index l.facts) ≡ l.fn.owned.items ++ map (owned_by l.structure) l.facts
