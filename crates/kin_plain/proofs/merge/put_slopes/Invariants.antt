use Rattle.std.proofs.Common.{◌≡◌, ◌++◌, ◌-◌, map, drop}
use Rattle.kin_motion.specs.Merges.{slopes_from}
use Rattle.kin_motion.specs.Scene.{placed_at}
use Rattle.kin_plain.proofs.merge.put_slopes.Given as goal

abbrev pub invariant-loop-place : goal.invariant-loop-place
invariant-loop-place g l =
    l.facts.items ++ map (placed_at (g.O.Signs.scene l.now) l.part) (slopes_from (drop (l.place - 1) l.list)) ≡ l.fn.facts.items ++ map (placed_at (g.O.Signs.scene l.now) l.part) (slopes_from l.list)
