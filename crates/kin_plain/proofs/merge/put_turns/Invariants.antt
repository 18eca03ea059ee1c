use Rattle.std.proofs.Common.{◌≡◌, ◌++◌, map, drop}
use Rattle.kin_motion.specs.Merges.{turns_from}
use Rattle.kin_motion.specs.Numbers.{IsIn}
use Rattle.kin_motion.specs.Scene.{placed_at}
use Rattle.kin_plain.proofs.merge.put_turns.Given as goal

abbrev pub invariant-loop-place : goal.invariant-loop-place
invariant-loop-place g l = record {
  value : l.facts.items ++ map (placed_at (g.O.Signs.scene l.now) l.part) (turns_from l.a l.b (drop l.place l.list)) ≡ l.fn.facts.items ++ map (placed_at (g.O.Signs.scene l.now) l.part)
      (turns_from l.first_a l.first_b l.list);
  a_live : IsIn l.a (g.O.Signs.scene l.now).live;
  b_live : IsIn l.b (g.O.Signs.scene l.now).live;
}
