use Rattle.std.proofs.Common.{◌≡◌, ◌++◌, drop}
use Rattle.std.specs.Prelude.{filter}
use Rattle.kin_motion.specs.ClosestPairs.{Near}
use Rattle.kin_motion.specs.Farthest.{are_apart}
use Rattle.kin_plain.proofs.farthest.apart_of.Given as goal

abbrev pub invariant-loop-pair : goal.invariant-loop-pair
invariant-loop-pair g l =
    l.apart.items ++ filter (λ (p : Near). are_apart (g.O.Signs.scene l.now) p.i p.j) (drop l.pair-index l.pairs) ≡ filter (λ (p : Near). are_apart (g.O.Signs.scene l.now) p.i p.j) l.pairs
