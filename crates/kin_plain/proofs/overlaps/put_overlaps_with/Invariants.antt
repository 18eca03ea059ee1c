use Rattle.std.proofs.Common.{◌≡◌, ◌++◌, drop, map, ℕ}
use Rattle.std.specs.Prelude.{filter}
use Rattle.kin_motion.specs.Overlaps.{overlap}
use Rattle.kin_plain.proofs.overlaps.put_overlaps_with.Given as goal

abbrev pub invariant-loop-j : goal.invariant-loop-j
invariant-loop-j g l =
    l.pairs.items ++ filter (λ (p : ℕ × ℕ). overlap (g.O.Signs.scene l.now) l.w l.h p.0 p.1) (map (λ (j : ℕ). (l.i, j)) (drop l.j-index l.after))
    ≡ l.fn.pairs.items ++ filter (λ (p : ℕ × ℕ). overlap (g.O.Signs.scene l.now) l.w l.h p.0 p.1) (map (λ (j : ℕ). (l.i, j)) l.after)
