use Rattle.std.proofs.Common.{◌≡◌, ◌++◌, drop, ℕ}
use Rattle.std.specs.Prelude.{filter}
use Rattle.kin_motion.specs.Overlaps.{overlap, overlaps_of, pairs_of}
use Rattle.kin_plain.proofs.overlaps.overlaps_of.Given as goal

abbrev pub invariant-loop-place : goal.invariant-loop-place
invariant-loop-place g l =
    l.pairs.items ++ filter (λ (p : ℕ × ℕ). overlap (g.O.Signs.scene l.now) l.w l.h p.0 p.1) (pairs_of (drop l.place l.live))
    ≡ overlaps_of (g.O.Signs.scene l.now) l.w l.h
