use Rattle.std.proofs.Common.{◌≡◌, drop, Contains}
use Rattle.kin_motion.specs.declared.fact.Fact.{Fact}
use Rattle.kin_overlay.specs.Overlays.{names_any}
use Rattle.kin_overlay.specs.Remembered.{turn_fact, slope_facts}
use Rattle.kin_overlay.proofs.untouched.names_some.Given as goal

abbrev pub invariant-loop-no : goal.invariant-loop-no
invariant-loop-no l = record {
  turn : names_any (turn_fact l.noted).form (drop l.no-index l.gone) ≡ names_any (turn_fact l.noted).form l.gone;
  slope : (f : Fact) → Contains (slope_facts l.noted) f → names_any f.form (drop l.no-index l.gone) ≡ names_any f.form l.gone;
}
