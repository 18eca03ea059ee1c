use Rattle.std.proofs.Common.{sym, inl}
use Rattle.kin_overlay.proofs.SketchLaws.{known-next}
use Rattle.kin_overlay.proofs.sketch.known_slope.Goals as goal

pub returns-clause-slope : goal.returns-clause-slope
returns-clause-slope c = λ s stand. known-next s c.args.standing.now c.args.noted.now c.in_ok-next.next c.in_ok-fact.fact stand c.requires c.in_ok-next.was c.in_ok-fact.ensures (c.is_unfailed.ensures.yes c.if-not-is_unfailed.false)

pub returns-clause-known : goal.returns-clause-known
returns-clause-known c = inl (sym c.in_ok-next.was)
