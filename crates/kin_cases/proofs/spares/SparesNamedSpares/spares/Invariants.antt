use Rattle.std.proofs.Common.{◌≡◌, drop}
use Rattle.kin_overlay.specs.Overlays.{names_any}
use Rattle.kin_cases.proofs.spares.SparesNamedSpares.spares.Given as goal

abbrev pub invariant-loop-no : goal.invariant-loop-no
invariant-loop-no l = names_any l.fact.fact.form l.self.gone.now ≡ names_any l.fact.fact.form (drop l.no-index l.self.gone.now)
