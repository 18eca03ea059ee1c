use Rattle.std.proofs.Common.{◌≡◌, drop}
use Rattle.kin_overlay.specs.Overlays.{names_any}
use Rattle.kin_overlay.proofs.names.names_any.Given as goal

abbrev pub invariant-loop-no : goal.invariant-loop-no
invariant-loop-no l = names_any l.form (drop l.no-index l.numbers) ≡ names_any l.form l.numbers
