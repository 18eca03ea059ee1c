use Rattle.std.proofs.Common.{rules}
use Rattle.kin_range.proofs.span.places_between.Goals as goal

pub returns : goal.returns
returns g c = search rules
