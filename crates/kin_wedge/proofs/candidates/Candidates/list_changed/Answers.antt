use Rattle.std.proofs.Common.{subst, List}
use Rattle.std.specs.Prelude.{Contains}
use Rattle.kin_wedge.specs.declared.touch.Touch.{Touch}
use Rattle.kin_wedge.proofs.candidates.Candidates.list_changed.Goals as goal

pub list_changed-requires : goal.list_changed-requires
list_changed-requires c = record { slots = λ t h. c.args.self.now.touched t (subst (λ (ts : List Touch). Contains ts t) c.all.ensures h) }
