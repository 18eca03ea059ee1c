use Rattle.std.proofs.Common.{sym, subst, List}
use Rattle.kin_motion.specs.declared.fact.Placed.{Placed}
use Rattle.kin_motion.specs.Sets.{AreDistinct}
use Rattle.kin_cases.proofs.merging.Merging.retire.Goals as goal

pub after-requires : goal.after-requires
after-requires c = subst (λ (fs : List Placed). AreDistinct fs) (sym c.deref.ensures.value) c.overlay.invariant.once
