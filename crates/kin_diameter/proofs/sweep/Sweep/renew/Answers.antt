use Rattle.std.proofs.Common.{sym, subst, List}
use Rattle.kin_motion.specs.Sets.{AreDistinct}
use Rattle.kin_diameter.specs.declared.merge.Merged.{Merged}
use Rattle.kin_diameter.specs.declared.slope.Slope.{Slope as Kept}
use Rattle.kin_diameter.proofs.sweep.Sweep.renew.Goals as goal

pub tell_changes-requires-clause-new_once : goal.tell_changes-requires-clause-new_once
tell_changes-requires-clause-new_once g c = subst (λ (l : List Kept). AreDistinct l) (sym c.deref-2.ensures.value) c.in_ok-merge.ensures.once

pub invariant_of-self-2 : goal.invariant_of-self-2
invariant_of-self-2 g c = subst (λ (m : Merged). AreDistinct m.slopes.items) (sym c.swap.ensures.x_after) c.in_ok-merge.ensures.once
