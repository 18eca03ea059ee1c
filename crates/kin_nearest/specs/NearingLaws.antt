-- The laws of kept nearest neighbours.
use Rattle.std.proofs.Common.{◌≡◌, sym, ap, ◌∙◌, subst, arith, List, ℕ, false}
use Rattle.kin_motion.specs.declared.fact.Placed.{Placed}
use Rattle.kin_motion.specs.declared.keep.Keep.{Keep}
use Rattle.kin_motion.specs.Deltas.{Change}
use Rattle.kin_motion.specs.Kinetics.{ListsFailing, HasChanged}
use Rattle.kin_motion.specs.Live.{IsKeepFact}
use Rattle.kin_motion.specs.Scene.{Scene}
use Rattle.kin_motion.specs.Sets.{ListsExactly}
use Rattle.kin_motion.specs.Spending.{AreInStep, HasRisenWithin, MayAsk}
use Rattle.kin_list.specs.declared.mark.Mark.{Mark}
use Rattle.kin_list.specs.Keeping.{LeadsTo}
use Rattle.kin_list.specs.Listing.{HasMarked, names_leaving}
use Rattle.kin_wedge.specs.Costs.{AreFewBelow}
use Rattle.kin_wedge.specs.Wedging.{Wedging, members_of, IsSettledWedging, IsWedgingAtRest}
use Rattle.kin_wedge.proofs.EightAsk.{eight_ask}
use Rattle.kin_nearest.specs.Nearing.{HasMembers, IsNearingFor, StaysNearing, FollowsNearing}

pub nearing_spares_none : (k : Wedging) (p : Placed) → IsWedgingAtRest k → names_leaving k.mark p ≡ false
nearing_spares_none k p rest = ap (λ (mark : Mark). names_leaving mark p) rest

pub nearing_kind_stays : (old new : Wedging) (size : ℕ) (keep : Keep) → StaysNearing old new → IsNearingFor old size keep → IsNearingFor new size keep
nearing_kind_stays old new size keep same kind = (kind.0, same ∙ kind.1)

pub nearing_members_stay : (old new : Wedging) (s : Scene) → HasMembers old s.live → StaysNearing old new → IsWedgingAtRest new → IsSettledWedging new s → HasMembers new s.live
nearing_members_stay old new s members same rest settled = subst (λ (mark : Mark). HasMarked mark (members_of new) s.live) (sym rest) (settled.ordered.order 0 (omega arith)).all

pub nearing_exact : (k : Wedging) (size : ℕ) (keep : Keep) (s : Scene) → IsNearingFor k size keep → HasMembers k s.live → IsSettledWedging k s → ListsExactly k.facts (IsKeepFact size s keep)
nearing_exact k size keep s kind members settled = subst (λ (q : Keep). ListsExactly k.facts (IsKeepFact size s q)) (sym kind.0) settled.wedges.exact

-- at rest it follows the scene in which it was settled
pub nearing_follows_scene : (k : Wedging) (s : Scene) (live : List ℕ) → IsWedgingAtRest k → HasMembers k s.live → IsSettledWedging k s → s.live ≡ live → FollowsNearing k s live
nearing_follows_scene k s live rest members settled same = record { settled = settled; led = subst (λ (mark : Mark). LeadsTo mark s.live live) (sym rest) same }

-- what a settle spends is within the bound of kept nearest neighbours
pub nearing_frugal : (old new : Wedging) (size : ℕ) (keep : Keep) (v w : Scene) (failed : List Placed) (out out' : Change) (before after : ℕ) → IsNearingFor old size keep → IsNearingFor new size keep → AreInStep size keep v w
    → FollowsNearing old v w.live → HasMembers new w.live → IsSettledWedging new w → ListsFailing old.facts (names_leaving old.mark) w failed → HasChanged old.facts new.facts out out'
    → AreFewBelow 8 old.mark old.orders new.orders out out' before after → HasRisenWithin (MayAsk size keep v w) before after
nearing_frugal old new size keep v w failed out out' before after kind kind' step follows members settled failing changed few =
    subst (λ (q : Keep). HasRisenWithin (MayAsk size q v w) before after) (sym kind.0)
    (eight_ask old new v w step.old_real step.new_real follows.settled settled out out' before after follows.led changed few)
