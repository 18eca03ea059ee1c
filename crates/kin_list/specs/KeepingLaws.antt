-- The laws of a kept list.
use Rattle.std.proofs.Common.{◌≡◌, sym, ap, ap₂, ◌∙◌, subst, ℕ, ℤ, false}
use Rattle.kin_motion.specs.declared.fact.Placed.{Placed}
use Rattle.kin_motion.specs.declared.keep.Keep.{Keep}
use Rattle.kin_motion.specs.declared.keep.Keep.TheVariants as kept
use Rattle.kin_motion.specs.Live.{IsKeepFact}
use Rattle.kin_motion.specs.Scene.{Scene}
use Rattle.kin_motion.specs.Sets.{ListsExactly}
use Rattle.kin_list.specs.declared.mark.Mark.{Mark}
use Rattle.kin_list.specs.Listing.{Listing, HasMarked, IsAtRest, IsSettledListing, names_leaving}
use Rattle.kin_list.specs.Keeping.{IsListFor, HasMembers, StaysList}

pub list_spares_none : (k : Listing) (p : Placed) → IsAtRest k → names_leaving k.mark p ≡ false
list_spares_none k p rest = ap (λ (mark : Mark). names_leaving mark p) rest

pub list_kind_stays : (old new : Listing) (size : ℕ) (keep : Keep) → StaysList old new → IsListFor old size keep → IsListFor new size keep
list_kind_stays old new size keep same kind = (kind.0 ∙ ap₂ (λ (x y : ℤ). kept.Order x y) (sym same.0) (sym same.1), same.2 ∙ kind.1)

pub list_members_stay : (old new : Listing) (s : Scene) → HasMembers old s.live → StaysList old new → IsAtRest new → IsSettledListing new s → HasMembers new s.live
list_members_stay old new s members same rest settled = subst (λ (mark : Mark). HasMarked mark new.items s.live) (sym rest) settled.order.all

pub list_exact : (k : Listing) (size : ℕ) (keep : Keep) (s : Scene) → IsListFor k size keep → HasMembers k s.live → IsSettledListing k s → ListsExactly k.facts (IsKeepFact size s keep)
list_exact k size keep s kind members settled = subst (λ (q : Keep). ListsExactly k.facts (IsKeepFact size s q)) (sym kind.0) settled.exact
