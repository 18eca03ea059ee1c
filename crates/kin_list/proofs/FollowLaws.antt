-- A list that has been marked follows the scene in which it was settled.
use Rattle.std.proofs.Common.{◌≡◌, sym, subst, List, ℕ}
use Rattle.kin_motion.specs.Scene.{Scene}
use Rattle.kin_list.specs.declared.mark.Mark.{Mark}
use Rattle.kin_list.specs.Keeping.{LeadsTo, FollowsList}
use Rattle.kin_list.specs.Listing.{Listing, IsSettledListing}

pub follows_marked : (mark : Mark) (k new : Listing) (s : Scene) (after : List ℕ) → new ≡ record k { mark = mark } → IsSettledListing k s → LeadsTo mark s.live after → FollowsList new s after
follows_marked mark k new s after marked settled leads = subst (λ (l : Listing). FollowsList l s after) (sym marked) (record { settled = settled; marked = leads })
