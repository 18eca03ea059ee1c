-- A closest pair that has been marked follows the scene in which it was settled.
use Rattle.std.proofs.Common.{◌≡◌, sym, subst, List, ℕ}
use Rattle.kin_motion.specs.Scene.{Scene}
use Rattle.kin_list.specs.declared.mark.Mark.{Mark}
use Rattle.kin_list.specs.Keeping.{LeadsTo}
use Rattle.kin_closest.specs.Closing.{Closing, IsSettledClosing, FollowsClosing}

-- a mark changes nothing that is settled
settled_marked : (mark : Mark) (k : Closing) (s : Scene) → IsSettledClosing k s → IsSettledClosing (record k { wedges = record k.wedges { mark = mark } }) s
settled_marked mark k s settled = record {
  closest = settled.closest;
  fits = settled.fits;
  octants = record { ordered = settled.octants.ordered; wedges = settled.octants.wedges };
  size = settled.size;
  held = settled.held;
  pairs = settled.pairs;
}

pub follows_marked : (mark : Mark) (k new : Closing) (s : Scene) (after : List ℕ) → new ≡ record k { wedges = record k.wedges { mark = mark } } → IsSettledClosing k s → LeadsTo mark s.live after → FollowsClosing new s after
follows_marked mark k new s after marked settled leads = subst (λ (c : Closing). FollowsClosing c s after) (sym marked) (record { settled = settled_marked mark k s settled; led = leads })
