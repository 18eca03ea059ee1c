use Rattle.std.proofs.Common.{sym, subst, List, ℕ}
use Rattle.kin_motion.specs.Scene.{scene_at}
use Rattle.kin_cases.proofs.Keepings.{nothing_live}
use Rattle.kin_cases.proofs.keeping.Keeping.new.Goals as goal

pub invariant_of-result : goal.invariant_of-result
invariant_of-result g c =
    let ms = c.in_ok-motions.motions in
    let none = nothing_live ms c.in_ok-motions.ensures.none in
    let kept = c.in_ok-kept.ensures in
    record {
      small = c.requires.high;
      slots = c.in_ok-motions.ensures.room;
      keep = c.args.keep.now;
      kind = kept.kind;
      rest = kept.rest;
      members = subst (λ (live : List ℕ). g.K.Kept.has_members c.in_ok-kept.kept live) (sym none) kept.members;
      settled_now = kept.settled (scene_at ms c.args.moment.now) none;
    }
