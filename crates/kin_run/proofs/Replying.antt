-- What a world answers to questions is what the replay asks for: both see the same now.
use Rattle.std.proofs.Common.{◌≡◌, refl, sym, ap, subst, Bool, true, List, ℕ, ℤ, Option, Some, None, is_some}
use Rattle.std.specs.Prelude.{slice_get}
use Rattle.kin_motion.specs.declared.keep.Keep.TheVariants.{Boxes}
use Rattle.kin_motion.specs.Course.{Course}
use Rattle.kin_motion.specs.Overlaps.{ListsOverlaps}
use Rattle.kin_motion.specs.Plans.{motions_in_force}
use Rattle.kin_motion.specs.Scene.{Scene, scene_at}
use Rattle.kin_legs.proofs.FollowedLaws.{all_ahead}
use Rattle.kin_script.specs.PrintedJournal.{pairs_lines}
use Rattle.kin_script.specs.Questions.{AreOverlapsLines, HasBoxes, kept_boxes}
use Rattle.kin_script.specs.States.{state_scene}
use Rattle.kin_script.proofs.Questions.{boxes_found, boxes_kept}
use Rattle.kin_run.proofs.Vocabulary.{IsWhole, World, state_of, world_plans}
use Rattle.kin_world.specs.Worlds.{world_scene}

module _ (w : World) (whole : IsWhole w) where
  -- the motions of now are in force
  pub in_force : w.motions ≡ motions_in_force (world_plans w) w.moment
  in_force = sym (all_ahead whole.followed w.moment whole.canonical whole.ahead).force

  pub seen_alike : (IsSeen : Scene → Type 0) → IsSeen (world_scene w) → (journal : Bool) → IsSeen (state_scene (state_of journal w))
  seen_alike IsSeen is journal = subst IsSeen (ap (λ (ms : List (Option Course)). scene_at ms w.moment) in_force) is

  -- the pairs that overlap, whatever boxes are kept
  pub overlaps_lines : (pairs : List (ℕ × ℕ)) (journal : Bool) → HasBoxes (state_of journal w)
      → ((k : ℕ) (width height : ℤ) → slice_get w.keeps k ≡ Some (Boxes width height) → ListsOverlaps (world_scene w) width height pairs)
      → AreOverlapsLines w.keeps (state_scene (state_of journal w)) (pairs_lines pairs)
  overlaps_lines pairs journal (k, width, height, kept) each = at (kept_boxes w.keeps) refl (boxes_found w.keeps k width height kept)
    where
      at : (size : Option (ℤ × ℤ)) → kept_boxes w.keeps ≡ size → is_some size ≡ true
          → AreOverlapsLines w.keeps (state_scene (state_of journal w)) (pairs_lines pairs)
      at None e some = absurd cc
      at (Some (x, y)) e some =
          let here = boxes_kept w.keeps x y e in
          let overlaps = seen_alike (λ s. ListsOverlaps s x y pairs) (each here.0 x y here.1) journal in
          record { width = x; height = y; kept = e; pairs = pairs; overlaps = overlaps; lines = refl }
