use Rattle.std.proofs.Common.{◌≡◌, ◌++◌, drop}
use Rattle.std.specs.Prelude.{filter}
use Rattle.kin_motion.specs.Boxes.{is_inside, points_in}
use Rattle.kin_plain.proofs.rect.points_in.Given as goal

abbrev pub invariant-loop-no : goal.invariant-loop-no
invariant-loop-no g l = l.inside.items ++ filter (is_inside l.motions l.now l.rect) (drop l.no-index l.live) ≡ points_in l.motions l.now l.rect
