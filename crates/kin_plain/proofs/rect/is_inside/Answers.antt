use Rattle.std.specs.Prelude.{pos, negsuc}
use lib.IntN.{neg_ℤ}
use Rattle.kin_motion.specs.Boxes.{is_at_least}
use Rattle.kin_plain.proofs.Boxes.{between_both}
use Rattle.kin_plain.proofs.rect.is_inside.Goals as goal

pub returns : goal.returns
returns g c =
    let ms = c.args.motions.now in
    let m = c.args.now.now in
    let r = c.args.rect.now in
    let i = c.args.no in
    between_both (is_at_least ms m (pos 1) (pos 0) (neg_ℤ r.x1) i) (is_at_least ms m (negsuc 0) (pos 0) r.x2 i) (is_at_least ms m (pos 0) (pos 1) (neg_ℤ r.y1) i)
    (is_at_least ms m (pos 0) (negsuc 0) r.y2 i) c.is_between_x-by_x.result c.is_between_y-by_y.result
    c.is_between_x-by_x.ensures c.is_between_y-by_y.ensures
