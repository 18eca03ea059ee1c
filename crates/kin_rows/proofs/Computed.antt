-- The worked rows, by computation.
use Rattle.std.proofs.Common.{refl}
use Rattle.kin_num.specs.Instants.{sign_at, sign_at_instant}
use Rattle.kin_motion.specs.Forms.{polynomial_of, sign_of_form}
use Rattle.kin_rows.specs.Orders.{OrderRows}
use Rattle.kin_rows.specs.Triangle.{TriangleRow}
use Rattle.kin_rows.specs.Touching.{TouchingRows}
use Rattle.kin_rows.specs.Twins.{TwinsRow}
use Rattle.kin_rows.specs.Square.{SquareRow}
use Rattle.kin_rows.specs.Boxes.{SlidingRow}
use Rattle.kin_rows.specs.Passing.{PassingRow}
use Rattle.kin_rows.specs.Extremes.{ExtremeRow}
use Rattle.kin_rows.specs.NearestRows.{NearestRows}
use Rattle.kin_rows.specs.FarthestRows.{FarthestRows}
use Rattle.kin_rows.specs.BoxRows.{BoxRows}
use Rattle.kin_rows.specs.Carriageways.{CarriagewaysRow}
use Rattle.kin_rows.specs.Changes.{ChangeRows}
use Rattle.kin_rows.specs.HullFactRows.{HullFactRows}
use Rattle.kin_rows.specs.ClosestFactRows.{ClosestFactRows}
use Rattle.kin_rows.specs.Generated.{GeneratedRows}

pub order_rows : OrderRows
unfolding sign_of_form polynomial_of sign_at sign_at_instant
order_rows = search refl

pub triangle_row : TriangleRow
unfolding sign_of_form polynomial_of sign_at sign_at_instant
triangle_row = search refl

pub touching_rows : TouchingRows
unfolding sign_of_form polynomial_of sign_at sign_at_instant
touching_rows = search refl

pub twins_row : TwinsRow
unfolding sign_of_form polynomial_of sign_at sign_at_instant
twins_row = search refl

pub square_row : SquareRow
unfolding sign_of_form polynomial_of sign_at sign_at_instant
square_row = search refl

pub sliding_row : SlidingRow
unfolding sign_of_form polynomial_of sign_at sign_at_instant
sliding_row = search refl

pub passing_row : PassingRow
unfolding sign_of_form polynomial_of sign_at sign_at_instant
passing_row = search refl

pub nearest_rows : NearestRows
unfolding sign_of_form polynomial_of sign_at sign_at_instant
nearest_rows = search refl

pub farthest_rows : FarthestRows
unfolding sign_of_form polynomial_of sign_at sign_at_instant
farthest_rows = search refl

pub box_rows : BoxRows
unfolding sign_of_form polynomial_of sign_at sign_at_instant
box_rows = search refl

pub extreme_row : ExtremeRow
unfolding sign_of_form polynomial_of sign_at sign_at_instant
extreme_row = search refl

pub carriageways_row : CarriagewaysRow
unfolding sign_of_form polynomial_of sign_at sign_at_instant
carriageways_row = record {
  carriageways_order_10 = refl;
  carriageways_extreme = refl;
  carriageways_hull = refl;
  carriageways_closest = refl;
  carriageways_live = refl;
}

pub change_rows : ChangeRows
unfolding sign_of_form polynomial_of sign_at sign_at_instant
change_rows = search refl

pub hull_fact_rows : HullFactRows
unfolding sign_of_form polynomial_of sign_at sign_at_instant
hull_fact_rows = search refl

pub closest_fact_rows : ClosestFactRows
unfolding sign_of_form polynomial_of sign_at sign_at_instant
closest_fact_rows = search refl

pub generated_rows : GeneratedRows
unfolding sign_of_form polynomial_of sign_at sign_at_instant
generated_rows = record { level = refl; exchanged = refl }
