use Rattle.std.proofs.Common.{◌≡◌, inl, inr, sym, ◌∙◌, subst, List, ℕ, filter, ◌&&◌, Bool}
use Rattle.kin_motion.specs.Boxes.{is_inside, points_in}
use Rattle.kin_motion.specs.Course.{live_of}
use Rattle.kin_motion.specs.Numbers.{Lists}
use Rattle.kin_range.specs.Ranging.{Ranging}
use Rattle.kin_range.specs.Sides.{is_within, left_of, right_of, bottom_of, top_of, IsSpanOf}
use Rattle.kin_range.proofs.Rising.{sorted_is_box}
use Rattle.kin_range.proofs.Spans.{inside_by_sides}
use Rattle.kin_range.proofs.range.KinRange.inside.Goals as goal

pub returns : goal.returns
returns c =
    let ms = c.args.motions.now in
    let m = c.args.now.now in
    let r = c.args.rect.now in
    let ys = c.sort_unstable.new.self.items in
    let picked = c.in_ok-picked.picked.items in
    let x_test : ℕ → Bool = λ i. is_within ms m (left_of r) i && is_within ms m (right_of r) i in
    let y_test : ℕ → Bool = λ i. is_within ms m (bottom_of r) i && is_within ms m (top_of r) i in
    let x_span = subst (λ xs. IsSpanOf x_test xs c.spans_in-x.result.0) c.items-by_x.ensures c.spans_in-x.ensures.x in
    let y_span = subst (λ xs. IsSpanOf y_test xs c.spans_in-x.result.1) c.items-by_y.ensures c.spans_in-x.ensures.y in
    let x_all = subst (λ (known : Ranging). Lists known.by_x.items (live_of ms)) (sym c.self.view_is) c.requires.settled.x_order.all in
    let y_all = subst (λ (known : Ranging). Lists known.by_y.items (live_of ms)) (sym c.self.view_is) c.requires.settled.y_order.all in
    elim (c.in_ok-picked.ensures x_test y_test x_span y_span) [
      | inl e ↦ sorted_is_box (is_inside ms m r) ms c.self.inside.by_x.items picked ys x_all (e ∙ inside_by_sides ms m r c.self.inside.by_x.items) c.sort_unstable.ensures.permutation c.sort_unstable.ensures.sorted
      | inr e ↦ sorted_is_box (is_inside ms m r) ms c.self.inside.by_y.items picked ys y_all (e ∙ inside_by_sides ms m r c.self.inside.by_y.items) c.sort_unstable.ensures.permutation c.sort_unstable.ensures.sorted
    ]
