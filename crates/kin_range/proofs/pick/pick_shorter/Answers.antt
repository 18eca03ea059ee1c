use Rattle.std.proofs.Common.{◌≡◌, inl, inr, sym, ap, ◌∙◌, subst, List, ℕ, true, filter}
use Rattle.std.specs.Prelude.{Contains, slice_range}
use Rattle.std.proofs.lemmas.Result.{IfOk-weaker}
use Rattle.kin_motion.specs.Numbers.{is_in}
use Rattle.kin_range.specs.Sides.{Span}
use Rattle.kin_range.proofs.Spans.{picked_from, picked_from_other, part_in_other}
use Rattle.kin_range.proofs.pick.pick_shorter.Goals as goal

pub pick-requires : goal.pick-requires
pick-requires c = record {
  members = λ i h. part_in_other c.args.by_x.now.items c.args.by_y.now.items c.x.inside.from c.x.inside.to (λ k a. c.requires.alike k ∙ a) i (subst (λ xs. Contains (slice_range xs c.x.inside.from c.x.inside.to) i) c.items.ensures h);
}

pub pick-requires-else-len : goal.pick-requires-else-len
pick-requires-else-len c = record {
  members = λ i h. part_in_other c.args.by_y.now.items c.args.by_x.now.items c.y.inside.from c.y.inside.to (λ k a. sym (c.requires.alike k) ∙ a) i (subst (λ xs. Contains (slice_range xs c.y.inside.from c.y.inside.to) i) c.items-else-len.ensures h);
}

pub returns-then-len : goal.returns-then-len
returns-then-len c = λ test check x_span y_span.
    IfOk-weaker c.pick.result _ _
    (λ picked e. inl (picked_from test check c.args.by_x.now.items picked.items c.args.x x_span (e ∙ ap (λ xs. filter check (slice_range xs c.x.inside.from c.x.inside.to)) c.items.ensures ∙ ap (λ (s : Span). filter check (slice_range c.args.by_x.now.items s.from s.to)) c.x.view_is)))
    (c.pick.ensures check y_span)

pub returns-else-len : goal.returns-else-len
returns-else-len c = λ test check x_span y_span.
    IfOk-weaker c.pick-else-len.result _ _
    (λ picked e. inr (picked_from_other test check c.args.by_y.now.items picked.items c.args.y y_span (e ∙ ap (λ xs. filter test (slice_range xs c.y.inside.from c.y.inside.to)) c.items-else-len.ensures ∙ ap (λ (s : Span). filter test (slice_range c.args.by_y.now.items s.from s.to)) c.y.view_is)))
    (c.pick-else-len.ensures test x_span)
