use Rattle.std.proofs.Common.{sym, ◌∙◌, subst, rules}
use Rattle.kin_sorted.specs.Marks.{Marks, AreMarks}
use Rattle.kin_sorted.proofs.MarkLaws.{no_marks}
use Rattle.kin_sorted.proofs.sorted.Sorted.settle_in.Goals as goal

pub settle-requires-clause-held : goal.settle-requires-clause-held
settle-requires-clause-held g c = let ready = rw (sym c.self.view_is) at c.requires.ready in c.self.invariant.held ready.whole

pub settle-requires-clause-marks : goal.settle-requires-clause-marks
settle-requires-clause-marks g c = let ready = rw (sym c.self.view_is) at c.requires.ready in c.self.invariant.marks ready.whole

pub settle-requires-clause-live : goal.settle-requires-clause-live
settle-requires-clause-live g c = let ready = rw (sym c.self.view_is) at c.requires.ready in ready.live

pub settle-requires-clause-failing : goal.settle-requires-clause-failing
settle-requires-clause-failing g c = rw (sym c.self.view_is) at c.requires.failing

pub invariant_of-self-2 : goal.invariant_of-self-2
invariant_of-self-2 g c =
    let done = c.in_ok-settle.ensures in
    let row = c.settle.new.self.row in
    record {
      room = done.room ∙ c.self.invariant.room;
      marks = λ t. subst (λ (m : Marks). AreMarks m row.room row.items) (sym done.unmarked) (no_marks row.room row.items done.renewed.members.once);
      held = λ t. done.renewed.held;
    }

pub returns : goal.returns
returns g c =
    let done = c.in_ok-settle.ensures.renewed in
    record {
      rest = search rules;
      members = rw (sym c.self.view_is) done.members;
      settled = record { live = done.live; order = done.order; exact = done.exact };
      delta = rw (sym c.self.view_is) done.delta;
      broken = tt;
      exchanges = rw (sym c.self.view_is) done.exchanges;
      moved = rw (sym c.self.view_is) done.moved;
      tests = rw (sym c.self.view_is) done.tests;
      same = search rules;
    }
