use Rattle.std.proofs.Common.{sym, ap, ◌∙◌, subst, Contains, List}
use Rattle.kin_motion.specs.Numbers.{is_in}
use Rattle.kin_overlay.specs.declared.record.Record.{Record}
use Rattle.kin_overlay.specs.Remembered.{left_points}
use Rattle.kin_overlay.proofs.HasLaws.{turn-found, turn-missing, slope-found, slope-missing, line-left, line-right, no-distance}
use Rattle.kin_overlay.proofs.list.BreakpointList.has.Goals as goal

pub returns-in-Some : goal.returns-in-Some
returns-in-Some c =
    turn-found _ _ _ _ _ c.self.invariant c.self.view_is c.in-Turn.i c.in-Turn.j c.in-Turn.k c.in-Turn.is c.in-Some.record.now (subst (λ (rs : List Record). Contains rs c.in-Some.record.now) c.deref.ensures.value c.in-Some.ensures.0) c.in-Some.ensures.1 c.turn_fact.result c.turn_fact.ensures c.is.result c.is.ensures

pub returns-in-None : goal.returns-in-None
returns-in-None c =
    turn-missing _ _ _ _ _ c.self.invariant c.self.view_is c.in-Turn.i c.in-Turn.j c.in-Turn.k c.in-Turn.is (ap (λ (rs : List Record). is_in c.in-Turn.i (left_points rs)) (sym c.deref.ensures.value) ∙ c.in-None.ensures)

pub returns-in-Some-find : goal.returns-in-Some-find
returns-in-Some-find c =
    slope-found _ _ _ _ _ c.self.invariant c.self.view_is c.in-Slope.i c.in-Slope.j c.in-Slope.k c.in-Slope.l c.in-Slope.is c.in-Some-find.record.now (subst (λ (rs : List Record). Contains rs c.in-Some-find.record.now) c.deref-in-Slope.ensures.value c.in-Some-find.ensures.0) c.in-Some-find.ensures.1 c.slope_fact.result c.slope_fact.ensures c.is_the.result c.is_the.ensures

pub returns-in-None-find : goal.returns-in-None-find
returns-in-None-find c =
    slope-missing _ _ _ _ _ c.self.invariant c.self.view_is c.in-Slope.i c.in-Slope.j c.in-Slope.k c.in-Slope.l c.in-Slope.is (ap (λ (rs : List Record). is_in c.in-Slope.i (left_points rs)) (sym c.deref-in-Slope.ensures.value) ∙ c.in-None-find.ensures)

pub returns-then-is_of_end : goal.returns-then-is_of_end
returns-then-is_of_end c = line-left _ _ _ _ _ c.self.invariant c.self.view_is c.is_of_end.result c.if-is_of_end.true c.is_of_end.ensures

pub returns-else-is_of_end : goal.returns-else-is_of_end
returns-else-is_of_end c =
    line-right _ _ _ _ _ c.self.invariant c.self.view_is c.in-Line.dx c.in-Line.dy c.in-Line.off c.in-Line.i c.in-Line.j c.in-Line.is c.is_of_end.result c.is_of_end-else-is_of_end.result c.if-is_of_end.false c.is_of_end.ensures c.is_of_end-else-is_of_end.ensures

pub returns-in-Dist : goal.returns-in-Dist
returns-in-Dist c = no-distance _ _ _ _ _ c.self.invariant c.self.view_is c.in-Dist.i c.in-Dist.j c.in-Dist.k c.in-Dist.l c.in-Dist.is
