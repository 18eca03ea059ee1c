use Rattle.std.proofs.Common.{sym, ◌∙◌, subst, ℕ}
use Rattle.std.specs.Prelude.{Option, MatchOption}
use Rattle.kin_nearest.specs.Searches.{IsEnd, IsKept}
use Rattle.kin_nearest.proofs.Choosing.{end_ends, farther_passed, nearer_kept, lesser_ends, lesser_reached, lesser_kept}
use Rattle.kin_nearest.proofs.Ending.{way_ends}
use Rattle.kin_nearest.proofs.best.better_of.Goals as goal

pub returns-in_default-clause-end : goal.returns-in_default-clause-end
returns-in_default-clause-end g c = end_ends (g.O.Signs.scene c.args.now.now) c.requires.real c.args.no c.args.apex c.walk_down.result c.walk_down.ensures.way

pub returns-in-Plus-clause-end : goal.returns-in-Plus-clause-end
returns-in-Plus-clause-end g c = end_ends (g.O.Signs.scene c.args.now.now) c.requires.real c.args.no c.args.apex c.walk_down-in-Plus.result c.walk_down-in-Plus.ensures.way

pub returns-in-Plus-clause-best : goal.returns-in-Plus-clause-best
returns-in-Plus-clause-best g c =
    subst (λ (o : Option ℕ). MatchOption o (Unit {0}) (λ b. IsKept (g.O.Signs.scene c.args.now.now) c.args.no b c.walk_down-in-Plus.result)) (sym c.in-Some.is)
    (farther_passed (g.O.Signs.scene c.args.now.now) c.requires.real c.args.no c.args.apex c.walk_down-in-Plus.result c.walk_down-in-Plus.ensures.way c.in-Some.best (subst (IsEnd (g.O.Signs.scene c.args.now.now) c.args.no) c.in-Some.is c.requires.best) (sym c.sign.ensures.value ∙ c.in-Plus.is))

pub returns-in-Zero-clause-end : goal.returns-in-Zero-clause-end
returns-in-Zero-clause-end g c =
    lesser_ends (g.O.Signs.scene c.args.now.now) c.requires.real c.args.no c.args.apex c.walk_down-in-Zero.result c.walk_down-in-Zero.ensures.way c.in-Some.best (subst (IsEnd (g.O.Signs.scene c.args.now.now) c.args.no) c.in-Some.is c.requires.best) (sym c.sign.ensures.value ∙ c.in-Zero.is) c.min.result c.min.ensures

pub returns-in-Zero-clause-reached : goal.returns-in-Zero-clause-reached
returns-in-Zero-clause-reached g c =
    lesser_reached (g.O.Signs.scene c.args.now.now) c.requires.real c.args.no c.args.apex c.walk_down-in-Zero.result c.walk_down-in-Zero.ensures.way c.in-Some.best (subst (IsEnd (g.O.Signs.scene c.args.now.now) c.args.no) c.in-Some.is c.requires.best) (sym c.sign.ensures.value ∙ c.in-Zero.is) c.min.result c.min.ensures

pub returns-in-Zero-clause-best : goal.returns-in-Zero-clause-best
returns-in-Zero-clause-best g c =
    subst (λ (o : Option ℕ). MatchOption o (Unit {0}) (λ b. IsKept (g.O.Signs.scene c.args.now.now) c.args.no b c.min.result)) (sym c.in-Some.is)
    (lesser_kept (g.O.Signs.scene c.args.now.now) c.requires.real c.args.no c.args.apex c.walk_down-in-Zero.result c.walk_down-in-Zero.ensures.way c.in-Some.best (subst (IsEnd (g.O.Signs.scene c.args.now.now) c.args.no) c.in-Some.is c.requires.best) (sym c.sign.ensures.value ∙ c.in-Zero.is) c.min.result c.min.ensures)

pub returns-in-Minus-clause-reached : goal.returns-in-Minus-clause-reached
returns-in-Minus-clause-reached g c =
    let down = way_ends (g.O.Signs.scene c.args.now.now) c.requires.real c.args.no c.args.wedges.now c.requires.settled c.args.apex c.requires.live c.requires.other in
    nearer_kept (g.O.Signs.scene c.args.now.now) c.requires.real c.args.no c.args.apex down.0 down.1 c.in-Some.best (subst (IsEnd (g.O.Signs.scene c.args.now.now) c.args.no) c.in-Some.is c.requires.best) (sym c.sign.ensures.value ∙ c.in-Minus.is)
