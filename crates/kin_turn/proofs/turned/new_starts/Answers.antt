use Rattle.std.proofs.Common.{◌≡◌, ℤ, w32, sym, ◌∙◌}
use Rattle.kin_num.specs.declared.instant.Shape.{Shape}
use Rattle.kin_instant.proofs.Widths.{clean}
use Rattle.kin_motion.specs.Turning.{IsNewStart}
use Rattle.kin_turn.proofs.turned.new_starts.Goals as goal

none_for : (x u v x' u' v' k : ℤ) (w : Shape) → x' ≡ x → u' ≡ u → v' ≡ v → ¬ (IsNewStart x' u' v' w k) → ¬ (IsNewStart x u v w k)
none_for x u v x' u' v' k w a b e h = rw (sym a, sym b, sym e) h

pub returns-in_err-x : goal.returns-in_err-x
returns-in_err-x c =
    rw (c.from_residual.ensures) (λ new turn. none_for _ _ _ _ _ _ new.x c.args.at.now (clean w32 c.x.result c.x.type_inv ∙ c.x.ensures.value) (clean w32 c.u.result c.u.type_inv ∙ c.u.ensures.value) (clean w32 c.args.u c.ranges.u.sfits) (c.in_err-x.ensures new.x) turn.x_start)

pub returns-in_err-y : goal.returns-in_err-y
returns-in_err-y c =
    rw (c.from_residual-in_err-y.ensures) (λ new turn. none_for _ _ _ _ _ _ new.y c.args.at.now (clean w32 c.y.result c.y.type_inv ∙ c.y.ensures.value) (clean w32 c.v.result c.v.type_inv ∙ c.v.ensures.value) (clean w32 c.args.v c.ranges.v.sfits) (c.in_err-y.ensures new.y) turn.y_start)
