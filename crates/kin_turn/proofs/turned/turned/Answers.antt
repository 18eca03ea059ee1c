use Rattle.std.proofs.Common.{◌≡◌, ℤ, w32, arith, inl, inr, sym, subst, ◌∙◌}
use Rattle.std.proofs.lemmas.Int.{to_z-of_z}
use Rattle.kin_num.specs.declared.instant.Shape.{Shape}
use Rattle.kin_instant.proofs.Widths.{clean}
use Rattle.kin_motion.specs.Course.{Course, IsSlow}
use Rattle.kin_motion.specs.Turning.{TurnsTo}
use Rattle.kin_motion.proofs.TurningLaws.{one_turn}
use Rattle.kin_turn.proofs.turned.turned.Goals as goal

turns_with : (w : Shape) (old : Course) (x y u v u' v' : ℤ) → u' ≡ u → v' ≡ v → TurnsTo w u' v' old (record { x = x; y = y; u = u'; v = v' }) → TurnsTo w u v old (record { x = x; y = y; u = u; v = v })
turns_with w old x y u v u' v' e f h = rw (sym e, sym f) h

pub returns-in_default-in_bounds-clause-not_whole : goal.returns-in_default-in_bounds-clause-not_whole
returns-in_default-in_bounds-clause-not_whole c =
    let turns = turns_with c.args.now.now.at c.args.motion.now c.in-Some.x c.in-Some.y c.args.u c.args.v _ _ (clean w32 c.args.u c.ranges.u.sfits) (clean w32 c.args.v c.ranges.v.sfits) c.in-Some.ensures in
    (λ e. absurd cc, λ h. elim h [ inl after ↦ absurd (let clash = sym c.in-At.is ∙ after in cc) | inr none ↦ absurd (none _ turns) ])

pub returns-in_default-in_bounds-2-clause-not_whole : goal.returns-in_default-in_bounds-2-clause-not_whole
returns-in_default-in_bounds-2-clause-not_whole c =
    let turns = turns_with c.args.now.now.at c.args.motion.now c.in-Some.x c.in-Some.y c.args.u c.args.v _ _ (clean w32 c.args.u c.ranges.u.sfits) (clean w32 c.args.v c.ranges.v.sfits) c.in-Some.ensures in
    (λ e. absurd cc, λ h. elim h [ inl after ↦ absurd (let clash = sym c.in-At.is ∙ after in cc) | inr none ↦ absurd (none _ turns) ])

pub returns-clause-outside : goal.returns-clause-outside
returns-clause-outside c =
    let turns = turns_with c.args.now.now.at c.args.motion.now c.in-Some.x c.in-Some.y c.args.u c.args.v _ _ (clean w32 c.args.u c.ranges.u.sfits) (clean w32 c.args.v c.ranges.v.sfits) c.in-Some.ensures in
    (λ e. absurd cc, λ h. let same = one_turn c.args.now.now.at c.args.u c.args.v c.args.motion.now h.1.0 _ c.recall_canonical.ensures h.1.1 turns in absurd (h.1.2 (subst IsSlow (sym same) (record { x_small = grind (arith, to_z-of_z); y_small = grind (arith, to_z-of_z); u_small = c.requires.u; v_small = c.requires.v }))))
