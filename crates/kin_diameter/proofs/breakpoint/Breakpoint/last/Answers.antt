use Rattle.std.proofs.Common.{sym, subst, arith, List, [], ◌∷◌, ℕ, ◌<◌, ◌^◌}
use Rattle.kin_motion.specs.Numbers.{IsIn}
use Rattle.kin_motion.proofs.Members.{in_head, in_left, in_right}
use Rattle.kin_diameter.proofs.breakpoint.Breakpoint.last.Goals as goal

pub overflow_cast-result-2 : goal.overflow_cast-result-2
overflow_cast-result-2 c =
    let right = c.in_ok-right.right.now in
    let rest = c.in_ok-right.rest.now in
    let small : right < 2 ^ 12 = c.requires right (subst (λ (xs : List ℕ). IsIn c.in_ok-right.right.now xs) (sym c.in_ok-right.ensures.cases.0) (in_right right rest (right ∷ []) (in_head right []))) in
    omega (arith, small)

pub overflow_cast-result : goal.overflow_cast-result
overflow_cast-result c =
    let right = c.in_ok-right.right.now in
    let rest = c.in_ok-right.rest.now in
    let left = c.in_ok-left.left.now in
    let small : left < 2 ^ 12 = c.requires left
    (subst (λ (xs : List ℕ). IsIn c.in_ok-left.left.now xs) (sym c.in_ok-right.ensures.cases.0)
    (in_left left rest (right ∷ []) (subst (λ (xs : List ℕ). IsIn c.in_ok-left.left.now xs) (sym c.in_ok-left.ensures.cases.0) (in_right left _ (left ∷ []) (in_head left []))))) in
    omega (arith, small)
