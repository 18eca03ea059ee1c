use Rattle.std.proofs.Common.{sym, ap, ◌∙◌, subst, arith, List, [], ◌∷◌, ◌++◌, ℕ, ◌*◌, ◌<◌, ◌^◌, map}
use Rattle.kin_motion.specs.ClosestPairs.{Near}
use Rattle.kin_motion.specs.Numbers.{IsIn}
use Rattle.kin_motion.specs.Sweeps.{cell_pairs_from}
use Rattle.kin_motion.proofs.Members.{in_head, in_right}
use Rattle.kin_diameter.specs.Seen.{seen}
use Rattle.kin_diameter.proofs.SweptPoints.{point_low, first_cell}
use Rattle.kin_diameter.proofs.cells.list_cells.Goals as goal

pub overflow_mul-current : goal.overflow_mul-current
overflow_mul-current c =
    let first = c.in-Some.first.now in
    let low : first < 2 ^ 12 = c.requires.upper first (subst (λ (xs : List ℕ). IsIn c.in-Some.first.now xs) (sym c.in-Some.ensures.cases.0) (in_head first _)) in
    omega (arith, low)

pub loop-at-init : goal.loop-at-init
loop-at-init c =
    let first = c.in-Some.first.now in
    let last = c.in-Some-split_last.last.now in
    let rest = c.in-Some-split_last.field-0-1.now in
    let es = map seen c.args.breakpoints.now in
    let first_low : first < 2 ^ 12 = c.requires.upper first (subst (λ (xs : List ℕ). IsIn c.in-Some.first.now xs) (sym c.in-Some.ensures.cases.0) (in_head first _)) in
    let last_low : last < 2 ^ 12 = c.requires.lower last (subst (λ (xs : List ℕ). IsIn c.in-Some-split_last.last.now xs) (sym c.in-Some-split_last.ensures.cases.0) (in_right last rest (last ∷ []) (in_head last []))) in
    record {
      low = record { slot = omega (arith, first_low); upper = first_low; lower = last_low };
      listed = ap (λ (ns : List Near). ns ++ cell_pairs_from (2 * c.in-Some.first.now) c.in-Some.first.now c.in-Some-split_last.last.now (map seen c.args.breakpoints.now)) c.clear.ensures.items
          ∙ first_cell c.args.upper.now c.args.lower.now c.in-Some.field-0-1.now rest first last es c.in-Some.ensures.cases.0 c.in-Some-split_last.ensures.cases.0;
    }

pub after-current-requires-clause-left : goal.after-current-requires-clause-left
after-current-requires-clause-left c =
    (point_low c.args.upper.now c.args.lower.now c.args.breakpoints.now c.loop-at.at-index _ c.requires.upper c.requires.lower c.requires.of_upper c.requires.of_lower c.loop-at-test.true).0

pub after-current-requires-clause-right : goal.after-current-requires-clause-right
after-current-requires-clause-right c =
    (point_low c.args.upper.now c.args.lower.now c.args.breakpoints.now c.loop-at.at-index _ c.requires.upper c.requires.lower c.requires.of_upper c.requires.of_lower c.loop-at-test.true).1
