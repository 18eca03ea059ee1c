use Rattle.std.proofs.Common.{◌≡◌, sym, ◌∙◌, arith, true, false}
use Rattle.kin_tourney.proofs.Trees.{right_inside}
use Rattle.kin_tourney.proofs.descent.doubted_half.Goals as goal

pub bounds-doubts-left-2 : goal.bounds-doubts-left-2
bounds-doubts-left-2 c = right_inside c.args.doubts.now c.requires.tree c.args.node c.requires.root (omega arith)

pub returns-then-not-is_clear : goal.returns-then-not-is_clear
returns-then-not-is_clear c = (omega arith, omega arith, omega arith, λ e. absurd (let k : false ≡ true = sym c.if-not-is_clear.true ∙ c.is_clear.ensures.1 e in cc))

pub returns-then-not-is_clear-2 : goal.returns-then-not-is_clear-2
returns-then-not-is_clear-2 c = (omega arith, omega arith, right_inside c.args.doubts.now c.requires.tree c.args.node c.requires.root (omega arith), λ e. absurd (let k : false ≡ true = sym c.if-not-is_clear-2.true ∙ c.is_clear-2.ensures.1 e in cc))
