use Rattle.std.proofs.Common.{◌≡◌, sym, ◌∙◌, arith, true, false}
use Rattle.kin_tourney.proofs.Doubts.{not_top, spreading_starts, spreading_on, spreading_ends}
use Rattle.kin_tourney.proofs.doubt.doubt_path.Goals as goal

pub loop-doubt-init : goal.loop-doubt-init
loop-doubt-init c = spreading_starts c.args.doubts.now c.args.doubt c.args.node c.requires.closed

pub loop-doubt-smaller : goal.loop-doubt-smaller
loop-doubt-smaller c =
    let some = not_top c.args.doubts.now c.loop-doubt.doubts c.args.doubt c.args.node c.loop-doubt.node c.requires.doubt c.requires.node c.loop-doubt.invariant (c.is_clear.ensures.0 c.loop-doubt-test.true) in
    omega arith

pub loop-doubt-preserved : goal.loop-doubt-preserved
loop-doubt-preserved c = spreading_on c.args.doubts.now c.loop-doubt.doubts c.args.doubt c.args.node c.loop-doubt.node c.requires.doubt c.requires.node c.loop-doubt.invariant (c.is_clear.ensures.0 c.loop-doubt-test.true)

pub returns-clause-closed : goal.returns-clause-closed
returns-clause-closed c = (spreading_ends c.args.doubts.now c.loop-doubt.doubts c.args.doubt c.args.node c.loop-doubt.node c.loop-doubt.invariant (λ e. absurd (let k : false ≡ true = sym c.loop-doubt-test.false ∙ c.is_clear.ensures.1 e in cc))).0

pub returns-clause-spread : goal.returns-clause-spread
returns-clause-spread c = (spreading_ends c.args.doubts.now c.loop-doubt.doubts c.args.doubt c.args.node c.loop-doubt.node c.loop-doubt.invariant (λ e. absurd (let k : false ≡ true = sym c.loop-doubt-test.false ∙ c.is_clear.ensures.1 e in cc))).1
