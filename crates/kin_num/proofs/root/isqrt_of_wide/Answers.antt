use Rattle.std.proofs.Common.{ℕ, ◌<◌, ◌^◌, arith}
use Rattle.kin_num.proofs.HeronRoots.{wide_root, one_step, two_steps, three_steps, one_less, square_over, square_within}
use Rattle.kin_num.proofs.root.isqrt_of_wide.Goals as goal

pub nearer-requires-2-clause-wide : goal.nearer-requires-2-clause-wide
nearer-requires-2-clause-wide c =
    let r = wide_root c.args.x c.requires.wide c.ranges.x.fits in
    (one_step c.args.x r.0 r.1 r.2 r.3 c.guess_above.result c.nearer.result c.guess_above.ensures c.nearer.ensures).0

pub nearer-guess-requires-clause-fits : goal.nearer-guess-requires-clause-fits
nearer-guess-requires-clause-fits c =
    let r = wide_root c.args.x c.requires.wide c.ranges.x.fits in
    (two_steps c.args.x r.0 r.1 r.2 r.3 c.guess_above.result c.nearer.result c.nearer-2.result c.guess_above.ensures c.nearer.ensures c.nearer-2.ensures).1

pub nearer-guess-requires-clause-wide : goal.nearer-guess-requires-clause-wide
nearer-guess-requires-clause-wide c =
    let r = wide_root c.args.x c.requires.wide c.ranges.x.fits in
    (two_steps c.args.x r.0 r.1 r.2 r.3 c.guess_above.result c.nearer.result c.nearer-2.result c.guess_above.ensures c.nearer.ensures c.nearer-2.ensures).0

pub returns-then-guess-gt-GREATEST : goal.returns-then-guess-gt-GREATEST
returns-then-guess-gt-GREATEST c =
    let r = wide_root c.args.x c.requires.wide c.ranges.x.fits in
    let q = three_steps c.args.x r.0 r.1 r.2 r.3 c.guess_above.result c.nearer.result c.nearer-2.result c.nearer-guess.result c.guess_above.ensures c.nearer.ensures c.nearer-2.ensures c.nearer-guess.ensures in
    one_less c.args.x r.0 r.1 c.nearer-guess.result q (beyond r.0 c.nearer-guess.result r.3 c.if-guess-gt-GREATEST.true)
  where
    beyond : (r q : ℕ) → r < 2 ^ 32 → 4294967295 < q → r < q
    beyond r q h k = omega (arith, h, k)

pub returns-then-guess-x : goal.returns-then-guess-x
returns-then-guess-x c =
    let r = wide_root c.args.x c.requires.wide c.ranges.x.fits in
    let q = three_steps c.args.x r.0 r.1 r.2 r.3 c.guess_above.result c.nearer.result c.nearer-2.result c.nearer-guess.result c.guess_above.ensures c.nearer.ensures c.nearer-2.ensures c.nearer-guess.ensures in
    square_over c.args.x r.0 r.1 c.nearer-guess.result q c.if-guess-x.true

pub returns-else-guess-x : goal.returns-else-guess-x
returns-else-guess-x c =
    let r = wide_root c.args.x c.requires.wide c.ranges.x.fits in
    let q = three_steps c.args.x r.0 r.1 r.2 r.3 c.guess_above.result c.nearer.result c.nearer-2.result c.nearer-guess.result c.guess_above.ensures c.nearer.ensures c.nearer-2.ensures c.nearer-guess.ensures in
    square_within c.args.x r.0 r.1 c.nearer-guess.result q c.if-guess-x.false
