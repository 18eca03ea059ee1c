use Rattle.std.proofs.Common.{◌≡◌, subst, arith, ℕ, ◌+◌, ◌-◌, [], ◌∷◌, drop}
use Rattle.kin_overlay.specs.Passing.{AreUntouched}
use Rattle.kin_overlay.proofs.PassLaws.{untouched-before, untouched-end}
use Rattle.kin_overlay.proofs.passing.pass_back.Goals as goal

pub loop-place-init : goal.loop-place-init
loop-place-init c =
    let w = c.args.standing.now in
    let rs = w.list.now.records in
    record {
      behind = omega (arith, c.requires.within, c.len-place.ensures);
      within = omega (arith, c.len-place.ensures);
      a_within = omega (arith, c.requires.a_some);
      b_within = omega (arith, c.requires.b_some);
      untouched = untouched-end w c.args.puts.a.now c.args.puts.b.now rs c.len-place.result c.args.front.a.now c.args.front.b.now (omega (arith, c.len-place.ensures)) c.requires.a_some c.requires.b_some;
    }

pub loop-place-preserved : goal.loop-place-preserved
loop-place-preserved c =
    let w = c.args.standing.now in
    let put_a = c.args.puts.a.now in
    let put_b = c.args.puts.b.now in
    let rs = w.list.now.records in
    let a = c.args.front.a.now in
    let b = c.args.front.b.now in
    let i = c.loop-place.invariant in
    let u = i.untouched in
    let before = c.loop-place.place - 1 in
    let from = c.in-Some.from in
    let p = c.in-Some.ensures.passed in
    let a_left = drop c.loop-place.a_from a in
    let b_left = drop c.loop-place.b_from b in
    let is : c.loop-place.place ≡ before + 1 = omega (arith, c.loop-place-test.true) in
    record {
      behind = omega (arith, c.loop-place-test.true);
      within = omega (arith, i.within);
      a_within = c.in-Some.ensures.a_within;
      b_within = c.in-Some.ensures.b_within;
      untouched = (
        u.0,
        u.1,
        untouched-before w put_a put_b rs before p.0 (drop from.0 a) (drop from.1 b) a_left b_left (u.0 ∷ []) (u.1 ∷ []) p.1 (subst (λ (n : ℕ). AreUntouched w put_a put_b (drop n rs) a_left b_left (u.0 ∷ []) (u.1 ∷ [])) is u.2) p.2 p.3,
      );
    }
