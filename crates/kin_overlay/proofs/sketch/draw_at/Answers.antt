use Rattle.kin_overlay.proofs.AlongLaws.{along-a, along-b}
use Rattle.kin_overlay.proofs.sketch.draw_at.Goals as goal

pub returns-in_ok-left-in-A : goal.returns-in_ok-left-in-A
returns-in_ok-left-in-A c =
    let s = c.in_ok-left-in-A.ensures.step in
    record {
      drawn = (
        s.0,
        s.1,
        λ others.
            along-a c.args.standing.now c.args.puts.a.now c.args.puts.b.now c.args.noted.now others c.args.first.now c.args.second.now c.in_ok-left-in-A.left.now c.args.out.now.items c.draw_from.new.out.items s.0 c.in-A.is s.1 c.in_ok-left-in-A.ensures.drawn s.2
            c.in_ok-left-in-A.ensures.some c.requires.b_some,
      );
    }

pub returns-in_ok-left-in-B : goal.returns-in_ok-left-in-B
returns-in_ok-left-in-B c =
    let s = c.in_ok-left-in-B.ensures.step in
    record {
      drawn = (
        s.0,
        s.1,
        λ others.
            along-b c.args.standing.now c.args.puts.a.now c.args.puts.b.now c.args.noted.now others c.args.first.now c.args.second.now c.in_ok-left-in-B.left.now c.args.out.now.items c.draw_from-in-B.new.out.items s.0 c.in-B.is s.1 c.in_ok-left-in-B.ensures.drawn s.2
            c.in_ok-left-in-B.ensures.some c.requires.a_some,
      );
    }
