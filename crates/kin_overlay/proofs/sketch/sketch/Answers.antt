use Rattle.std.proofs.Common.{sym, subst, arith, ℕ, ◌++◌, ◌-◌, take, drop}
use Rattle.kin_overlay.specs.declared.shared.Shared.{Shared}
use Rattle.kin_overlay.specs.Passing.{IsDrawnBefore}
use Rattle.kin_overlay.specs.Spans.{drafts, whole_sketch}
use Rattle.kin_overlay.proofs.PassLaws.{end-end}
use Rattle.kin_overlay.proofs.SpanLaws.{clean, clean-front, all-whole, all-front, between, all-between, all-seated, all-retained}
use Rattle.kin_overlay.proofs.sketch.sketch.Goals as goal

pub returns-then-left-back-2 : goal.returns-then-left-back-2
returns-then-left-back-2 c =
    let w = c.args.standing.now in
    let puts = c.args.puts in
    let rs = w.list.now.records in
    let a = c.args.a.now in
    let b = c.args.b.now in
    let front = c.in_ok-front.front in
    let back = c.pass_back-back.result in
    let left = c.in_ok-left.left in
    let begun = c.in_ok-front.ensures in
    let passed = c.pass_back-back.ensures in
    let u = passed.untouched in
    let d = c.in_ok-left.ensures.drawn in
    let out = c.draw_up_to.new.out.items in
    let span : Shared = record { front = front.place; back = c.len.result - back.place } in
    let all =
    all-whole w puts.a.now puts.b.now a b span back.place out (omega (arith, passed.within, c.len.ensures))
    (all-between w puts.a.now puts.b.now a b front.place back.place front.a.now front.b.now left.a.now left.b.now c.begin.new.out.items d.0 out begun.drawn d.1 d.2 back.a.now back.b.now u.0 u.1 passed.a_end passed.b_end c.if-left-back.true c.if-left-back-2.true u.2) in
    let whole = whole_sketch span rs out in
    record {
      clean =
          clean rs span back.place a b begun.passed.0 begun.passed.1 back.a.now back.b.now u.0 u.1 (omega (arith, passed.within, c.len.ensures)) (omega (arith, passed.behind, passed.within, c.len.ensures)) begun.passed.2 (λ k l. c.requires.linked k) u.2.passed
          (end-end back.a.now front.a.now a passed.a_end begun.a_end) (end-end back.b.now front.b.now b passed.b_end begun.b_end) (λ k l. c.requires.linked k);
      interleaved = all.interleaved;
      fit = all.fit;
      seated = all-seated w puts a b c.requires.a_some c.requires.b_some c.requires.a_once c.requires.b_once whole all;
      retained = all-retained w puts a b c.requires.a_some c.requires.b_some c.requires.a_once c.requires.b_once whole all;
    }

pub returns : goal.returns
returns c =
    let w = c.args.standing.now in
    let puts = c.args.puts in
    let rs = w.list.now.records in
    let a = c.args.a.now in
    let b = c.args.b.now in
    let front = c.in_ok-front.front in
    let back = c.pass_back-back.result in
    let left = c.in_ok-left.left in
    let begun = c.in_ok-front.ensures in
    let d = c.in_ok-left.ensures.drawn in
    let drawn = c.draw_up_to.new.out.items in
    let out = c.draw_rest.new.out.items in
    let span : Shared = record { front = front.place; back = 0 } in
    let start = drafts (take front.place rs) in
    let here = between w puts.a.now puts.b.now a b front.place back.place front.a.now front.b.now left.a.now left.b.now c.begin.new.out.items d.0 drawn begun.drawn d.1 d.2 in
    let all =
    all-front w puts.a.now puts.b.now a b front.place out
    (c.in_ok-draw_rest.ensures a b start (subst (λ (n : ℕ). IsDrawnBefore w puts.a.now puts.b.now a b (drop n rs) left.a.now left.b.now (start ++ drawn)) (sym c.in_ok-left.ensures.place) here)) in
    let whole = whole_sketch span rs out in
    record {
      clean = clean-front rs front.place a b begun.passed.0 begun.passed.1 begun.within c.requires.a_some c.requires.b_some begun.passed.2 (λ k l. c.requires.linked k);
      interleaved = all.interleaved;
      fit = all.fit;
      seated = all-seated w puts a b c.requires.a_some c.requires.b_some c.requires.a_once c.requires.b_once whole all;
      retained = all-retained w puts a b c.requires.a_some c.requires.b_some c.requires.a_once c.requires.b_once whole all;
    }
