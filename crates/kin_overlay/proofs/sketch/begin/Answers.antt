use Rattle.std.proofs.Common.{sym, ◌∙◌}
use Rattle.std.proofs.lemmas.List.{nil_from_length}
use Rattle.std.proofs.lemmas.Bool.{eqb-true}
use Rattle.kin_overlay.specs.declared.half.Half.TheVariants.{A as SideA, B as SideB}
use Rattle.kin_overlay.proofs.AlongLaws.{put-end, front-along, before-none, before-front}
use Rattle.kin_overlay.proofs.sketch.begin.Goals as goal

pub returns-then-is_empty-clause-a_end : goal.returns-then-is_empty-clause-a_end
returns-then-is_empty-clause-a_end c =
    (front-along c.args.standing.now c.args.puts.a.now c.args.puts.b.now c.pass_front.result.place c.args.a.now c.args.b.now c.pass_front.result.a.now c.pass_front.result.b.now c.pass_front.ensures.untouched c.requires.a_some c.requires.b_some).a_end

pub returns-then-is_empty-clause-b_end : goal.returns-then-is_empty-clause-b_end
returns-then-is_empty-clause-b_end c =
    (front-along c.args.standing.now c.args.puts.a.now c.args.puts.b.now c.pass_front.result.place c.args.a.now c.args.b.now c.pass_front.result.a.now c.pass_front.result.b.now c.pass_front.ensures.untouched c.requires.a_some c.requires.b_some).b_end

pub returns-then-is_empty-clause-drawn : goal.returns-then-is_empty-clause-drawn
returns-then-is_empty-clause-drawn c =
    let w = c.args.standing.now in
    let put_a = c.args.puts.a.now in
    let put_b = c.args.puts.b.now in
    let a = c.args.a.now in
    let b = c.args.b.now in
    let first = c.in_ok-first.first.now in
    let second = c.in_ok-second.second.now in
    let e = c.in_ok-first.ensures in
    let f = c.in_ok-second.ensures in
    let r = c.pass_front.result in
    let none = nil_from_length c.draw_put-2.new.out.items (sym c.draw_put-2.new.out.ok.0 ∙ eqb-true _ 0 (sym c.is_empty.ensures ∙ c.if-is_empty.true)) in
    let start = before-none w put_a put_b a b first second c.clear.new.self.items c.draw_put.new.out.items c.draw_put-2.new.out.items c.requires.a_some c.requires.b_some c.clear.ensures.items e.pushed e.rest f.pushed f.rest (e.drawn w) e.some (f.drawn w) f.some in
    before-front w put_a put_b a b r.place first second r.a.now r.b.now c.clear.new.self.items c.draw_put.new.out.items c.draw_put-2.new.out.items e.pushed e.rest f.pushed f.rest none start
    (front-along w put_a put_b r.place a b r.a.now r.b.now c.pass_front.ensures.untouched c.requires.a_some c.requires.b_some)

pub returns-clause-a_end : goal.returns-clause-a_end
returns-clause-a_end c = put-end SideA c.args.puts.a.now c.args.a.now c.in_ok-first.first.now c.in_ok-first.ensures.rest c.in_ok-first.ensures.some

pub returns-clause-b_end : goal.returns-clause-b_end
returns-clause-b_end c = put-end SideB c.args.puts.b.now c.args.b.now c.in_ok-second.second.now c.in_ok-second.ensures.rest c.in_ok-second.ensures.some

pub returns-clause-drawn : goal.returns-clause-drawn
returns-clause-drawn c =
    let w = c.args.standing.now in
    let e = c.in_ok-first.ensures in
    let f = c.in_ok-second.ensures in
    before-none w c.args.puts.a.now c.args.puts.b.now c.args.a.now c.args.b.now c.in_ok-first.first.now c.in_ok-second.second.now c.clear.new.self.items c.draw_put.new.out.items c.draw_put-2.new.out.items c.requires.a_some c.requires.b_some c.clear.ensures.items e.pushed e.rest f.pushed
    f.rest (e.drawn w) e.some (f.drawn w) f.some
