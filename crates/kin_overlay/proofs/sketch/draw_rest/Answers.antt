use Rattle.std.proofs.Common.{sym, ap, ◌∙◌, subst, arith, List, ◌++◌, drop, append_assoc}
use Rattle.std.proofs.lemmas.List.{drop_all}
use Rattle.kin_overlay.specs.declared.draft.Draft.{Draft}
use Rattle.kin_overlay.specs.declared.record.Record.{Record}
use Rattle.kin_overlay.specs.Passing.{IsDrawnBefore}
use Rattle.kin_overlay.proofs.AlongLaws.{before-more, all-drawn}
use Rattle.kin_overlay.proofs.sketch.draw_rest.Goals as goal

pub returns : goal.returns
returns c = λ a b before k.
    let w = c.args.standing.now in
    let put_a = c.args.puts.a.now in
    let put_b = c.args.puts.b.now in
    let rs = w.list.now.records in
    let from = c.args.from in
    let left = c.in_ok-left.left in
    let out = c.args.out.now.items in
    let drawn = c.draw_up_to.new.out.items in
    let d = c.in_ok-left.ensures.drawn in
    let none = drop_all c.len.result rs (omega (arith, c.len.ensures)) in
    let more = before-more w put_a put_b a b (drop from.place rs) (drop c.len.result rs) from.a.now from.b.now left.a.now left.b.now (before ++ out) d.0 k d.2 in
    let last = subst (λ (l : List Draft). IsDrawnBefore w put_a put_b a b (drop c.len.result rs) left.a.now left.b.now l) (append_assoc before out d.0 ∙ ap (λ (l : List Draft). before ++ l) (sym d.1)) more in
    all-drawn w put_a put_b a b left.a.now left.b.now before drawn c.draw_all.new.out.items c.draw_all-2.new.out.items (subst (λ (l : List Record). IsDrawnBefore w put_a put_b a b l left.a.now left.b.now (before ++ drawn)) none last) c.in_ok-draw_all.ensures.pushed c.in_ok-draw_all-2.ensures.pushed
    (c.in_ok-draw_all.ensures.drawn w) (c.in_ok-draw_all-2.ensures.drawn w)
