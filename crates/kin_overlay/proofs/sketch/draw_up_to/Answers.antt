use Rattle.std.proofs.Common.{sym, ap, ◌∙◌, subst, List, [], ◌++◌, ◌+◌, drop, append_assoc}
use Rattle.std.proofs.lemmas.List.{append-nil}
use Rattle.kin_algebra.proofs.Members.{contains_from_get}
use Rattle.kin_overlay.specs.declared.draft.Draft.{Draft}
use Rattle.kin_overlay.specs.declared.record.Record.{Record}
use Rattle.kin_overlay.specs.Passing.{IsDrawnAlong}
use Rattle.kin_overlay.proofs.AlongLaws.{along-none, along-more}
use Rattle.kin_overlay.proofs.TraceLaws.{drop-at}
use Rattle.kin_overlay.proofs.sketch.draw_up_to.Goals as goal

pub loop-place-init : goal.loop-place-init
loop-place-init c =
    let w = c.args.standing.now in (
      [],
      sym (append-nil c.args.out.now.items),
      along-none w c.args.puts.a.now c.args.puts.b.now (drop c.args.from.place w.list.now.records) c.args.from.a.now c.args.from.b.now c.requires.a_some c.requires.b_some,
    )

pub draw_at-requires-clause-there : goal.draw_at-requires-clause-there
draw_at-requires-clause-there c = contains_from_get c.args.standing.now.list.now.records c.loop-place.place c.at-noted.result.now c.at-noted.ensures

pub loop-place-preserved : goal.loop-place-preserved
loop-place-preserved c =
    let w = c.args.standing.now in
    let put_a = c.args.puts.a.now in
    let put_b = c.args.puts.b.now in
    let rs = w.list.now.records in
    let place = c.loop-place.place in
    let first = c.loop-place.first.now in
    let second = c.loop-place.second.now in
    let first' = c.in_ok-first.field-0-0.now in
    let second' = c.in_ok-first.field-0-1.now in
    let i = c.loop-place.invariant in
    let d = c.in_ok-first.ensures.drawn in
    let behind = drop (place + 1) rs in
    let here = subst (λ (l : List Record). IsDrawnAlong w put_a put_b l behind first second first' second' d.0) (sym (drop-at rs place c.at-noted.result.now c.at-noted.ensures)) (d.2 behind) in (
      i.0 ++ d.0,
      d.1 ∙ ap (λ (l : List Draft). l ++ d.0) i.1 ∙ append_assoc c.args.out.now.items i.0 d.0,
      along-more w put_a put_b (drop c.args.from.place rs) (drop place rs) behind c.args.from.a.now c.args.from.b.now first second first' second' i.0 d.0 i.2 here,
    )
