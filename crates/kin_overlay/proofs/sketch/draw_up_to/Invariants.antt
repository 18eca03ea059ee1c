use Rattle.std.proofs.Common.{◌≡◌, List, ◌++◌, drop}
use Rattle.kin_overlay.specs.declared.draft.Draft.{Draft}
use Rattle.kin_overlay.specs.Passing.{IsDrawnAlong}
use Rattle.kin_overlay.proofs.sketch.draw_up_to.Given as goal

abbrev pub invariant-loop-place : goal.invariant-loop-place
invariant-loop-place l =
    (part : List Draft) × (l.out.items ≡ l.initial.out.items ++ part)
    × IsDrawnAlong l.standing l.puts.a.now l.puts.b.now (drop l.fn.from.place l.standing.list.now.records) (drop l.place l.standing.list.now.records) l.fn.from.a.now l.fn.from.b.now l.first l.second part
