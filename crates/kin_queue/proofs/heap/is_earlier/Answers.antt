use Rattle.std.proofs.lemmas.Bool.Decides.{Decides-ltb}
use Rattle.kin_queue.proofs.Spans.{earlier_span, span_earlier}
use Rattle.kin_queue.proofs.heap.is_earlier.Goals as goal

pub returns-then-x-y-clause-earlier : goal.returns-then-x-y-clause-earlier
returns-then-x-y-clause-earlier g c =
    let x = c.args.x.now in
    let y = c.args.y.now in
    let ms = c.args.instants.now in
    let d = Decides-ltb x.span y.span in (
      λ t. earlier_span ms x y c.requires.left c.requires.right (d.0 t),
      λ h. d.1 (span_earlier ms x y c.requires.left c.requires.right c.if-x-y.true h),
    )
