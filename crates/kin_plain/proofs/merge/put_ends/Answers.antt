use Rattle.std.proofs.Common.{arith}
use Rattle.std.proofs.lemmas.Result.{on_ok_weaker}
use Rattle.kin_motion.specs.Scene.{placed_at}
use Rattle.kin_plain.proofs.Merging.{ends_put}
use Rattle.kin_plain.proofs.merge.put_ends.Goals as goal

pub returns : goal.returns
returns g c =
    on_ok_weaker c.put_end-2.result
    (λ put.
    ends_put (placed_at (g.O.Signs.scene c.args.now.now) c.args.part) (g.O.Signs.scene c.args.now.now) c.args.a.now c.args.b.now c.args.facts.now.items c.put_end.new.facts.items
    c.put_end-2.new.facts.items _ _ c.requires.a_some c.requires.b_some
    (λ e f. omega (arith, e, f)) c.in_ok-put_end.ensures put (omega arith) (omega arith))
    c.put_end-2.ensures
