use Rattle.std.proofs.Common.{◌∙◌}
use Rattle.kin_plain.specs.Comparing.{AreBothLive}
use Rattle.kin_plain.proofs.LivePairs.{pairs_may, part_may}
use Rattle.kin_plain.proofs.farthest.farthest_of.Goals as goal

pub apart_of-requires : goal.apart_of-requires
apart_of-requires g c = pairs_may (g.O.Signs.scene c.args.now.now) c.args.live.now c.deref.result.now c.requires.live (c.deref.ensures.value ∙ c.in_ok-pairs.ensures)

pub best_of-requires : goal.best_of-requires
best_of-requires g c =
    part_may (AreBothLive (g.O.Signs.scene c.args.now.now).live) _ c.deref.result.now c.deref-2.result.now
    (pairs_may (g.O.Signs.scene c.args.now.now) c.args.live.now c.deref.result.now c.requires.live (c.deref.ensures.value ∙ c.in_ok-pairs.ensures))
    (c.deref-2.ensures.value ∙ c.in_ok-apart.ensures)
