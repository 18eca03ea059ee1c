use Rattle.std.proofs.Common.{◌∙◌}
use Rattle.kin_plain.proofs.LivePairs.{others_may}
use Rattle.kin_plain.proofs.nearest.nearest_of.Goals as goal

pub best_of-requires : goal.best_of-requires
best_of-requires g c = others_may (g.O.Signs.scene c.args.now.now) c.args.no _ c.args.live.now c.deref.result.now c.requires.no_live c.requires.live (c.deref.ensures.value ∙ c.in_ok-others.ensures)
