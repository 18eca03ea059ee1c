use Rattle.std.proofs.Common.{◌∙◌}
use Rattle.kin_plain.proofs.LivePairs.{pairs_may}
use Rattle.kin_plain.proofs.closest.closest_of.Goals as goal

pub best_of-requires : goal.best_of-requires
best_of-requires g c = pairs_may (g.O.Signs.scene c.args.now.now) c.args.live.now c.deref.result.now c.requires.live (c.deref.ensures.value ∙ c.in_ok-pairs.ensures)
