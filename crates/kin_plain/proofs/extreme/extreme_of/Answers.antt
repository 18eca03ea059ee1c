use Rattle.std.proofs.Common.{rules}
use Rattle.kin_plain.proofs.LiveLists.{all_live}
use Rattle.kin_plain.proofs.extreme.extreme_of.Goals as goal

pub best_of-requires : goal.best_of-requires
best_of-requires g c = λ k d low. record { small = search rules; is_live = all_live (g.O.Signs.scene c.args.now.now) c.args.live.now c.requires.live k d low }
