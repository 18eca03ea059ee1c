use Rattle.std.proofs.Common.{ap, ◌∙◌, map}
use Rattle.kin_tourney.specs.Briefs.{slot_of}
use Rattle.kin_tourney.proofs.Briefs.{map_replicate}
use Rattle.kin_tourney.proofs.best.BestSlots.new.Goals as goal

pub returns : goal.returns
returns c = ap (map slot_of) (c.in_ok-slots.ensures.items_if_clones_equal (λ y e. e)) ∙ map_replicate slot_of c.args.count 65535
