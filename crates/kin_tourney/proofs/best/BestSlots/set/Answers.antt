use Rattle.std.proofs.Common.{ap, ◌∙◌, List, ℕ, set, map}
use Rattle.std.specs.Prelude.{Option}
use Rattle.std.proofs.lemmas.List.{map-set}
use Rattle.kin_tourney.specs.Briefs.{slot_of}
use Rattle.kin_tourney.proofs.best.BestSlots.set.Goals as goal

pub returns : goal.returns
returns c =
    map-set slot_of c.self.inside.slots.items c.args.node c.brief.result ∙ ap (set (map slot_of c.self.inside.slots.items) c.args.node) c.brief.ensures
    ∙ ap (λ (l : List (Option ℕ)). set l c.args.node c.args.best) c.self.view_is
