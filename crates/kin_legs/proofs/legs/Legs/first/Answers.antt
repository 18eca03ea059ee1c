use Rattle.std.proofs.Common.{sym, ap, ◌∙◌, ◌∷◌}
use Rattle.kin_legs.specs.Planning.{Planning}
use Rattle.kin_legs.proofs.Entries.{first_leg}
use Rattle.kin_legs.proofs.legs.Legs.first.Goals as goal

pub returns-in-Some : goal.returns-in-Some
returns-in-Some c =
    let f = first_leg c.self.inside.by_time.entries (c.in-Some.key.now, c.in-Some.m.now) c.in-Some.ensures.first in
    (f.0, sym (ap (λ (p : Planning). p.legs) c.self.view_is) ∙ f.1 ∙ ap (λ l. l ∷ f.0) (sym c.leg_in.ensures), λ e. absurd cc)
