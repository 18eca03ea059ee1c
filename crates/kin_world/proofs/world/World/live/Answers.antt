use Rattle.kin_world.proofs.Vocabulary.{◌≡◌, ◌∙◌, sym, length, length-map, LiveFact}
use Rattle.kin_world.proofs.Inside.{as_seen, whole_inside}
use Rattle.kin_world.proofs.LiveCounts.{few_live}
use Rattle.kin_world.proofs.world.World.live.Goals as goal

pub returns-clause-whole : goal.returns-clause-whole
returns-clause-whole c = whole_inside c.self.inside c.self.view_is c.self.invariant c.requires

pub returns-clause-few : goal.returns-clause-few
returns-clause-few c =
    let listed = c.live.ensures.count ∙ sym (length-map c.self.inside.upkeep.table.live (λ (l : LiveFact). l.certificate)) in
    few_live c.args.self.now c.live.result (whole_inside c.self.inside c.self.view_is c.self.invariant c.requires)
    (as_seen c.self.inside c.self.view_is c.self.invariant c.requires (λ v. c.live.result ≡ length v.live) listed)
