use Rattle.kin_algebra.proofs.Results.{from_two}
use Rattle.kin_world.proofs.TurnLaws.{askable_still, holds_still, taken_up}
use Rattle.kin_world.proofs.upkeep.Upkeep.take_up.Goals as goal

pub remake-requires : goal.remake-requires
remake-requires g c = record {
  askable = askable_still c.requires.sound c.args.no c.args.motion c.requires.may c.set.new.self c.set.ensures.value;
  holds = holds_still c.requires.sound c.args.no c.args.motion c.requires.may c.set.new.self c.set.ensures.value;
}

pub returns-clause-taken_up : goal.returns-clause-taken_up
returns-clause-taken_up g c =
    from_two c.remake.result (λ remade once. taken_up c.requires.sound c.args.no c.args.motion c.requires.may c.set.new.self c.set.ensures.value remade once c.set.ensures.slow) c.remake.ensures.remade c.remake.ensures.once
