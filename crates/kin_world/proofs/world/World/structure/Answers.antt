use Rattle.kin_world.proofs.Inside.{sound_inside, whole_inside}
use Rattle.kin_world.proofs.SoundLaws.{settled_read, real, fits}
use Rattle.kin_world.proofs.world.World.structure.Goals as goal

pub returns : goal.returns
returns c =
    let sound = sound_inside c.self.inside c.self.view_is c.self.invariant c.requires.whole in
    record {
      whole = whole_inside c.self.inside c.self.view_is c.self.invariant c.requires.whole;
      rest = (settled_read sound c.args.s c.requires.kept.0 c.index.result.now (rw (← c.self.view_is) at c.requires.kept.1) c.index.ensures).rest;
      kept = λ keep there. rw (← c.self.view_is) (record { real = real sound; fits = fits sound; settled = settled_read sound c.args.s keep c.index.result.now (rw (← c.self.view_is) at there) c.index.ensures });
    }
