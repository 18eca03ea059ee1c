use Rattle.std.proofs.Common.{ap, ◌∙◌, subst, []}
use Rattle.kin_motion.specs.Deltas.{Change}
use Rattle.kin_motion.specs.Kinetics.{HasChanged}
use Rattle.kin_overlay.specs.Overlays.{Merge}
use Rattle.kin_overlay.specs.Remembered.{facts_of, all_placed}
use Rattle.kin_overlay.proofs.SoundLaws.{sound-at-rest, retired}
use Rattle.kin_overlay.proofs.overlay.Overlay.retire.Goals as goal

pub returns : goal.returns
returns c =
    let o = c.self.inside in
    let rest = ap (λ (m : Merge). m.stage) c.self.view_is ∙ c.requires.rest in
    let distinct = (sound-at-rest o.stage _ rest c.self.invariant).whole.distinct in
    let done = retired o.part o.list c.new-none.result c.out.inside.dropped.items c.tell_missing.new.told.items c.out.inside.born.items c.new-none.ensures distinct c.in_ok-tell_missing.ensures in
    record {
      dropped =
          subst (λ (m : Merge). HasChanged m.facts [] c.args.out.now (record { dropped = c.tell_missing.new.told.items; born = c.out.inside.born.items })) c.self.view_is
          (subst (λ (d : Change). HasChanged (all_placed o.part (facts_of o.list)) [] d (record { dropped = c.tell_missing.new.told.items; born = c.out.inside.born.items })) c.out.view_is done);
    }
