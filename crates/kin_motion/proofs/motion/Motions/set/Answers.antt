use Rattle.std.proofs.Common.{sym, ap, subst, ◌∙◌, ◌<◌, List, Option, Some, true, length, length-set}
use Rattle.std.specs.Prelude.{slice_set}
use Rattle.kin_motion.specs.Course.{Course, AreSlow, IsSlow}
use Rattle.kin_motion.proofs.MotionLaws.{slow-set}
use Rattle.kin_motion.proofs.SlotLaws.{slots-set, slots-length}
use Rattle.kin_motion.proofs.motion.Motions.set.Goals as goal

pub index_mut-requires : goal.index_mut-requires
index_mut-requires c =
    let k = c.self.inside in
    let room : c.args.no < length c.args.self.now = c.requires.room in
    subst (λ n. c.args.no < n) (sym (ap length c.self.view_is) ∙ slots-length k.live.items k.courses.items c.self.invariant.fits ∙ sym k.live.ok.0) room

pub index_mut-requires-2 : goal.index_mut-requires-2
index_mut-requires-2 c =
    let k = c.self.inside in
    let room : c.args.no < length c.args.self.now = c.requires.room in
    subst (λ n. c.args.no < n) (sym (ap length c.self.view_is) ∙ slots-length k.live.items k.courses.items c.self.invariant.fits ∙ sym c.self.invariant.fits ∙ sym k.courses.ok.0) room

pub invariant_of-self : goal.invariant_of-self
invariant_of-self c =
    let k = c.self.inside in
    record {
      fits = length-set k.courses.items c.args.no c.args.m ∙ c.self.invariant.fits ∙ sym (length-set k.live.items c.args.no true);
      slow = subst AreSlow (sym (slots-set k.live.items k.courses.items c.args.no c.args.m)) (slow-set _ _ _ c.self.invariant.slow (subst IsSlow c.m.view_is c.m.invariant));
    }

pub returns-clause-value : goal.returns-clause-value
returns-clause-value c =
    let k = c.self.inside in
    slots-set k.live.items k.courses.items c.args.no c.args.m ∙ ap (λ (s : List (Option Course)). slice_set s c.args.no (Some c.args.m)) c.self.view_is

pub returns-clause-slow : goal.returns-clause-slow
returns-clause-slow c = (invariant_of-self c).slow
