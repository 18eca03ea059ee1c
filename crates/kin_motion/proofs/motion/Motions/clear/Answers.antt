use Rattle.std.proofs.Common.{sym, ap, subst, ◌∙◌, ◌<◌, List, Option, None, false, length, length-set}
use Rattle.std.specs.Prelude.{slice_set}
use Rattle.kin_motion.specs.Course.{Course, AreSlow}
use Rattle.kin_motion.proofs.MotionLaws.{slow-clear}
use Rattle.kin_motion.proofs.SlotLaws.{slots-clear, slots-length}
use Rattle.kin_motion.proofs.motion.Motions.clear.Goals as goal

pub index_mut-requires : goal.index_mut-requires
index_mut-requires c =
    let k = c.self.inside in
    let room : c.args.no < length c.args.self.now = c.requires.room in
    subst (λ n. c.args.no < n) (sym (ap length c.self.view_is) ∙ slots-length k.live.items k.courses.items c.self.invariant.fits ∙ sym k.live.ok.0) room

pub invariant_of-self : goal.invariant_of-self
invariant_of-self c =
    let k = c.self.inside in
    record {
      fits = c.self.invariant.fits ∙ sym (length-set k.live.items c.args.no false);
      slow = subst AreSlow (sym (slots-clear k.live.items k.courses.items c.args.no)) (slow-clear _ _ c.self.invariant.slow);
    }

pub returns : goal.returns
returns c =
    let k = c.self.inside in
    slots-clear k.live.items k.courses.items c.args.no ∙ ap (λ (s : List (Option Course)). slice_set s c.args.no None) c.self.view_is
