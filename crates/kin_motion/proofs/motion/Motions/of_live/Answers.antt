use Rattle.std.proofs.Common.{◌≡◌, ◌∙◌, sym, ap, subst, ℕ, ◌<◌, true, List, Option}
use Rattle.std.specs.Prelude.{is_some}
use Rattle.kin_motion.specs.Course.{Course, live_of, motion_of}
use Rattle.kin_motion.specs.Numbers.{is_in}
use Rattle.kin_motion.proofs.LiveLaws.{live-members}
use Rattle.kin_motion.proofs.SlotLaws.{slots-within, slots-live}
use Rattle.kin_motion.proofs.motion.Motions.of_live.Goals as goal

there : (ms ns : List (Option Course)) (i : ℕ) → ns ≡ ms → is_in i (live_of ms) ≡ true → is_some (motion_of ns i) ≡ true
there ms ns i e h = ap (λ (s : List (Option Course)). is_some (motion_of s i)) e ∙ sym (live-members ms i) ∙ h

pub index-requires : goal.index-requires
index-requires c =
    let k = c.self.inside in
    subst (λ n. c.args.no < n) (sym k.courses.ok.0) (slots-within k.live.items k.courses.items c.args.no (there c.args.self.now _ c.args.no c.self.view_is c.requires.live))

pub returns-clause-motion : goal.returns-clause-motion
returns-clause-motion c =
    let k = c.self.inside in
    ap (λ (s : List (Option Course)). motion_of s c.args.no) (sym c.self.view_is)
    ∙ slots-live k.live.items k.courses.items c.args.no c.index.result.now (there c.args.self.now _ c.args.no c.self.view_is c.requires.live) c.index.ensures
