use Rattle.std.proofs.Common.{◌≡◌, refl, sym, ap, ◌∙◌, subst, ◌<◌, ◌≤◌, length, cond, Bool, false, List, Option, Some, None}
use Rattle.std.specs.Prelude.{slice_get}
use Rattle.std.proofs.lemmas.Option.{slice_get_read}
use Rattle.kin_motion.specs.Course.{Course, motion_of}
use Rattle.kin_motion.proofs.SlotLaws.{slots-read, slots-past, slots-absent}
use Rattle.kin_motion.proofs.motion.Motions.get.Goals as goal
use Rattle.kin_motion.proofs.motion.Motions.get.Goals.{else-place-len-via-then-place-len+else-index, else-place-len-via-else-place-len}

pub returns-then-index-clause-motion : goal.returns-then-index-clause-motion
returns-then-index-clause-motion c =
    let k = c.self.inside in
    let within : c.args.no < length k.live.items = subst (λ n. c.args.no < n) (c.len.ensures ∙ k.live.ok.0) c.if-place-len.true in
    sym (ap (λ (b : Bool). cond b (Some c.index-then-index.result.now) None) c.if-index.true)
    ∙ sym (slots-read k.live.items k.courses.items c.args.no c.index.result.now c.index-then-index.result.now within c.self.invariant.fits c.index.ensures c.index-then-index.ensures)
    ∙ ap (λ (s : List (Option Course)). motion_of s c.args.no) c.self.view_is

pub returns-else-place-len-clause-motion : goal.returns-else-place-len-clause-motion
returns-else-place-len-clause-motion c = elim c.else-place-len.branch [
  | else-place-len-via-then-place-len+else-index w ↦ (
      let k = c.self.inside in
      let within : c.args.no < length k.live.items = subst (λ n. c.args.no < n) (c.len.ensures ∙ k.live.ok.0) w.if-place-len.true in
      let read : slice_get k.live.items c.args.no ≡ Some false = slice_get_read k.live.items (length k.live.items) c.args.no w.index.result.now refl within w.index.ensures ∙ ap (λ (b : Bool). Some b) w.if-index.false in
      sym (slots-absent k.live.items k.courses.items c.args.no read) ∙ ap (λ (s : List (Option Course)). motion_of s c.args.no) c.self.view_is)
  | else-place-len-via-else-place-len w ↦ (
      let k = c.self.inside in
      let past : length k.live.items ≤ c.args.no = subst (λ n. n ≤ c.args.no) (c.len.ensures ∙ k.live.ok.0) w.if-place-len.false in
      sym (slots-past k.live.items k.courses.items c.args.no past) ∙ ap (λ (s : List (Option Course)). motion_of s c.args.no) c.self.view_is)
]
