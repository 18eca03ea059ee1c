use Rattle.std.proofs.Common.{◌≡◌, sym, ap, ◌∙◌, ℕ, List, Bool, Option, None, false, length, replicate}
use Rattle.std.proofs.lemmas.List.{length-replicate}
use Rattle.kin_motion.specs.Course.{Course, motion_of, AreSlow}
use Rattle.kin_motion.specs.Slots.{slots_of}
use Rattle.kin_motion.proofs.MotionLaws.{none_is_not_some}
use Rattle.kin_motion.proofs.SlotLaws.{slots-none, none_live}
use Rattle.kin_motion.proofs.motion.Motions.new.Goals as goal

nobody : (n : ℕ) (bs : List Bool) (cs : List Course) → bs ≡ replicate n false → length cs ≡ n → slots_of bs cs ≡ replicate n None
nobody n bs cs e f = ap (λ (s : List Bool). slots_of s cs) e ∙ slots-none n cs f

no_motion : (n : ℕ) (ms : List (Option Course)) → ms ≡ replicate n None → (i : ℕ) → motion_of ms i ≡ None
no_motion n ms e i = ap (λ (s : List (Option Course)). motion_of s i) e ∙ none_live n i

none_slow : (n : ℕ) (ms : List (Option Course)) → ms ≡ replicate n None → AreSlow ms
none_slow n ms e = record { each = λ i c h. none_is_not_some c (sym (no_motion n ms e i) ∙ h) }

pub invariant_of-result : goal.invariant_of-result
invariant_of-result c = record {
  fits = c.in_ok-courses.ensures ∙ sym (length-replicate _ false) ∙ sym (ap length c.in_ok-live.ensures);
  slow = none_slow _ _ (nobody _ c.in_ok-live.live.items c.in_ok-courses.courses.items c.in_ok-live.ensures c.in_ok-courses.ensures);
}

pub returns-clause-none : goal.returns-clause-none
returns-clause-none c = no_motion _ _ (nobody _ c.in_ok-live.live.items c.in_ok-courses.courses.items c.in_ok-live.ensures c.in_ok-courses.ensures)

pub returns-clause-room : goal.returns-clause-room
returns-clause-room c = ap length (nobody _ c.in_ok-live.live.items c.in_ok-courses.courses.items c.in_ok-live.ensures c.in_ok-courses.ensures) ∙ length-replicate _ None ∙ c.room_for-count.ensures

pub returns-clause-slow : goal.returns-clause-slow
returns-clause-slow c = (invariant_of-result c).slow
