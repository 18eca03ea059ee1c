-- Where a leap lands, all is as a repair needs it.
use Rattle.kin_world.proofs.Vocabulary.{ap, ◌≡◌, inl, inr, refl, sym, ◌∙◌, subst, true, false, pos, List, Option, cases_Bool, All-contains, IsCanonical, IsEarlier, Moment, never, through, Course, FailsFirst, HoldsAt, scene_at, Form, Dist, Line}
use Rattle.kin_world.proofs.Vocabulary.{Slope, Turn, Facts, NoneAlike, HasGivenOut, IsLeastFailure, Owned, HasLanded, HasSameFrame, HasSettled, IsBeyond, IsLanding, IsSound, IsUnderRepair, Stage, is_line, sight}
use Rattle.kin_instant.proofs.Crossing.{at_it, just_after}
use Rattle.kin_motion.specs.Forms.{polynomial_of}
use Rattle.kin_cert.proofs.JustAfter.{follows, next_or_later, fails_not_just_after, line_fails_on}
use Rattle.kin_world.proofs.SoundLaws.{failure_at, least_fails}
use Rattle.kin_world.proofs.TakeLaws.{IsReached, at_once, at_moment, reached_under_repair, taken_under_repair, given_each}

flat : (ms : List (Option Course)) (form : Form) → is_line form ≡ true → (polynomial_of ms form).a ≡ pos 0
unfolding polynomial_of
flat ms (Line dx dy off i j) e = refl
flat ms (Turn i j k) e = absurd cc
flat ms (Slope i j k l) e = absurd cc
flat ms (Dist i j k l) e = absurd cc

-- where a leap lands
module _ {s : Stage} (sound : IsSound s) (table : Facts) {given : List Owned} (out : HasGivenOut s.table.live table.live given) (due limit : Moment) (least : IsLeastFailure s.table.live due) (m : Moment) where
  first : FailsFirst (scene_at s.motions) s.moment due least.some.0.certificate.placed.fact
  first = least_fails sound due least

  module _ (beyond : IsBeyond (scene_at s.motions) due limit given m) where
    there_at : due ≡ at_it due.at
    there_at i = record { at = due.at; phase = beyond.at i }

    past_due : IsEarlier due m
    past_due = rw beyond.after (subst (λ (x : Moment). IsEarlier x (just_after due.at)) (sym there_at) (follows due.at first.canonical))

    reached : IsReached sound table out m
    reached = record {
      canonical = there;
      later = through s.moment due m sound.in_order.canonical first.canonical there first.later_is_later past_due;
      ahead = λ l live n e other.
          let fails = failure_at sound l live n e in
          elim (next_or_later due.at first.canonical n fails.canonical (subst (λ (x : Moment). IsEarlier x n) is_due ((at_once sound table out).ahead l live n e other))) [
            | inl is ↦ absurd (fails_not_just_after due.at first.canonical s.motions s.moment sound.in_order.canonical before l.certificate.placed.fact (subst (λ (x : Moment). FailsFirst (scene_at s.motions) s.moment x l.certificate.placed.fact) (sym is) fails))
            | inr later ↦ rw beyond.after later
          ];
      failed = λ l live e.
          let o : Owned = record { structure = l.certificate.structure; part = l.certificate.placed.part; fact = l.certificate.placed.fact } in
          let curved = All-contains (λ (x : Owned). is_line x.fact.form ≡ false → ¬ (HoldsAt (scene_at s.motions) m x.fact)) given o beyond.none_holds ((given_each sound table out o).1 (l, live, e, refl)) in
          let fails = subst (λ (x : Moment). FailsFirst (scene_at s.motions) s.moment x l.certificate.placed.fact) is_due (failure_at sound l live out.has_taken.moment e) in
          elim (cases_Bool (is_line l.certificate.placed.fact.form)) [
            | inl line ↦ rw beyond.after (line_fails_on due.at first.canonical s.motions s.moment sound.in_order.canonical before l.certificate.placed.fact (flat s.motions l.certificate.placed.fact.form line) fails)
            | inr other ↦ curved other
          ];
    }
      where
        there : IsCanonical m.at
        there = rw beyond.after first.canonical

        is_due : out.has_taken.moment ≡ at_it due.at
        is_due = at_moment sound table out due least ∙ there_at

        before : IsEarlier s.moment (at_it due.at)
        before = subst (IsEarlier s.moment) there_at first.later_is_later

  pub landing_under_repair : IsLanding (scene_at s.motions) due limit given m → NoneAlike table.live → table.made ≡ s.table.made → IsUnderRepair 0 (sight s) (record s { moment = m; table = table })
  landing_under_repair (inl is) once made = rw is (taken_under_repair sound table out due least once made)
  landing_under_repair (inr beyond) once made = reached_under_repair sound table out m (reached beyond) once made

  -- it has landed later, not before the moment that was due and not after the limit
  pub has_landed : {t : Stage} → IsLanding (scene_at s.motions) due limit given m → ¬ (IsEarlier limit due) → HasSameFrame (record s { moment = m; table = table }) t → HasSettled s.table t → HasLanded due limit s t
  has_landed {t} landing within frame settled =
      let lands = subst (λ (x : Moment). IsEarlier s.moment x × ¬ (IsEarlier x due) × ¬ (IsEarlier limit x)) (sym (ap (λ (x : Stage). x.moment) frame)) (at landing) in
      record { later = lands.0; past = lands.1; within = lands.2; settled = settled }
    where
      at : IsLanding (scene_at s.motions) due limit given m → IsEarlier s.moment m × ¬ (IsEarlier m due) × ¬ (IsEarlier limit m)
      at (inl is) = rw is (first.later_is_later, never due first.canonical, within)
      at (inr beyond) = ((reached beyond).later, λ e. never due first.canonical (through due m due first.canonical (reached beyond).canonical first.canonical (past_due beyond) e), beyond.within)
