-- What fails first at an instant, and what fails first just after one.
use Rattle.std.proofs.Common.{◌≡◌, ◌⊎◌, inl, inr, refl, sym, ap, ◌∙◌, pos, List, Option}
use Rattle.kin_algebra.specs.declared.sign.Sign.{Sign}
use Rattle.kin_algebra.specs.declared.sign.Sign.TheVariants.{Minus, Zero, Plus}
use Rattle.kin_algebra.specs.Signs.{sign_of, first_of}
use Rattle.kin_num.specs.declared.instant.Moment.{Moment}
use Rattle.kin_num.specs.declared.instant.Phase.TheVariants.{After}
use Rattle.kin_num.specs.declared.instant.Shape.{Shape}
use Rattle.kin_num.specs.Canonical.{IsCanonical}
use Rattle.kin_num.specs.Instants.{sign_at, sign_at_instant, derivative}
use Rattle.kin_num.specs.Order.{IsLess, IsEarlier}
use Rattle.kin_num.specs.Quadratic.{Quadratic}
use Rattle.kin_num.proofs.InstantOrder.{level_same, same_level}
use Rattle.kin_num.proofs.LowerFractions.{not_less_itself}
use Rattle.kin_num.proofs.MomentLaws.{never, through}
use Rattle.kin_instant.proofs.Crossing.{at_it, just_after, line_stays}
use Rattle.kin_instant.proofs.Kept.{zero_after, phase_code}
use Rattle.kin_instant.proofs.SignTable.{at_at, at_after}
use Rattle.kin_motion.specs.declared.fact.Fact.{Fact}
use Rattle.kin_motion.specs.Course.{Course}
use Rattle.kin_motion.specs.Forms.{polynomial_of}
use Rattle.kin_motion.specs.Moments.{HoldsAt, FailsFirst}
use Rattle.kin_motion.specs.Scene.{scene_at}
use Rattle.kin_fail.proofs.Failing.{zero_everywhere}
use Rattle.kin_fail.proofs.Seen.{holds-seen, seen-holds}

-- an instant, and just after it
module _ (w : Shape) (c : IsCanonical w) where
  pub follows : IsEarlier (at_it w) (just_after w)
  follows = inr (same_level w w refl, refl, refl)

  -- no moment lies between them
  pub next_or_later : (n : Moment) → IsCanonical n.at → IsEarlier (at_it w) n → ((just_after w) ≡ n) ⊎ IsEarlier (just_after w) n
  next_or_later n d (inl less) = inr (inl less)
  next_or_later n d (inr level) = let same : w ≡ n.at = level_same w n.at c.form d.form level.0 in inl (λ i. record { at = same i; phase = sym level.2 i })

  -- what lies before the instant lies at an earlier one
  before_instant : (m : Moment) → IsEarlier m (at_it w) → IsLess m.at w
  before_instant m (inl less) = less
  before_instant m (inr level) = absurd (phase_code level.2)

  module _ (ms : List (Option Course)) (now : Moment) (here : IsCanonical now.at) (before : IsEarlier now (at_it w)) (f : Fact) where
    abbrev P : Quadratic
    P = polynomial_of ms f.form

    -- a fact that holds until just after the instant holds just after that from which it is seen, and at the instant
    module _ (first : FailsFirst (scene_at ms) now (just_after w) f) where
      holds_soon : sign_at P (record { at = now.at; phase = After }) ≡ f.sign
      holds_soon = holds-seen ms f _ (first.holds_until _ (record { canonical = here; from = not_before; until = inl (before_instant now before) }))
        where
          not_before : IsEarlier (record { at = now.at; phase = After }) now → ⊥
          not_before (inl less) = not_less_itself now.at less
          not_before (inr level) = phase_code (sym level.1)

      holds_there : sign_at P (at_it w) ≡ f.sign
      holds_there = holds-seen ms f (at_it w) (first.holds_until (at_it w) (record { canonical = c; from = λ e. never now here (through now (at_it w) now here c here before e); until = follows }))

      -- then it holds just after the instant, too
      holds_on : (s : Sign) → f.sign ≡ s → sign_at P (just_after w) ≡ f.sign
      holds_on Zero e = zero_everywhere P (zero_after P now.at here.form (holds_soon ∙ e)) (just_after w) c ∙ sym e
      holds_on Plus e = at_after P w c.form ∙ ap (λ (x : Sign). first_of x (first_of (sign_at_instant (derivative P) w) (sign_of P.a))) (sym (at_at P w) ∙ holds_there ∙ e) ∙ sym e
      holds_on Minus e = at_after P w c.form ∙ ap (λ (x : Sign). first_of x (first_of (sign_at_instant (derivative P) w) (sign_of P.a))) (sym (at_at P w) ∙ holds_there ∙ e) ∙ sym e

    -- seen from before an instant, no fact fails first just after it
    pub fails_not_just_after : FailsFirst (scene_at ms) now (just_after w) f → ⊥
    fails_not_just_after first = first.fails (seen-holds ms f (just_after w) (holds_on first f.sign refl))

    -- where the polynomial is a line, a fact that fails at the instant fails just after it, too
    pub line_fails_on : P.a ≡ pos 0 → FailsFirst (scene_at ms) now (at_it w) f → ¬ (HoldsAt (scene_at ms) (just_after w) f)
    line_fails_on flat first holds =
        let held : sign_at P now ≡ f.sign = holds-seen ms f now (first.holds_until now (record { canonical = here; from = never now here; until = first.later_is_later })) in
        first.fails (seen-holds ms f (at_it w) (line_stays now here.form w c.form (before_instant now before) P flat (holds-seen ms f (just_after w) holds ∙ sym held) ∙ held))
