-- No sign goes from + to - without being 0 between.
use Rattle.std.proofs.Common.{◌≡◌, ◌⊎◌, inl, inr, refl, sym, ◌∙◌, subst, List, Option}
use Rattle.kin_algebra.specs.declared.sign.Sign.TheVariants.{Minus, Zero, Plus}
use Rattle.kin_algebra.proofs.Signs.{code}
use Rattle.kin_num.specs.declared.instant.Moment.{Moment}
use Rattle.kin_num.specs.declared.instant.Phase.{Phase}
use Rattle.kin_num.specs.declared.instant.Phase.TheVariants.{At, After}
use Rattle.kin_num.specs.Canonical.{IsCanonical}
use Rattle.kin_num.specs.Order.{IsEarlier}
use Rattle.kin_num.proofs.MomentLaws.{never, through}
use Rattle.kin_instant.proofs.Crossing.{at_it, just_after}
use Rattle.kin_instant.proofs.SignTable.{at_at}
use Rattle.kin_motion.specs.declared.fact.Fact.{Fact}
use Rattle.kin_motion.specs.declared.form.Form.{Form}
use Rattle.kin_motion.specs.Course.{Course, AreSlow, live_of}
use Rattle.kin_motion.specs.Forms.{IsAskable, polynomial_of}
use Rattle.kin_motion.specs.Moments.{HoldsUntil, FailsFirst}
use Rattle.kin_motion.specs.Scene.{scene_at}
use Rattle.kin_fail.proofs.FailureRoots.{failures_are_at_roots}
use Rattle.kin_fail.proofs.Seen.{seen-holds}
use Rattle.kin_cert.proofs.JustAfter.{follows, next_or_later}

module _ (ms : List (Option Course)) (slow : AreSlow ms) (now later : Moment) (here : IsCanonical now.at) (there : IsCanonical later.at)
    (before : IsEarlier now later) where
  -- of an instant and just after it, if the second is later than now, the first isn't before now
  from_now : later ≡ just_after later.at → IsEarlier (at_it later.at) now → ⊥
  from_now is early = at (next_or_later later.at there now here early)
    where
      at : (just_after later.at ≡ now) ⊎ IsEarlier (just_after later.at) now → ⊥
      at (inl same) = never now here (subst (IsEarlier now) (is ∙ same) before)
      at (inr less) = never now here (through now later now here there here before (subst (λ (m : Moment). IsEarlier m now) (sym is) less))

  module _ (form : Form) (asked : IsAskable (live_of ms) form) where
    abbrev plus : Fact
    plus = record { form = form; sign = Plus }

    pub no_jump : HoldsUntil (scene_at ms) now later plus → (scene_at ms later).sign form ≡ Minus → ⊥
    no_jump held minus = by_phase later.phase refl
      where
        fails : FailsFirst (scene_at ms) now later plus
        fails = record { canonical = there; later_is_later = before; holds_until = held; fails = λ h. code (sym minus ∙ h) }

        -- the sign is 0 at the instant
        zero : (scene_at ms (at_it later.at)).sign form ≡ Zero
        zero =
            let proper = failures_are_at_roots ms now later plus slow asked here fails in
            seen-holds ms (record { form = form; sign = Zero }) (at_it later.at) (at_at (polynomial_of ms form) later.at ∙ proper.root)

        by_phase : (f : Phase) → later.phase ≡ f → ⊥
        by_phase At e =
            let is : later ≡ at_it later.at = λ i. record { at = later.at; phase = e i } in
            code (sym zero ∙ subst (λ (m : Moment). (scene_at ms m).sign form ≡ Minus) is minus)
        by_phase After e =
            let is : later ≡ just_after later.at = λ i. record { at = later.at; phase = e i } in
            let until = subst (IsEarlier (at_it later.at)) (sym is) (follows later.at there) in
            code (sym zero ∙ held (at_it later.at) (record { canonical = there; from = from_now is; until = until }))
