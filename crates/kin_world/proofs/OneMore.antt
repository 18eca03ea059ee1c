-- What is seen of the others, where one number's motion is another, or one number more has a motion.
use Rattle.std.proofs.Common.{rules, ◌≡◌, ◌≢◌, ◌↔◌, refl, sym, ap, ap₂, ◌∙◌, arith, ℕ, ◌<◌, true, false, nat_eq, List, [], ◌∷◌, map, length, slice_set, Option, Some, None, get_or-set_same, get_or-set_other, length-set}
use Rattle.kin_motion.specs.declared.form.Form.{Form}
use Rattle.kin_motion.specs.declared.form.Form.TheVariants.{Line, Turn, Slope, Dist}
use Rattle.kin_motion.specs.Forms.{polynomial_of, sign_of_form}
use Rattle.kin_motion.specs.Numbers.{is_in, HasEntered}
use Rattle.kin_motion.proofs.LiveLaws.{filled-once, live-members}
use Rattle.kin_closest.proofs.Readiness.{names_live}
use Rattle.kin_world.proofs.Vocabulary.{cases_eq, or_parts, nat_tests, Moment, Course, live_of, motion_of, IsAskable, names, Scene, scene_at, LiveFact, IsFirstFailure, IsTimed, HasOneMore}

-- a fact whose form is seen alike has its first failure where it had it
timed_alike : (v w : Moment → Scene) (now : Moment) (l : LiveFact) → ((m : Moment) → (w m).sign l.certificate.placed.fact.form ≡ (v m).sign l.certificate.placed.fact.form) → IsTimed v now l → IsTimed w now l
timed_alike v w now l alike timed = record { waits_not = timed.waits_not; fails = at l.fails timed.fails }
  where
    at : (o : Option Moment) → IsFirstFailure v now l.certificate.placed.fact o → IsFirstFailure w now l.certificate.placed.fact o
    at None never = λ m canonical from. alike m ∙ never m canonical from
    at (Some later) first = record {
      canonical = first.canonical;
      later_is_later = first.later_is_later;
      holds_until = λ m until. alike m ∙ first.holds_until m until;
      fails = λ holds. first.fails (sym (alike later) ∙ holds);
    }

module _ (ms : List (Option Course)) (n : ℕ) (o : Option Course) where
  -- the other numbers have the motions that they had
  moves_alike : (is : List ℕ) → is_in n is ≡ false → map (motion_of (slice_set ms n o)) is ≡ map (motion_of ms) is
  moves_alike [] away = refl
  moves_alike (a ∷ is) away =
      let parts = or_parts (nat_eq n a) (is_in n is) away in
      let apart : a ≢ n = grind (arith, nat_tests, parts.0) in
      ap₂ (λ (p : Option Course) (ps : List (Option Course)). p ∷ ps) (get_or-set_other ms n a o None apart) (moves_alike is parts.1)

  -- so a form that doesn't name n has the sign that it had
  unnamed_sign : (m : Moment) (f : Form) → names f n ≡ false → sign_of_form (slice_set ms n o) f m ≡ sign_of_form ms f m
  unfolding sign_of_form polynomial_of
  unnamed_sign m (Line dx dy off a b) away = let same = moves_alike (a ∷ b ∷ []) away in cc
  unnamed_sign m (Turn a b c) away = let same = moves_alike (a ∷ b ∷ c ∷ []) away in cc
  unnamed_sign m (Slope a b c d) away = let same = moves_alike (a ∷ b ∷ c ∷ d ∷ []) away in cc
  unnamed_sign m (Dist a b c d) away = let same = moves_alike (a ∷ b ∷ c ∷ d ∷ []) away in cc

  -- and a fact about it its first failure
  pub timed_other : (now : Moment) (l : LiveFact) → names l.certificate.placed.fact.form n ≡ false → IsTimed (scene_at ms) now l ↔ IsTimed (scene_at (slice_set ms n o)) now l
  timed_other now l away = (timed_alike _ _ now l (λ m. unnamed_sign m _ away), timed_alike _ _ now l (λ m. sym (unnamed_sign m _ away)))

module _ {n : ℕ} {less more : List (Option Course)} (one : HasOneMore n less more) where
  absent : is_in n (live_of less) ≡ false
  absent = live-members less n ∙ one.free

  pub sign_alike : (m : Moment) (f : Form) → names f n ≡ false → sign_of_form more f m ≡ sign_of_form less f m
  sign_alike m f away = rw one.is (unnamed_sign less n (Some one.motion) m f away)

  pub timed_same : (now : Moment) (l : LiveFact) → IsAskable (live_of less) l.certificate.placed.fact.form → IsTimed (scene_at less) now l ↔ IsTimed (scene_at more) now l
  timed_same now l asked =
      rw one.is (timed_other less n (Some one.motion) now l (names_live (live_of less) n (λ there. let in_ : is_in n (live_of less) ≡ true = there in let out = absent in cc) l.certificate.placed.fact.form asked))

  pub same_room : length more ≡ length less
  same_room = ap length one.is ∙ length-set less n (Some one.motion)

  -- the number is live with it, and of the others those that are without
  pub one_more : n < length less → HasEntered n (live_of less) (live_of more)
  one_more low = search (rules, absent, filled-once, live-members, cases_eq, get_or-set_same, get_or-set_other)
