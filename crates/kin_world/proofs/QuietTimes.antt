-- Settings that show the same, and quiet times one after another.
use Rattle.kin_world.proofs.Vocabulary.{sym, ◌∙◌, []}
use Rattle.kin_world.proofs.Vocabulary.{IsCanonical, Moment}
use Rattle.kin_num.proofs.MomentOrder.{not_earlier_trans}
use Rattle.kin_motion.specs.Journal.{Setting}
use Rattle.kin_legs.specs.Shown.{IsQuiet, ShowAlike}
use Rattle.kin_legs.proofs.ShownLaws.{quiet_times_add_nothing}

pub show_back : {now last : Moment} {t u : Setting} → ShowAlike now last t u → ShowAlike now last u t
show_back alike = record { size = sym alike.size; keeps = sym alike.keeps; scene = λ m there from until. sym (alike.scene m there from until) }

pub show_through : {now last : Moment} {t u v : Setting} → ShowAlike now last t u → ShowAlike now last u v → ShowAlike now last t v
show_through one two = record { size = one.size ∙ two.size; keeps = one.keeps ∙ two.keeps; scene = λ m there from until. one.scene m there from until ∙ two.scene m there from until }

-- a quiet time after a quiet time
pub quiet_through : (t : Setting) (a b c : Moment) → IsCanonical a.at → IsQuiet t a b → IsQuiet t b c → IsQuiet t a c
quiet_through t a b c here one two = record {
  canonical = two.canonical;
  not_before = not_earlier_trans a b c here.form one.canonical.form two.canonical.form one.not_before two.not_before;
  none_fails = quiet_times_add_nothing t a b c [] here two.canonical one two.none_fails;
  same = λ x. (λ h. (two.same x).0 ((one.same x).0 h), λ h. (one.same x).1 ((two.same x).1 h));
}
