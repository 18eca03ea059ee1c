use Rattle.std.proofs.Common.{◌≡◌, ℕ, Option, Some, None, IfSome, refl, sym, ap, ◌∙◌}
use Rattle.kin_algebra.specs.declared.sign.Sign.TheVariants.{Plus}
use Rattle.kin_num.specs.declared.instant.Moment.{Moment}
use Rattle.kin_num.specs.Canonical.{IsCanonical}
use Rattle.kin_num.specs.Instants.{sign_at}
use Rattle.kin_num.specs.Quadratic.{Quadratic}
use Rattle.kin_num.proofs.MomentOrder.{not_earlier_itself, earlier_trans}
use Rattle.kin_motion.specs.Course.{Course}
use Rattle.kin_motion.specs.declared.fact.Fact.{Fact}
use Rattle.kin_fail.specs.Failures.{IsFirstFailure, seen_by}
use Rattle.kin_fail.specs.Approach.{clearance, IsFirstWithin}
use Rattle.kin_fail.proofs.approach.first_within.Goals as goal

-- two points come within a distance where being apart fails first
comes_within : (d : ℕ) (p q : Course) (now : Moment) → IsCanonical now.at
    → (f : Fact) → f.sign ≡ Plus → (o : Option Moment) → IsFirstFailure (seen_by (clearance d p q)) now f o → IfSome o (IsFirstWithin d p q now)
comes_within d p q now here f plus None h = tt
comes_within d p q now here f plus (Some m) h = record {
  canonical = h.canonical;
  from = λ e. not_earlier_itself now (earlier_trans now m now here.form h.canonical.form here.form h.later_is_later e);
  within = λ e. h.fails (e ∙ sym plus);
  before = λ n k. h.holds_until n k ∙ plus;
}

pub returns-in-Plus-clause-some : goal.returns-in-Plus-clause-some
returns-in-Plus-clause-some g c =
    comes_within c.args.distance c.args.one.now c.args.other.now c.args.now.now c.recall_canonical.ensures _ refl c.first_fail.result
    (rw c.clearance-clearance.ensures at c.first_fail.ensures.failure)

pub returns-in_default : goal.returns-in_default
returns-in_default g c =
    record {
      some = record {
        canonical = c.recall_canonical.ensures;
        from = not_earlier_itself c.args.now.now;
        within = λ e. c.in_default.not-Plus (c.sign_at.ensures.value ∙ ap (λ (p : Quadratic). sign_at p c.args.now.now) c.clearance-clearance.ensures ∙ e);
        before = λ n k. absurd (k.from k.until);
      };
      none = tt;
    }
