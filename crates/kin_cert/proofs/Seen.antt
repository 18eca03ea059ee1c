-- A fact is timed as its polynomial says.
use Rattle.std.proofs.Common.{◌≡◌, ◌∙◌, ℕ, List, Option, Result, Ok, Err, ap, sym, subst}
use Rattle.std.specs.Prelude.{OnOk}
use Rattle.std.specs.Ordering.{nat_cmp}
use Rattle.std.specs.FinMap.{FinMap}
use Rattle.kin_num.specs.declared.instant.Moment.{Moment}
use Rattle.kin_num.specs.Quadratic.{Quadratic}
use Rattle.kin_motion.specs.declared.fact.Fact.{Fact}
use Rattle.kin_motion.specs.Course.{Course}
use Rattle.kin_motion.specs.Forms.{polynomial_of}
use Rattle.kin_motion.specs.Scene.{scene_at}
use Rattle.kin_cert.specs.Entries.{Entry}
use Rattle.kin_fail.specs.declared.owned.Owned.{Owned}
use Rattle.kin_fail.specs.Failures.{IsFirstFailure, seen_by}
use Rattle.kin_fail.proofs.Seen.{failure-seen}
use Rattle.kin_cert.specs.Layout.{IsTimed, IsTimedFact}

-- what was timed by the polynomial of the form was timed by the motions
pub timed-seen : (ms : List (Option Course)) (now : Moment) (o : Owned) (id : ℕ) (slots slots' : List (Option Entry)) (moments moments' : FinMap nat_cmp Moment) (p : Quadratic) → p ≡ polynomial_of ms o.fact.form
    → IsTimed (seen_by p) now o id slots moments slots' moments' → IsTimed (scene_at ms) now o id slots moments slots' moments'
timed-seen ms now o id slots slots' moments moments' p e h = record {
  fails = h.fails;
  first = failure-seen ms o.fact now h.fails (subst (λ (q : Quadratic). IsFirstFailure (seen_by q) now o.fact h.fails) e h.first);
  slots_are = h.slots_are;
  moments_are = h.moments_are;
}

pub on_timed : {T E : Type 0} (ms : List (Option Course)) (now : Moment) (f : Fact) (id : ℕ) (slots slots' : List (Option Entry)) (moments moments' : FinMap nat_cmp Moment) (p : Quadratic) → p ≡ polynomial_of ms f.form
    → (r : Result T E) → OnOk r (IsTimedFact (seen_by p) now f id slots moments slots' moments') → OnOk r (IsTimedFact (scene_at ms) now f id slots moments slots' moments')
on_timed ms now f id slots slots' moments moments' p e (Ok v) h =
    λ o there is. timed-seen ms now o id slots slots' moments moments' p (e ∙ ap (λ (g : Fact). polynomial_of ms g.form) (sym is)) (h o there is)
on_timed ms now f id slots slots' moments moments' p e (Err x) h = tt
