-- First failures exist, and are at roots or just after them.
use Rattle.std.proofs.Common.{◌≡◌, ◌≢◌, ◌⊎◌, inl, inr, Option, Some, None, MatchOption, refl, ap, sym, ◌∙◌, subst, pos, List}
use Rattle.kin_algebra.proofs.Magnitudes.{zero_or_not}
use Rattle.kin_algebra.specs.declared.sign.Sign.{Sign}
use Rattle.kin_algebra.specs.declared.sign.Sign.TheVariants.{Minus, Zero, Plus}
use Rattle.kin_algebra.proofs.Signs.{code}
use Rattle.kin_num.specs.declared.instant.Phase.{Phase}
use Rattle.kin_num.specs.declared.instant.Phase.TheVariants.{At, After}
use Rattle.kin_num.specs.declared.instant.Moment.{Moment}
use Rattle.kin_num.specs.Quadratic.{Quadratic, IsSmall}
use Rattle.kin_num.specs.Canonical.{IsCanonical}
use Rattle.kin_num.specs.Instants.{sign_at_instant, sign_at}
use Rattle.kin_num.proofs.MomentOrder.{not_earlier_itself, earlier_trans}
use Rattle.kin_instant.specs.Places.{IsZeroPolynomial}
use Rattle.kin_instant.specs.Laws.{IsNext}
use Rattle.kin_instant.proofs.SignTable.{at_at}
use Rattle.kin_instant.proofs.NextExistence.{next_roots_exist}
use Rattle.kin_motion.specs.declared.fact.Fact.{Fact}
use Rattle.kin_motion.specs.Forms.{IsAskable, polynomial_of}
use Rattle.kin_motion.specs.Course.{Course, AreSlow, live_of}
use Rattle.kin_motion.specs.Moments.{FailsFirst}
use Rattle.kin_motion.specs.Journal as journal
use Rattle.kin_motion.specs.Journal.{Setting, Failure, Block, IsNextBlock, setting_of}
use Rattle.kin_motion.specs.Scene.{scene_at}
use Rattle.kin_motion.proofs.JournalLaws.{first_failure_is_one}
use Rattle.kin_motion.proofs.AskableLaws.{live_facts_are_askable}
use Rattle.kin_motion.proofs.PolynomialSizes.{polynomials_are_small}
use Rattle.kin_fail.specs.Failures.{seen_by, IsFirstFailure}
use Rattle.kin_fail.specs.Laws.{IsProperRoot, FailuresAreAtRoots, BlocksAreAtRoots, FirstFailuresExist}
use Rattle.kin_fail.proofs.Failing.{zero_everywhere, fails_at_root, never_fails, zero_for_ever, left_after, is_at}
use Rattle.kin_fail.proofs.Seen.{holds-seen, failure-seen}

-- ---- whether a polynomial is 0
all_zero_or_not : (p : Quadratic) → IsZeroPolynomial p ⊎ ¬ (IsZeroPolynomial p)
all_zero_or_not p = by_parts (zero_or_not p.a) (zero_or_not p.b) (zero_or_not p.c)
  where
    by_parts : (p.a ≡ pos 0) ⊎ (p.a ≢ pos 0) → (p.b ≡ pos 0) ⊎ (p.b ≢ pos 0) → (p.c ≡ pos 0) ⊎ (p.c ≢ pos 0) → IsZeroPolynomial p ⊎ ¬ (IsZeroPolynomial p)
    by_parts (inl e) (inl f) (inl g) = inl (record { a_zero = e; b_zero = f; c_zero = g })
    by_parts (inr n) b c = inr (λ z. n z.a_zero)
    by_parts (inl e) (inr n) c = inr (λ z. n z.b_zero)
    by_parts (inl e) (inl f) (inr n) = inr (λ z. n z.c_zero)

-- ---- the first failure, and that it is at a root or just after one
-- the sign 0 is left just after an instant, each other one at it
abbrev pub phase_of_failure : Sign → Phase
phase_of_failure Minus = At
phase_of_failure Zero = After
phase_of_failure Plus = At

-- the moment is the root, or just after it, as the fact's sign says
pub record IsFailureMoment (p : Quadratic) (f : Fact) (m : Moment) : Type 0 where
  pub root : IsProperRoot p m.at
  pub phase : m.phase ≡ phase_of_failure f.sign

record HasFirst (p : Quadratic) (now : Moment) (f : Fact) : Type 0 where
  later : Option Moment
  failure : IsFirstFailure (seen_by p) now f later
  moment : MatchOption later (Unit {0}) (IsFailureMoment p f)

module _ (p : Quadratic) (small : IsSmall p) (now : Moment) (here : IsCanonical now.at) (f : Fact) (holds : sign_at p now ≡ f.sign) where
  some_fails : f.sign ≢ Zero → HasFirst p now f
  some_fails some = let n = next_roots_exist p now.at small here.form in by_next n.0 n.1
    where
      at_root : (s : Sign) → s ≢ Zero → At ≡ phase_of_failure s
      at_root Minus n = refl
      at_root Zero n = absurd (n refl)
      at_root Plus n = refl

      by_next : (next : Option _) → IsNext p now.at next → HasFirst p now f
      by_next None h = record { later = None; failure = never_fails p now here f holds some h.kept; moment = tt }
      by_next (Some r) h = record {
        later = Some (record { at = r; phase = At });
        failure = fails_at_root p now here f holds some r h.found h.kept;
        moment = record {
          root = record { root = h.found.root; some = λ z. some (sym holds ∙ zero_everywhere p z now here) };
          phase = at_root f.sign some;
        };
      }

  zero_fails : f.sign ≡ Zero → HasFirst p now f
  zero_fails e = by_polynomial (all_zero_or_not p)
    where
      at_now : now.phase ≡ At → sign_at_instant p now.at ≡ Zero
      at_now h = sym (at_at p now.at) ∙ ap (λ (q : Phase). sign_at p (record { at = now.at; phase = q })) (sym h) ∙ holds ∙ e

      by_polynomial : IsZeroPolynomial p ⊎ ¬ (IsZeroPolynomial p) → HasFirst p now f
      by_polynomial (inl z) = record { later = None; failure = zero_for_ever p now here (holds ∙ e) f e z; moment = tt }
      by_polynomial (inr n) = record {
        later = Some (record { at = now.at; phase = After });
        failure = left_after p now here (holds ∙ e) f e n;
        moment = record {
          root = record { root = at_now (is_at p now here (holds ∙ e) f e n now.phase refl); some = n };
          phase = ap phase_of_failure (sym e);
        };
      }

  has_first : HasFirst p now f
  has_first = by_sign f.sign refl
    where
      by_sign : (s : Sign) → f.sign ≡ s → HasFirst p now f
      by_sign Zero e = zero_fails e
      by_sign Minus e = some_fails (λ z. code (sym e ∙ z))
      by_sign Plus e = some_fails (λ z. code (sym e ∙ z))

-- ---- the laws
pub first_failures_exist : FirstFailuresExist
first_failures_exist ms now f slow askable here holds =
    let p = polynomial_of ms f.form in
    let h = has_first p (polynomials_are_small ms f.form slow askable) now here f (holds-seen ms f now holds) in
    (h.later, failure-seen ms f now h.later h.failure)

-- a fact fails first at a root where its sign isn't 0, and just after one where it is
pub failure_moments : (ms : List (Option Course)) (now later : Moment) (f : Fact) → AreSlow ms → IsAskable (live_of ms) f.form → IsCanonical now.at
    → FailsFirst (scene_at ms) now later f → IsFailureMoment (polynomial_of ms f.form) f later
failure_moments ms now later f slow askable here fails =
    let p = polynomial_of ms f.form in
    let holds = fails.holds_until now (record { canonical = here; from = not_earlier_itself now; until = fails.later_is_later }) in
    let h = has_first p (polynomials_are_small ms f.form slow askable) now here f (holds-seen ms f now holds) in
    by_first h.later (failure-seen ms f now h.later h.failure) h.moment
  where
    by_first : (o : Option Moment) → IsFirstFailure (scene_at ms) now f o → MatchOption o (Unit {0}) (IsFailureMoment (polynomial_of ms f.form) f) → IsFailureMoment (polynomial_of ms f.form) f later
    by_first None never r = absurd (fails.fails (never later fails.canonical (λ e. not_earlier_itself now (earlier_trans now later now here.form fails.canonical.form here.form fails.later_is_later e))))
    by_first (Some m) first r = subst (IsFailureMoment (polynomial_of ms f.form) f) (first_failure_is_one (scene_at ms) now m later f here first fails) r

pub failures_are_at_roots : FailuresAreAtRoots
failures_are_at_roots ms now later f slow askable here fails = (failure_moments ms now later f slow askable here fails).root

-- a failure in the next block is a first failure
pub fails_in_block : (t : Setting) (now : Moment) (b : Block) (f : Failure) → IsNextBlock t now b → journal.IsFailure t now b.moment f → FailsFirst t.scene now b.moment f.was.placed.fact
fails_in_block t now b f next failure = record {
  canonical = next.canonical;
  later_is_later = next.later;
  holds_until = next.hold_before f.was failure.live;
  fails = failure.fails;
}

pub blocks_are_at_roots : BlocksAreAtRoots
blocks_are_at_roots ms size keeps now b f slow small here next there =
    let failure = (next.exact f).0 there in
    failures_are_at_roots ms now b.moment f.was.placed.fact slow (live_facts_are_askable size keeps (scene_at ms now) f.was small failure.live) here
    (fails_in_block (setting_of ms size keeps) now b f next failure)
