-- First failures by the next root.
use Rattle.std.proofs.Common.{◌≡◌, ◌≢◌, inl, inr, Some, None, refl, ap, ap₂, sym, ◌∙◌, ℤ, pos}
use Rattle.kin_algebra.specs.declared.sign.Sign.{Sign}
use Rattle.kin_algebra.specs.declared.sign.Sign.TheVariants.{Zero}
use Rattle.kin_algebra.specs.Signs.{first_of}
use Rattle.kin_algebra.proofs.IntegerSigns.{zero_of}
use Rattle.kin_num.specs.declared.instant.Shape.{Shape}
use Rattle.kin_num.specs.declared.instant.Phase.{Phase}
use Rattle.kin_num.specs.declared.instant.Phase.TheVariants.{At, After}
use Rattle.kin_num.specs.declared.instant.Moment.{Moment}
use Rattle.kin_num.specs.Quadratic.{Quadratic}
use Rattle.kin_num.specs.Canonical.{IsCanonical}
use Rattle.kin_num.specs.Instants.{sign_at}
use Rattle.kin_num.specs.Order.{IsLess, IsEarlier}
use Rattle.kin_num.proofs.MomentOrder.{earlier_total}
use Rattle.kin_num.proofs.InstantOrder.{level_same, same_level}
use Rattle.kin_instant.specs.Places.{IsZeroPolynomial, IsNextRoot, KeepsSign}
use Rattle.kin_instant.specs.Roots.{quadratic}
use Rattle.kin_instant.proofs.RootsOf.{constant_sign}
use Rattle.kin_instant.proofs.SignTable.{at_at, at_after}
use Rattle.kin_instant.proofs.Kept.{zero_after, constant_at}
use Rattle.kin_motion.specs.declared.fact.Fact.{Fact}
use Rattle.kin_fail.specs.Failures.{seen_by, IsFirstFailure}

-- the polynomial 0 has the sign 0 at every moment
zero_at : (w : Shape) (f : Phase) → IsCanonical w → sign_at (quadratic (pos 0) (pos 0) (pos 0)) (record { at = w; phase = f }) ≡ Zero
zero_at w At i = at_at (quadratic (pos 0) (pos 0) (pos 0)) w ∙ constant_sign (pos 0) w i.form
zero_at w After i = at_after (quadratic (pos 0) (pos 0) (pos 0)) w i.form ∙ ap₂ (λ (s t : Sign). first_of s (first_of t Zero)) (constant_sign (pos 0) w i.form) (constant_sign (pos 0) w i.form)

pub zero_everywhere : (p : Quadratic) → IsZeroPolynomial p → (m : Moment) → IsCanonical m.at → sign_at p m ≡ Zero
zero_everywhere p z m i =
    ap (λ (x : ℤ). sign_at (quadratic x p.b p.c) m) z.a_zero ∙ ap (λ (x : ℤ). sign_at (quadratic (pos 0) x p.c) m) z.b_zero ∙ ap (λ (x : ℤ). sign_at (quadratic (pos 0) (pos 0) x) m) z.c_zero
    ∙ zero_at m.at m.phase i

-- a constant that has the sign 0 at a moment is 0
pub constant_zero : (p : Quadratic) (m : Moment) → IsCanonical m.at → sign_at p m ≡ Zero → p.a ≡ pos 0 → p.b ≡ pos 0 → IsZeroPolynomial p
constant_zero p m i zero a b = record {
  a_zero = a;
  b_zero = b;
  c_zero = zero_of p.c (sym (constant_at m.at i.form m.phase p.c) ∙ ap₂ (λ (x y : ℤ). sign_at (quadratic x y p.c) m) (sym a) (sym b) ∙ zero);
}

module _ (p : Quadratic) (now : Moment) (here : IsCanonical now.at) (f : Fact) (holds : sign_at p now ≡ f.sign) where
  -- a sign that stays after now stays from now on
  from_now : (m : Moment) → IsCanonical m.at → ¬ (IsEarlier m now) → (IsEarlier now m → sign_at p m ≡ sign_at p now) → sign_at p m ≡ f.sign
  from_now m i not_before after =
      elim (earlier_total now m here.form i.form) [
        | inl later ↦ after later ∙ holds
        | inr rest ↦ elim rest [
          | inl earlier ↦ absurd (not_before earlier)
          | inr same ↦ ap (sign_at p) (sym same) ∙ holds
        ]
      ]

  -- before an instant
  at_less : (m : Moment) (r : Shape) → IsEarlier m (record { at = r; phase = At }) → IsLess m.at r
  at_less m r (inl l) = l
  at_less m r (inr h) = absurd (let e : At ≡ After = h.2 in cc)

  pub fails_at_root : f.sign ≢ Zero → (r : Shape) → IsNextRoot p now.at r → KeepsSign p now.at (Some r) → IsFirstFailure (seen_by p) now f (Some (record { at = r; phase = At }))
  fails_at_root some r next kept =
      record {
        canonical = next.canonical;
        later_is_later = inl next.later;
        holds_until = λ m h. from_now m h.canonical h.from (λ later. kept now m refl here.form h.canonical.form (λ z. some (sym holds ∙ z)) later (at_less m r h.until));
        fails = λ h. some (sym h ∙ at_at p r ∙ next.root);
      }

  pub never_fails : f.sign ≢ Zero → KeepsSign p now.at None → IsFirstFailure (seen_by p) now f None
  never_fails some kept m i not_before = from_now m i not_before (λ later. kept now m refl here.form i.form (λ z. some (sym holds ∙ z)) later tt)

-- a sign 0
module _ (p : Quadratic) (now : Moment) (here : IsCanonical now.at) (holds : sign_at p now ≡ Zero) (f : Fact) (zero : f.sign ≡ Zero) where
  pub zero_for_ever : IsZeroPolynomial p → IsFirstFailure (seen_by p) now f None
  zero_for_ever z m i not_before = zero_everywhere p z m i ∙ sym zero

  pub is_at : ¬ (IsZeroPolynomial p) → (q : Phase) → now.phase ≡ q → now.phase ≡ At
  is_at n At e = e
  is_at n After e = absurd (n (zero_after p now.at here.form (ap (λ (x : Phase). sign_at p (record { at = now.at; phase = x })) (sym e) ∙ holds)))

  pub left_after : ¬ (IsZeroPolynomial p) → IsFirstFailure (seen_by p) now f (Some (record { at = now.at; phase = After }))
  left_after n =
      let phase_is : now.phase ≡ At = is_at n now.phase refl in
      record {
        canonical = here;
        later_is_later = inr (same_level now.at now.at refl, phase_is, refl);
        holds_until = λ m h. until m h.canonical h.from h.until;
        fails = λ h. n (zero_after p now.at here.form (h ∙ zero));
      }
    where
      until : (m : Moment) → IsCanonical m.at → ¬ (IsEarlier m now) → IsEarlier m (record { at = now.at; phase = After }) → sign_at p m ≡ f.sign
      until m i not_before (inl l) = absurd (not_before (inl l))
      until m i not_before (inr h) =
          let same : m.at ≡ now.at = level_same m.at now.at i.form here.form h.0 in
          ap₂ (λ (w : Shape) (q : Phase). sign_at p (record { at = w; phase = q })) same (h.1 ∙ sym (is_at n now.phase refl)) ∙ holds ∙ sym zero
