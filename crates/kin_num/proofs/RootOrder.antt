-- A canonical instant against a root: the signs there of the root's quadratic and of its slope decide.
use Rattle.std.proofs.Common.{◌≡◌, ◌≢◌, ◌⊎◌, inl, inr, ℕ, Bool, true, false, refl, sym, ap, ap₂, ◌∙◌, ◌<◌}
use Rattle.std.specs.Prelude.{ℤ, pos, ◌-ℤ◌}
use Rattle.kin_algebra.proofs.Magnitudes.{pos-some}
use Rattle.kin_algebra.specs.declared.sign.Sign.{Sign}
use Rattle.kin_algebra.specs.declared.sign.Sign.TheVariants.{Minus, Zero, Plus}
use Rattle.kin_algebra.specs.Signs.{sign_of, opposite_of, sum_sign_of}
use Rattle.kin_algebra.proofs.IntegerSigns.{sign_of-pos}
use Rattle.kin_algebra.proofs.Signs.{code}
use Rattle.kin_num.specs.declared.instant.Shape.{Shape}
use Rattle.kin_num.specs.declared.instant.Shape.TheVariants.{Root}
use Rattle.kin_num.specs.Quadratic.{Quadratic, quadratic}
use Rattle.kin_num.specs.Canonical.{IsCanonicalForm, IsIrreducible}
use Rattle.kin_num.specs.Instants.{number_of, sign_at_instant, derivative, side}
use Rattle.kin_num.specs.Order.{Separates}
use Rattle.kin_num.proofs.Near.{HasHeight, HasSize, IsFine, Bracket, bracket, at_fraction, line_sign}
use Rattle.kin_num.proofs.Kept.{kept_left, kept_right, t_some}
use Rattle.kin_num.proofs.RootSigns.{root_against_fraction}
use Rattle.kin_num.proofs.RootZeros.{divisor-positive, level_below, root_itself, own_slope}

-- a fraction of the denominator t separates the two instants
abbrev pub SeparatedAt : ℕ → Shape → Shape → Type 0
SeparatedAt t v w = (n : ℤ) × Separates v w n (pos t)

-- one is less than the other, or they are the same
abbrev pub Compared : ℕ → Shape → Shape → Type 0
Compared t v w = SeparatedAt t v w ⊎ (SeparatedAt t w v ⊎ (v ≡ w))

-- ---- tables
upper_before : (g f : Sign) → (g ≡ Minus) ⊎ (f ≡ Minus) → sum_sign_of (opposite_of g) Plus f ≡ Plus
upper_before Minus f h = refl
upper_before Zero f h = refl
upper_before Plus f (inl e) = absurd (code e)
upper_before Plus f (inr e) = ap opposite_of e

upper_after : (g f : Sign) → g ≡ Plus → f ≡ Plus → sum_sign_of (opposite_of g) Plus f ≢ Plus
upper_after g f e h p = code (sym (ap₂ (λ g f. sum_sign_of (opposite_of g) Plus f) e h) ∙ p)

lower_before : (g f : Sign) → g ≡ Minus → f ≡ Plus → sum_sign_of (opposite_of g) Minus f ≡ Plus
lower_before g f e h = ap₂ (λ g f. sum_sign_of (opposite_of g) Minus f) e h

lower_after : (g f : Sign) → (g ≡ Plus) ⊎ (f ≡ Minus) → sum_sign_of (opposite_of g) Minus f ≢ Plus
lower_after Minus f (inl e) p = code e
lower_after Minus f (inr e) p = code (sym e ∙ p)
lower_after Zero f h p = code p
lower_after Plus f h p = code p

module _ (a b c : ℤ) (i : IsIrreducible a b c) (w : Shape) (form : IsCanonicalForm w) (m t h : ℕ) (size : HasSize (number_of w) m) (some : 0 < h) (fine : IsFine h m t)
    (height : HasHeight (quadratic a b c) h) (slope_height : HasHeight (derivative (quadratic a b c)) h) where
  abbrev q : Quadratic
  q = quadratic a b c

  room : 0 < t
  room = t_some (number_of w) m t h size some fine

  near : Bracket (number_of w) (pos t)
  near = bracket (number_of w) m t size room

  t_plus : sign_of (pos t) ≡ Plus
  t_plus = sign_of-pos t room

  slope_at : ℤ → Sign
  slope_at k = sign_of (at_fraction (derivative q) (pos t) k)

  value_at : ℤ → Sign
  value_at k = sign_of (at_fraction q (pos t) k)

  before_root : (upper : Bool) → sum_sign_of (opposite_of (slope_at near.k)) (side upper) (value_at near.k) ≡ Plus → SeparatedAt t w (Root a b c upper)
  unfolding sign_at_instant slope_at value_at
  before_root upper e = (
    near.k,
    record {
      proper = pos-some t room;
      first = λ p. near.not_after (sym (line_sign (number_of w) size.sound (divisor-positive w form) near.k (pos t)) ∙ p);
      second = root_against_fraction a b c i near.k (pos t) t_plus upper ∙ e;
    },
  )

  after_root : (upper : Bool) → sum_sign_of (opposite_of (slope_at (near.k -ℤ pos 1))) (side upper) (value_at (near.k -ℤ pos 1)) ≢ Plus → SeparatedAt t (Root a b c upper) w
  unfolding sign_at_instant slope_at value_at
  after_root upper n = (
    near.k -ℤ pos 1,
    record {
      proper = pos-some t room;
      first = λ p. n (sym (root_against_fraction a b c i (near.k -ℤ pos 1) (pos t) t_plus upper) ∙ p);
      second = line_sign (number_of w) size.sound (divisor-positive w form) (near.k -ℤ pos 1) (pos t) ∙ near.after;
    },
  )

  abbrev pub value_here : Sign
  value_here = sign_at_instant q w

  abbrev pub slope_here : Sign
  slope_here = sign_at_instant (derivative q) w

  slope_right : (s : Sign) → s ≢ Zero → slope_here ≡ s → slope_at near.k ≡ s
  unfolding sign_at_instant slope_at
  slope_right s n e = kept_right (number_of w) m t h size some fine near (derivative q) slope_height s n e

  slope_left : (s : Sign) → s ≢ Zero → slope_here ≡ s → slope_at (near.k -ℤ pos 1) ≡ s
  unfolding sign_at_instant slope_at
  slope_left s n e = kept_left (number_of w) m t h size some fine near (derivative q) slope_height s n e

  value_right : (s : Sign) → s ≢ Zero → value_here ≡ s → value_at near.k ≡ s
  unfolding sign_at_instant value_at
  value_right s n e = kept_right (number_of w) m t h size some fine near q height s n e

  value_left : (s : Sign) → s ≢ Zero → value_here ≡ s → value_at (near.k -ℤ pos 1) ≡ s
  unfolding sign_at_instant value_at
  value_left s n e = kept_left (number_of w) m t h size some fine near q height s n e

  -- ---- the places of w
  pub below_upper : (slope_here ≡ Minus) ⊎ (value_here ≡ Minus) → SeparatedAt t w (Root a b c true)
  below_upper (inl e) = before_root true (upper_before _ _ (inl (slope_right Minus (λ z. code z) e)))
  below_upper (inr e) = before_root true (upper_before _ _ (inr (value_right Minus (λ z. code z) e)))

  pub above_upper : slope_here ≡ Plus → value_here ≡ Plus → SeparatedAt t (Root a b c true) w
  above_upper e f = after_root true (upper_after _ _ (slope_left Plus (λ z. code z) e) (value_left Plus (λ z. code z) f))

  pub below_lower : slope_here ≡ Minus → value_here ≡ Plus → SeparatedAt t w (Root a b c false)
  below_lower e f = before_root false (lower_before _ _ (slope_right Minus (λ z. code z) e) (value_right Plus (λ z. code z) f))

  pub above_lower : (slope_here ≡ Plus) ⊎ (value_here ≡ Minus) → SeparatedAt t (Root a b c false) w
  above_lower (inl e) = after_root false (lower_after _ _ (inl (slope_left Plus (λ z. code z) e)))
  above_lower (inr e) = after_root false (lower_after _ _ (inr (value_left Minus (λ z. code z) e)))

  side_of : (upper : Bool) (s : Sign) → side upper ≡ s → (s ≡ Plus → upper ≡ true) × (s ≡ Minus → upper ≡ false)
  side_of true s e = (λ f. refl, λ f. absurd (code (e ∙ f)))
  side_of false s e = (λ f. absurd (code (e ∙ f)), λ f. refl)

  at_root : (s : Sign) → value_here ≡ Zero → slope_here ≡ s → (upper : Bool) × (w ≡ Root a b c upper) × (side upper ≡ s)
  at_root s e f =
      let k = root_itself a b c i w form e in
      (k.0, k.1, sym (own_slope a b c i k.0) ∙ ap (sign_at_instant (derivative q)) (sym k.1) ∙ f)

  pub at_upper : slope_here ≡ Plus → value_here ≡ Zero → w ≡ Root a b c true
  at_upper f e = let k = at_root Plus e f in k.1 ∙ ap (Root a b c) ((side_of k.0 Plus k.2).0 refl)

  pub at_lower : slope_here ≡ Minus → value_here ≡ Zero → w ≡ Root a b c false
  at_lower f e = let k = at_root Minus e f in k.1 ∙ ap (Root a b c) ((side_of k.0 Minus k.2).1 refl)

  -- a slope of sign 0 comes with a negative value
  pub level : slope_here ≡ Zero → value_here ≡ Minus
  level e = level_below a b c i w form e

  -- ---- in all cases one is less, or they are one
  pub root_order : (upper : Bool) → Compared t w (Root a b c upper)
  root_order upper = at upper slope_here value_here refl refl
    where
      at : (upper : Bool) (s v : Sign) → slope_here ≡ s → value_here ≡ v → Compared t w (Root a b c upper)
      at true Minus v e f = inl (below_upper (inl e))
      at true Zero v e f = inl (below_upper (inr (level e)))
      at true Plus Minus e f = inl (below_upper (inr f))
      at true Plus Zero e f = inr (inr (at_upper e f))
      at true Plus Plus e f = inr (inl (above_upper e f))
      at false Minus Minus e f = inr (inl (above_lower (inr f)))
      at false Minus Zero e f = inr (inr (at_lower e f))
      at false Minus Plus e f = inl (below_lower e f)
      at false Zero v e f = inr (inl (above_lower (inr (level e))))
      at false Plus v e f = inr (inl (above_lower (inl e)))
