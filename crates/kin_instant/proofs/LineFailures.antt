-- When a line comes to 0, by its sign and by its slope.
use Rattle.std.proofs.Common.{◌≡◌, ◌≢◌, ◌⊎◌, inl, inr, true, false, Bool, ℤ, pos, Some, None, refl, sym, ap, ap₂, subst, ◌∙◌}
use Rattle.std.specs.Prelude.{◌<ℤ◌}
use Rattle.std.specs.Ordering.{int_eq}
use Rattle.std.proofs.lemmas.Bool.Decides.{Decides-int_eq}
use lib.IntN.{neg_ℤ}
use Rattle.kin_algebra.specs.declared.sign.Sign.{Sign}
use Rattle.kin_algebra.specs.declared.sign.Sign.TheVariants.{Minus, Zero, Plus}
use Rattle.kin_algebra.specs.Signs.{product_of, sign_of}
use Rattle.kin_algebra.proofs.Signs.{code}
use Rattle.kin_algebra.proofs.IntegerSigns.{sign_in, sign_out, zero_of}
use Rattle.kin_num.specs.declared.instant.Shape.{Shape}
use Rattle.kin_num.specs.declared.instant.Moment.{Moment}
use Rattle.kin_num.specs.Quadratic.{Quadratic, IsSmall}
use Rattle.kin_num.specs.Canonical.{IsCanonical, IsCanonicalForm}
use Rattle.kin_num.specs.Instants.{sign_at}
use Rattle.kin_instant.specs.declared.roots.Roots.TheVariants.{Nowhere, One, All}
use Rattle.kin_instant.specs.Roots.{AreRootsOf, IsFraction, quadratic}
use Rattle.kin_instant.specs.Places.{IsZeroPolynomial, HasNoRootAfter, IsNextRoot, KeepsSign}
use Rattle.kin_instant.proofs.RootsOf.{rising_line, falling_line, zero_everywhere, zero_nowhere}
use Rattle.kin_instant.proofs.LineRoots.{away, comes, no_root}

module _ (p : Quadratic) (m : Moment) (form : IsCanonicalForm m.at) (flat : p.a ≡ pos 0) (small : IsSmall p) where
  abbrev pub Comes : Shape → Type 0
  Comes r = IsNextRoot p m.at r × KeepsSign p m.at (Some r)

  abbrev pub Never : Type 0
  Never = (IsZeroPolynomial p ⊎ HasNoRootAfter p m.at) × KeepsSign p m.at None

  as_line : quadratic (pos 0) p.b p.c ≡ p
  as_line = ap (λ (x : ℤ). quadratic x p.b p.c) (sym flat)

  -- a line below 0 that rises, and one above that falls
  pub rises : pos 0 <ℤ p.b → (r : Shape) → IsFraction (neg_ℤ p.c) p.b r → IsCanonical r → sign_at p m ≡ Minus → Comes r
  rises up r fraction canonical sign =
      comes p m form flat r (subst (λ (q : Quadratic). AreRootsOf q (One r)) as_line (rising_line p.b p.c up r fraction canonical)) (λ z. code (sym sign ∙ z))
      (λ e. code (sym (ap₂ product_of sign (sign_in Plus p.b up)) ∙ e))

  pub falls : p.b <ℤ pos 0 → (r : Shape) → IsFraction p.c (neg_ℤ p.b) r → IsCanonical r → sign_at p m ≡ Plus → Comes r
  falls down r fraction canonical sign =
      comes p m form flat r (subst (λ (q : Quadratic). AreRootsOf q (One r)) as_line (falling_line p.b p.c down r fraction canonical)) (λ z. code (sym sign ∙ z))
      (λ e. code (sym (ap₂ product_of sign (sign_in Minus p.b down)) ∙ e))

  -- a line that moves away from 0
  above : (s : Sign) → s ≢ Zero → s ≢ Minus → s ≡ Plus
  above Minus z n = absurd (n refl)
  above Zero z n = absurd (z refl)
  above Plus z n = refl

  below : (s : Sign) → s ≢ Zero → s ≢ Plus → s ≡ Minus
  below Minus z n = refl
  below Zero z n = absurd (z refl)
  below Plus z n = absurd (n refl)

  pub rises_on : pos 0 <ℤ p.b → sign_at p m ≢ Zero → sign_at p m ≢ Minus → Never
  rises_on up some not_below = away p m form flat small (ap₂ product_of (above (sign_at p m) some not_below) (sign_in Plus p.b up))

  pub falls_on : p.b <ℤ pos 0 → sign_at p m ≢ Zero → sign_at p m ≢ Plus → Never
  falls_on down some not_above = away p m form flat small (ap₂ product_of (below (sign_at p m) some not_above) (sign_in Minus p.b down))

  -- a line without slope
  pub stands : p.b ≡ pos 0 → Never
  stands level = at (int_eq p.c (pos 0)) refl
    where
      at : (t : Bool) → int_eq p.c (pos 0) ≡ t → Never
      at true e = no_root p m form flat All (subst (λ (q : Quadratic). AreRootsOf q All) as_line (zero_everywhere p.b p.c level ((Decides-int_eq p.c (pos 0)).0 e))) (λ r h. absurd cc)
      at false e = no_root p m form flat Nowhere (subst (λ (q : Quadratic). AreRootsOf q Nowhere) as_line (zero_nowhere p.b p.c level (λ h. let both : true ≡ false = sym ((Decides-int_eq p.c (pos 0)).1 h) ∙ e in cc))) (λ r h. absurd cc)

  -- a line of this sign that comes to 0, and one that never does
  module _ (s : Sign) (is : sign_at p m ≡ s) where
    pub turns : ((pos 0 <ℤ p.b) × (s ≡ Minus)) ⊎ ((p.b <ℤ pos 0) × (s ≡ Plus)) → (r : Shape) → (pos 0 <ℤ p.b → IsFraction (neg_ℤ p.c) p.b r) → (p.b <ℤ pos 0 → IsFraction p.c (neg_ℤ p.b) r) → IsCanonical r → Comes r
    turns (inl up) r rising falling canonical = rises up.0 r (rising up.0) canonical (is ∙ up.1)
    turns (inr down) r rising falling canonical = falls down.0 r (falling down.0) canonical (is ∙ down.1)

    pub turns_not : s ≢ Zero → (pos 0 <ℤ p.b → s ≢ Minus) → (p.b <ℤ pos 0 → s ≢ Plus) → Never
    turns_not some not_below not_above = by_slope (sign_of p.b) refl
      where
        by_slope : (t : Sign) → sign_of p.b ≡ t → Never
        by_slope Minus e = falls_on (sign_out Minus p.b e) (λ z. some (sym is ∙ z)) (λ z. not_above (sign_out Minus p.b e) (sym is ∙ z))
        by_slope Zero e = stands (zero_of p.b e)
        by_slope Plus e = rises_on (sign_out Plus p.b e) (λ z. some (sym is ∙ z)) (λ z. not_below (sign_out Plus p.b e) (sym is ∙ z))
