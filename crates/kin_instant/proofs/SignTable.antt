-- The sign table: the sign of a polynomial at every moment, from its leading sign and from where its roots lie.
use Rattle.std.proofs.Common.{◌≡◌, ◌≢◌, ◌⊎◌, inl, inr, Some, None, refl, ap, ap₂, sym, ◌∙◌, subst, Bool, true, false, [], ◌∷◌, arith, ℤ, pos, ◌+ℤ◌, ◌*ℤ◌}
use Rattle.std.specs.Prelude.{◌<ℤ◌}
use Rattle.std.proofs.lemmas.Int.{ints}
use lib.IntN.{neg_ℤ}
use Rattle.kin_algebra.specs.declared.sign.Sign.{Sign}
use Rattle.kin_algebra.specs.declared.sign.Sign.TheVariants.{Minus, Zero, Plus}
use Rattle.kin_algebra.specs.Signs.{sign_of, product_of, first_of, SumMayBe}
use Rattle.kin_algebra.proofs.Rings.{times_zero}
use Rattle.kin_algebra.proofs.Integers.{integers}
use Rattle.kin_algebra.proofs.Ring.{by_ring, quotes}
use Rattle.kin_algebra.proofs.Signs.{code}
use Rattle.kin_algebra.proofs.IntegerSigns.{sign_in, sign_out, zero_of}
use Rattle.kin_num.specs.declared.instant.Shape.{Shape}
use Rattle.kin_num.specs.declared.instant.Shape.TheVariants.{Ratio, Root}
use Rattle.kin_num.specs.declared.instant.Phase.{Phase}
use Rattle.kin_num.specs.declared.instant.Phase.TheVariants.{At, After}
use Rattle.kin_num.specs.declared.instant.Moment.{Moment}
use Rattle.kin_num.specs.Quadratic.{Quadratic}
use Rattle.kin_num.specs.Canonical.{IsCanonicalForm, IsLowest, IsIrreducible, discriminant}
use Rattle.kin_num.specs.Instants.{sign_at_instant, sign_at, derivative, line}
use Rattle.kin_num.specs.Order.{IsLess}
use Rattle.kin_num.proofs.Constants.{constant_sign, curvature_sign}
use Rattle.kin_num.proofs.FractionOrder.{on_line, line_at_root}
use Rattle.kin_num.proofs.RootZeros.{root_itself}
use Rattle.kin_num.proofs.LowerFractions.{not_less_itself, less_asym}
use Rattle.kin_num.proofs.InstantOrder.{below_upper, above_upper, at_upper, below_lower, above_lower, at_lower, above_fraction, below_fraction, never_level}
use Rattle.kin_instant.specs.declared.roots.Roots.{Roots}
use Rattle.kin_instant.specs.declared.roots.Roots.TheVariants.{Nowhere, One, Two, All}
use Rattle.kin_instant.specs.Roots.{quadratic, AreRootsOf, count_by_signs, root_count}
use Rattle.kin_instant.proofs.Zeros.{line-zero, line-zero_at, root-zero_at, instant-scaled, instant-negative, positive_product, square_zero}
use Rattle.kin_instant.proofs.RootsOf.{rising_surds}
use Rattle.kin_instant.proofs.Factors.{cofactor, on_root, instant-factors, instant-slope, same_value, same_slope}

-- ---- where a moment lies to an instant that is taken at phase `At`
abbrev pub IsPlace : Moment → Shape → Sign → Type 0
IsPlace m r Minus = IsLess m.at r
IsPlace m r Zero = (m.at ≡ r) × (m.phase ≡ At)
IsPlace m r Plus = IsLess r m.at ⊎ ((m.at ≡ r) × (m.phase ≡ After))

abbrev pub IsAt : Shape → Shape → Sign → Type 0
IsAt w r Minus = IsLess w r
IsAt w r Zero = w ≡ r
IsAt w r Plus = IsLess r w

-- just after an instant, the instant lies behind
abbrev pub lift : Phase → Sign → Sign
lift At s = s
lift After s = first_of s Plus

pub lifted : (w r : Shape) (f : Phase) (s : Sign) → IsAt w r s → IsPlace (record { at = w; phase = f }) r (lift f s)
lifted w r At Minus h = h
lifted w r At Zero h = (h, refl)
lifted w r At Plus h = inl h
lifted w r After Minus h = h
lifted w r After Zero h = inr (h, refl)
lifted w r After Plus h = inl h

-- ---- lines
-- a line with a positive slope has the sign of the place to its root
module _ (r : Shape) (j : IsCanonicalForm r) (n d : ℤ) (k : pos 0 <ℤ d) (z : sign_at_instant (line n d) r ≡ Zero) where
  both_lines : (n d n' d' : ℤ) → n' *ℤ d ≡ n *ℤ d' → quadratic (d' *ℤ pos 0) (d' *ℤ d) (d' *ℤ neg_ℤ n) ≡ quadratic (d *ℤ pos 0) (d *ℤ d') (d *ℤ neg_ℤ n')
  both_lines n d n' d' e =
      ap (λ (x : ℤ). quadratic x (d' *ℤ d) (d' *ℤ neg_ℤ n)) (times_zero integers d' ∙ sym (times_zero integers d)) ∙ ap (λ (y : ℤ). quadratic (d *ℤ pos 0) y (d' *ℤ neg_ℤ n)) (integers.times_comm d' d) ∙ ap (quadratic (d *ℤ pos 0) (d *ℤ d')) (left d' n ∙ ap neg_ℤ (sym e) ∙ right d n')
    where
      left : (x y : ℤ) → x *ℤ neg_ℤ y ≡ neg_ℤ (y *ℤ x)
      left x y = by_ring (x ∷ y ∷ []) _ _ (search quotes depth 16) (search quotes depth 16) refl

      right : (x y : ℤ) → neg_ℤ (y *ℤ x) ≡ x *ℤ neg_ℤ y
      right x y = by_ring (x ∷ y ∷ []) _ _ (search quotes depth 16) (search quotes depth 16) refl

  pub line_place : (w : Shape) → IsCanonicalForm w → (s : Sign) → sign_at_instant (line n d) w ≡ s → IsAt w r s
  line_place w i s e = at r j z s e
    where
      own : (m l : ℤ) → pos 0 <ℤ l → m *ℤ d ≡ n *ℤ l → sign_at_instant (line m l) w ≡ sign_at_instant (line n d) w
      own m l h q = sym (instant-scaled w i d (pos 0) l (neg_ℤ m) k) ∙ ap (λ (p : Quadratic). sign_at_instant p w) (sym (both_lines n d m l q)) ∙ instant-scaled w i l (pos 0) d (neg_ℤ n) h

      at : (r : Shape) → IsCanonicalForm r → sign_at_instant (line n d) r ≡ Zero → (s : Sign) → sign_at_instant (line n d) w ≡ s → IsAt w r s
      at (Ratio m l) j z Minus e = below_fraction m l j w i (own m l j.positive (on_line n d m l j.positive z) ∙ e)
      at (Ratio m l) j z Zero e = line-zero w i n d m l k j (on_line n d m l j.positive z) e
      at (Ratio m l) j z Plus e = above_fraction m l j w i (own m l j.positive (on_line n d m l j.positive z) ∙ e)
      at (Root a b c u) j z s e = absurd (line_at_root a b c j u n d (sign_in Plus d k) z)

-- ---- the sign at a moment
-- just after an instant: the value, or the slope and the curvature
pub at_after : (p : Quadratic) (w : Shape) → IsCanonicalForm w → sign_at p (record { at = w; phase = After }) ≡ first_of (sign_at_instant p w) (first_of (sign_at_instant (derivative p) w) (sign_of p.a))
unfolding sign_at
at_after p w i = ap (λ (s : Sign). first_of (sign_at_instant p w) (first_of (sign_at_instant (derivative p) w) s)) (curvature_sign p w i)

pub at_at : (p : Quadratic) (w : Shape) → sign_at p (record { at = w; phase = At }) ≡ sign_at_instant p w
unfolding sign_at
at_at p w = refl

-- a line
pub line_sign : (b c : ℤ) → pos 0 <ℤ b → (w : Shape) → IsCanonicalForm w → (f : Phase) → sign_at (quadratic (pos 0) b c) (record { at = w; phase = f }) ≡ lift f (sign_at_instant (quadratic (pos 0) b c) w)
line_sign b c h w i At = at_at (quadratic (pos 0) b c) w
line_sign b c h w i After = at_after (quadratic (pos 0) b c) w i ∙ ap (λ (s : Sign). first_of (sign_at_instant (quadratic (pos 0) b c) w) (first_of s Zero)) (constant_sign b w i ∙ sign_in Plus b h)

-- a product of two lines
two_lines : (s t u : Sign) → SumMayBe t s u → first_of (product_of s t) (first_of u Plus) ≡ product_of (first_of s Plus) (first_of t Plus)
two_lines Minus Minus u h = refl
two_lines Minus Zero Minus h = refl
two_lines Minus Zero Zero h = absurd (code h)
two_lines Minus Zero Plus h = absurd (code h)
two_lines Minus Plus u h = refl
two_lines Zero Minus Minus h = refl
two_lines Zero Minus Zero h = absurd (code h)
two_lines Zero Minus Plus h = absurd (code h)
two_lines Zero Zero Minus h = absurd (code h)
two_lines Zero Zero Zero h = refl
two_lines Zero Zero Plus h = absurd (code h)
two_lines Zero Plus Minus h = absurd (code h)
two_lines Zero Plus Zero h = absurd (code h)
two_lines Zero Plus Plus h = refl
two_lines Plus Minus u h = refl
two_lines Plus Zero Minus h = absurd (code h)
two_lines Plus Zero Zero h = absurd (code h)
two_lines Plus Zero Plus h = refl
two_lines Plus Plus u h = refl

product_sign : (a b c n d : ℤ) → pos 0 <ℤ a → pos 0 <ℤ d → sign_at_instant (quadratic a b c) (Ratio n d) ≡ Zero → (w : Shape) → IsCanonicalForm w → (f : Phase) →
    sign_at (quadratic a b c) (record { at = w; phase = f }) ≡ product_of (lift f (sign_at_instant (line n d) w)) (lift f (sign_at_instant (cofactor a b n d) w))
product_sign a b c n d h k z w i At = at_at (quadratic a b c) w ∙ instant-factors w i a b c n d k z
product_sign a b c n d h k z w i After =
    at_after (quadratic a b c) w i
    ∙ ap₂ (λ (s t : Sign). first_of s (first_of (sign_at_instant (derivative (quadratic a b c)) w) t)) (instant-factors w i a b c n d k z) (sign_in Plus a h)
    ∙ two_lines (sign_at_instant (line n d) w) (sign_at_instant (cofactor a b n d) w) (sign_at_instant (derivative (quadratic a b c)) w) (instant-slope w i a b c n d k z h)

-- ---- an irreducible quadratic
module _ (a b c : ℤ) (i : IsIrreducible a b c) (w : Shape) (form : IsCanonicalForm w) where
  -- the places to both roots, their product and their sum
  pub record Places (v s : Sign) : Type 0 where
    pub lower : Sign
    pub upper : Sign
    pub at_lower : IsAt w (Root a b c false) lower
    pub at_upper : IsAt w (Root a b c true) upper
    pub value : v ≡ product_of lower upper
    pub after : first_of v (first_of s Plus) ≡ product_of (first_of lower Plus) (first_of upper Plus)
    pub slope : SumMayBe lower upper s

  pub places : (v s : Sign) → sign_at_instant (quadratic a b c) w ≡ v → sign_at_instant (derivative (quadratic a b c)) w ≡ s → Places v s
  places Minus s e f = record { lower = Plus; upper = Minus; at_lower = above_lower a b c i w form (inr e); at_upper = below_upper a b c i w form (inr e); value = refl; after = refl; slope = tt }
  places Zero Minus e f = record { lower = Zero; upper = Minus; at_lower = at_lower a b c i w form f e; at_upper = below_upper a b c i w form (inl f); value = refl; after = refl; slope = refl }
  places Zero Zero e f = never_level a b c i w form Zero e (λ x. code x) f
  places Zero Plus e f = record { lower = Plus; upper = Zero; at_lower = above_lower a b c i w form (inl f); at_upper = at_upper a b c i w form f e; value = refl; after = refl; slope = refl }
  places Plus Minus e f = record { lower = Minus; upper = Minus; at_lower = below_lower a b c i w form f e; at_upper = below_upper a b c i w form (inl f); value = refl; after = refl; slope = refl }
  places Plus Zero e f = never_level a b c i w form Plus e (λ x. code x) f
  places Plus Plus e f = record { lower = Plus; upper = Plus; at_lower = above_lower a b c i w form (inl f); at_upper = above_upper a b c i w form f e; value = refl; after = refl; slope = refl }

-- ---- the table
-- the leading sign
abbrev pub lead_of : Quadratic → Sign
lead_of p = first_of (sign_of p.a) (first_of (sign_of p.b) (sign_of p.c))

-- a root of a polynomial of degree two that stands alone is a double one
abbrev pub by_degree : Sign → Sign → Sign
by_degree Zero s = s
by_degree Minus s = product_of s s
by_degree Plus s = product_of s s

-- the sign at a moment is the leading sign times the signs of the places to the roots
abbrev pub IsSigned : Quadratic → Roots → Moment → Type 0
IsSigned p Nowhere m = sign_at p m ≡ lead_of p
IsSigned p (One r) m = (s : Sign) × (IsPlace m r s × (sign_at p m ≡ product_of (lead_of p) (by_degree (sign_of p.a) s)))
IsSigned p (Two r s) m = (t u : Sign) × (IsPlace m r t × IsPlace m s u × (sign_at p m ≡ product_of (lead_of p) (product_of t u)))
IsSigned p All m = sign_at p m ≡ Zero

-- ---- for a positive first coefficient
lead-plus : (p : Quadratic) → pos 0 <ℤ p.a → lead_of p ≡ Plus
lead-plus p h = ap (λ (s : Sign). first_of s (first_of (sign_of p.b) (sign_of p.c))) (sign_in Plus p.a h)

pub by_lead : (l s t : Sign) → l ≡ Plus → s ≡ t → s ≡ product_of l t
by_lead l s t e f = f ∙ ap (λ (x : Sign). product_of x t) (sym e)

by_square : (d l s t : Sign) → d ≡ Plus → l ≡ Plus → s ≡ product_of t t → s ≡ product_of l (by_degree d t)
by_square d l s t e f g = g ∙ ap₂ (λ (x y : Sign). product_of x (by_degree y t)) (sym f) (sym e)

own_counted : (v s : Sign) (o : Sign) → Some 1 ≡ count_by_signs Plus v s o → o ≡ Zero
own_counted v s Minus e = absurd cc
own_counted v s Zero e = refl
own_counted v s Plus e = absurd cc

-- the discriminant by a rational root
completed : (a b c n d : ℤ) → (pos 2 *ℤ a *ℤ n +ℤ b *ℤ d) *ℤ (pos 2 *ℤ a *ℤ n +ℤ b *ℤ d) ≡ discriminant a b c *ℤ (d *ℤ d) +ℤ (pos 4 *ℤ a) *ℤ (a *ℤ (n *ℤ n) +ℤ b *ℤ n *ℤ d +ℤ c *ℤ d *ℤ d)
completed a b c n d = by_ring (a ∷ b ∷ c ∷ n ∷ d ∷ []) _ _ (search quotes depth 24 fits 40000) (search quotes depth 24 fits 40000) refl

centre : (a b n d : ℤ) → pos 0 <ℤ d → (pos 2 *ℤ a *ℤ n +ℤ b *ℤ d) *ℤ (pos 2 *ℤ a *ℤ n +ℤ b *ℤ d) ≡ pos 0 → neg_ℤ (neg_ℤ (a *ℤ n +ℤ b *ℤ d)) ≡ a *ℤ neg_ℤ n
centre a b n d h e =
    turned (a *ℤ n) (b *ℤ d) (sum (a *ℤ n) (b *ℤ d) (sym (split a b n d) ∙ square_zero (pos 2 *ℤ a *ℤ n +ℤ b *ℤ d) e)) ∙ out a n
  where
    split : (a b n d : ℤ) → pos 2 *ℤ a *ℤ n +ℤ b *ℤ d ≡ pos 2 *ℤ (a *ℤ n) +ℤ b *ℤ d
    split a b n d = by_ring (a ∷ b ∷ n ∷ d ∷ []) _ _ (search quotes depth 16) (search quotes depth 16) refl

    sum : (x y : ℤ) → pos 2 *ℤ x +ℤ y ≡ pos 0 → x +ℤ y ≡ neg_ℤ x
    sum x y e = omega (arith, ints, e)

    turned : (x y : ℤ) → x +ℤ y ≡ neg_ℤ x → neg_ℤ (neg_ℤ (x +ℤ y)) ≡ neg_ℤ x
    turned x y e = omega (arith, ints, e)

    out : (x y : ℤ) → neg_ℤ (x *ℤ y) ≡ x *ℤ neg_ℤ y
    out x y = by_ring (x ∷ y ∷ []) _ _ (search quotes depth 16) (search quotes depth 16) refl

module _ (a b c : ℤ) (h : pos 0 <ℤ a) (w : Shape) (i : IsCanonicalForm w) (f : Phase) where
  abbrev q : Quadratic
  q = quadratic a b c

  abbrev m : Moment
  m = record { at = w; phase = f }

  none_signed : AreRootsOf q Nowhere → IsSigned q Nowhere m
  none_signed k = everywhere f ∙ sym (lead-plus q h)
    where
      negative : (v s o : Sign) → Some 0 ≡ count_by_signs Plus v s o → o ≡ Minus
      negative v s Minus e = refl
      negative v s Zero e = absurd cc
      negative v s Plus e = absurd cc

      below : discriminant a b c <ℤ pos 0
      below = sign_out Minus _ (negative (sign_of b) (sign_of c) _ (k.number ∙ ap (λ (s : Sign). count_by_signs s (sign_of b) (sign_of c) (sign_of (discriminant a b c))) (sign_in Plus a h)))

      here : sign_at_instant q w ≡ Plus
      here = instant-negative w i a b c h below

      everywhere : (f : Phase) → sign_at q (record { at = w; phase = f }) ≡ Plus
      everywhere At = at_at q w ∙ here
      everywhere After = at_after q w i ∙ ap (λ (s : Sign). first_of s (first_of (sign_at_instant (derivative q) w) (sign_of a))) here

  -- a double fraction: what is left after division by its line has the line's sign
  pub double_line : (n d : ℤ) → IsLowest n d → AreRootsOf q (One (Ratio n d)) → sign_at_instant (cofactor a b n d) w ≡ sign_at_instant (line n d) w
  double_line n d j k =
      ap (λ (x : ℤ). sign_at_instant (quadratic (pos 0) (a *ℤ d) x) w) (centre a b n d j.positive (square ((k.exact (Ratio n d) j).1 refl)))
      ∙ ap (λ (x : ℤ). sign_at_instant (quadratic x (a *ℤ d) (a *ℤ neg_ℤ n)) w) (sym (times_zero integers a)) ∙ instant-scaled w i a (pos 0) d (neg_ℤ n) h
    where
      flat : discriminant a b c ≡ pos 0
      flat = zero_of _ (own_counted (sign_of b) (sign_of c) _ (k.number ∙ ap (λ (s : Sign). count_by_signs s (sign_of b) (sign_of c) (sign_of (discriminant a b c))) (sign_in Plus a h)))

      zeros : (x y : ℤ) → pos 0 *ℤ x +ℤ y *ℤ pos 0 ≡ pos 0
      zeros x y = by_ring (x ∷ y ∷ []) _ _ (search quotes depth 16) (search quotes depth 16) refl

      square : sign_at_instant q (Ratio n d) ≡ Zero → (pos 2 *ℤ a *ℤ n +ℤ b *ℤ d) *ℤ (pos 2 *ℤ a *ℤ n +ℤ b *ℤ d) ≡ pos 0
      square z = completed a b c n d ∙ ap₂ (λ (x y : ℤ). x *ℤ (d *ℤ d) +ℤ (pos 4 *ℤ a) *ℤ y) flat (on_root a b c n d z) ∙ zeros (d *ℤ d) (pos 4 *ℤ a)

  double_signed : (n d : ℤ) → IsLowest n d → AreRootsOf q (One (Ratio n d)) → IsSigned q (One (Ratio n d)) m
  double_signed n d j k =
      let z = (k.exact (Ratio n d) j).1 refl in
      let s = lift f (sign_at_instant (line n d) w) in (
        s,
        (
          lifted w (Ratio n d) f _ (line_place (Ratio n d) j n d j.positive (line-zero_at n d n d refl) w i _ refl),
          by_square (sign_of a) (lead_of q) (sign_at q m) s (sign_in Plus a h) (lead-plus q h)
              (product_sign a b c n d h j.positive z w i f ∙ ap (λ (t : Sign). product_of s (lift f t)) (double_line n d j k)),
        ),
      )

  -- an irrational root does not stand alone
  pub not_single : (a' b' c' : ℤ) (u : Bool) → IsIrreducible a' b' c' → AreRootsOf q (One (Root a' b' c' u)) → ⊥
  not_single a' b' c' u j k =
      let z = (k.exact (Root a' b' c' u) j).1 refl in
      let lower = (k.exact (Root a' b' c' false) j).0 (same_value q a' b' c' j u z h (Root a' b' c' false) j ∙ root-zero_at a' b' c' false) in
      let upper = (k.exact (Root a' b' c' true) j).0 (same_value q a' b' c' j u z h (Root a' b' c' true) j ∙ root-zero_at a' b' c' true) in
      not_less_itself (Root a' b' c' true) (subst (λ (x : Shape). IsLess x (Root a' b' c' true)) (lower ∙ sym upper) (rising_surds a' b' c' j))

  one_signed : (r : Shape) → AreRootsOf q (One r) → IsSigned q (One r) m
  one_signed (Ratio n d) k = double_signed n d k.canonical.form k
  one_signed (Root a' b' c' u) k = absurd (not_single a' b' c' u k.canonical.form k)

  pub apart : (r s : Shape) → AreRootsOf q (Two r s) → s ≡ r → ⊥
  apart r s k e = not_less_itself r (subst (IsLess r) e k.rising)

  -- two fractions: what is left after division by the one's line is a line through the other
  pub other_line : (n d : ℤ) (s : Shape) → IsLowest n d → AreRootsOf q (Two (Ratio n d) s) → sign_at_instant (cofactor a b n d) s ≡ Zero
  other_line n d s j k =
      let z = (k.exact (Ratio n d) j).1 (inl refl) in
      let sj = k.canonical.1.form in
      other _ _ (sym ((k.exact s sj).1 (inr refl)) ∙ instant-factors s sj a b c n d j.positive z) (λ e. apart (Ratio n d) s k (line-zero s sj n d n d j.positive j refl e))
    where
      other : (t u : Sign) → Zero ≡ product_of t u → t ≢ Zero → u ≡ Zero
      other Minus Minus e n = absurd (code e)
      other Minus Zero e n = refl
      other Minus Plus e n = absurd (code e)
      other Zero u e n = absurd (n refl)
      other Plus u e n = sym e

  rational_signed : (n d : ℤ) (s : Shape) → IsLowest n d → AreRootsOf q (Two (Ratio n d) s) → IsSigned q (Two (Ratio n d) s) m
  rational_signed n d s j k =
      let z = (k.exact (Ratio n d) j).1 (inl refl) in
      let sj = k.canonical.1.form in (
        lift f (sign_at_instant (line n d) w),
        lift f (sign_at_instant (cofactor a b n d) w),
        (
          lifted w (Ratio n d) f _ (line_place (Ratio n d) j n d j.positive (line-zero_at n d n d refl) w i _ refl),
          lifted w s f _ (line_place s sj (neg_ℤ (a *ℤ n +ℤ b *ℤ d)) (a *ℤ d) (positive_product a d h j.positive) (other_line n d s j k) w i _ refl),
          by_lead (lead_of q) _ _ (lead-plus q h) (product_sign a b c n d h j.positive z w i f),
        ),
      )

  -- two irrational roots are those of one irreducible quadratic, the lesser one first
  surds : (a' b' c' : ℤ) (u : Bool) (s : Shape) → AreRootsOf q (Two (Root a' b' c' u) s) → (u ≡ false) × (s ≡ Root a' b' c' true)
  surds a' b' c' u s k = by_sides u (root_itself a' b' c' j s sj zero_there) k
    where
      j : IsIrreducible a' b' c'
      j = k.canonical.0.form

      sj : IsCanonicalForm s
      sj = k.canonical.1.form

      zero_there : sign_at_instant (quadratic a' b' c') s ≡ Zero
      zero_there = sym (same_value q a' b' c' j u ((k.exact (Root a' b' c' u) j).1 (inl refl)) h s sj) ∙ (k.exact s sj).1 (inr refl)

      by_sides : (u : Bool) → (v : Bool) × (s ≡ Root a' b' c' v) → AreRootsOf q (Two (Root a' b' c' u) s) → (u ≡ false) × (s ≡ Root a' b' c' true)
      by_sides false (true, e) k = (refl, e)
      by_sides false (false, e) k = absurd (apart (Root a' b' c' false) s k e)
      by_sides true (true, e) k = absurd (apart (Root a' b' c' true) s k e)
      by_sides true (false, e) k = absurd (less_asym (Root a' b' c' true) s j sj k.rising (subst (λ (x : Shape). IsLess x (Root a' b' c' true)) (sym e) (rising_surds a' b' c' j)))

  -- what is true of the roots of an irreducible quadratic is so of any two irrational roots
  pub by_surds : (P : Roots → Type 0) → ((a' b' c' : ℤ) → IsIrreducible a' b' c' → AreRootsOf q (Two (Root a' b' c' false) (Root a' b' c' true)) → P (Two (Root a' b' c' false) (Root a' b' c' true)))
      → (a' b' c' : ℤ) (u : Bool) (s : Shape) → AreRootsOf q (Two (Root a' b' c' u) s) → P (Two (Root a' b' c' u) s)
  by_surds P own a' b' c' u s k =
      let e = surds a' b' c' u s k in
      let same : Two (Root a' b' c' u) s ≡ Two (Root a' b' c' false) (Root a' b' c' true) = ap₂ (λ (v : Bool) (x : Shape). Two (Root a' b' c' v) x) e.0 e.1 in
      subst P (sym same) (own a' b' c' k.canonical.0.form (subst (AreRootsOf q) same k))

  surds_signed : (a' b' c' : ℤ) → IsIrreducible a' b' c' → AreRootsOf q (Two (Root a' b' c' false) (Root a' b' c' true)) → IsSigned q (Two (Root a' b' c' false) (Root a' b' c' true)) m
  surds_signed a' b' c' j k = (
    lift f here.lower,
    lift f here.upper,
    (
      lifted w (Root a' b' c' false) f here.lower here.at_lower,
      lifted w (Root a' b' c' true) f here.upper here.at_upper,
      by_lead (lead_of q) _ _ (lead-plus q h) (signed f),
    ),
  )
    where
      z : sign_at_instant q (Root a' b' c' false) ≡ Zero
      z = (k.exact (Root a' b' c' false) j).1 (inl refl)

      here : Places a' b' c' j w i (sign_at_instant (quadratic a' b' c') w) (sign_at_instant (derivative (quadratic a' b' c')) w)
      here = places a' b' c' j w i _ _ refl refl

      signed : (f : Phase) → sign_at q (record { at = w; phase = f }) ≡ product_of (lift f here.lower) (lift f here.upper)
      signed At = at_at q w ∙ same_value q a' b' c' j false z h w i ∙ here.value
      signed After =
          at_after q w i
          ∙ ap₂ (λ (v t : Sign). first_of v (first_of t (sign_of a))) (same_value q a' b' c' j false z h w i) (same_slope q a' b' c' j false z h w i)
          ∙ ap (λ (t : Sign). first_of (sign_at_instant (quadratic a' b' c') w) (first_of (sign_at_instant (derivative (quadratic a' b' c')) w) t)) (sign_in Plus a h)
          ∙ here.after

  pub positive_signed : (answer : Roots) → AreRootsOf q answer → IsSigned q answer m
  positive_signed Nowhere k = none_signed k
  positive_signed (One r) k = one_signed r k
  positive_signed (Two (Ratio n d) s) k = rational_signed n d s k.canonical.0.form k
  positive_signed (Two (Root a' b' c' u) s) k = by_surds (λ (r : Roots). IsSigned q r m) surds_signed a' b' c' u s k
  positive_signed All k = absurd (code (zero_lead k.number))
    where
      zero_lead : None ≡ root_count q → Plus ≡ Zero
      zero_lead e = never (sign_of b) (sign_of c) (sign_of (discriminant a b c)) (e ∙ ap (λ (s : Sign). count_by_signs s (sign_of b) (sign_of c) (sign_of (discriminant a b c))) (sign_in Plus a h))
        where
          never : (v s o : Sign) → None ≡ count_by_signs Plus v s o → Plus ≡ Zero
          never v s Minus e = absurd cc
          never v s Zero e = absurd cc
          never v s Plus e = absurd cc
