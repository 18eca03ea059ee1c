-- What `roots` answers, case by case.
use Rattle.std.proofs.Common.{◌≡◌, ◌≢◌, ◌⊎◌, ◌↔◌, inl, inr, Some, refl, ap, ap₂, sym, ◌∙◌, subst, true, false, ℕ, [], ◌∷◌, arith, ℤ, pos, ◌+ℤ◌, ◌-ℤ◌, ◌*ℤ◌, ◌*◌, ◌<◌}
use Rattle.std.specs.Prelude.{◌<ℤ◌}
use Rattle.std.proofs.lemmas.Int.{ints}
use lib.IntN.{neg_ℤ}
use Rattle.kin_algebra.proofs.Magnitudes.{pos-some, negative-some}
use Rattle.kin_algebra.specs.declared.sign.Sign.{Sign}
use Rattle.kin_algebra.specs.declared.sign.Sign.TheVariants.{Minus, Zero, Plus}
use Rattle.kin_algebra.specs.Signs.{sign_of, opposite_of, product_of}
use Rattle.kin_algebra.proofs.Integers.{integers}
use Rattle.kin_algebra.proofs.Ring.{by_ring, quotes}
use Rattle.kin_algebra.proofs.Signs.{code, product_none, same_from_product}
use Rattle.kin_algebra.proofs.IntegerSigns.{sign_in, sign_out, sign_of-times, sign_of-negative, zero_of}
use Rattle.kin_num.specs.declared.instant.Shape.{Shape}
use Rattle.kin_num.specs.declared.instant.Shape.TheVariants.{Ratio, Root}
use Rattle.kin_num.specs.Quadratic.{Quadratic}
use Rattle.kin_num.specs.Canonical.{IsCanonical, IsCanonicalForm, IsIrreducible, HaveNoCommonDivisor, discriminant}
use Rattle.kin_num.specs.Instants.{sign_at_instant, line}
use Rattle.kin_num.specs.Order.{IsLess}
use Rattle.kin_num.proofs.Values.{negated}
use Rattle.kin_num.proofs.SignLaws.{sign_at_instant-neg}
pub use Rattle.kin_num.proofs.Constants.{constant_sign}
use Rattle.kin_num.proofs.RootZeros.{own_slope}
use Rattle.kin_instant.specs.declared.roots.Roots.TheVariants.{Nowhere, One, Two, All}
use Rattle.kin_instant.specs.Roots.{IsFraction, count_by_signs, root_count, quadratic, AreRootsOf}
use Rattle.kin_instant.proofs.Values.{sign-scaled}
use Rattle.kin_instant.proofs.Zeros.{line-zero, line-zero_at, quadratic-zero, root-zero_at, instant-negative, instant-split, instant-scaled, doubled_positive}

-- where p is zero, another polynomial is, and the other way round
abbrev pub SameZeros : Quadratic → Quadratic → Type 0
SameZeros p q = (w : Shape) → IsCanonicalForm w → (sign_at_instant p w ≡ Zero) ↔ (sign_at_instant q w ≡ Zero)

-- ---- fractions
pub fraction_zeros : (n d : ℤ) → pos 0 <ℤ d → (r : Shape) → IsFraction n d r → IsCanonical r → (w : Shape) → IsCanonicalForm w → (sign_at_instant (line n d) w ≡ Zero) ↔ (w ≡ r)
fraction_zeros n d h (Ratio m e) f k w i =
    (line-zero w i n d m e h k.form f, λ q. ap (sign_at_instant (line n d)) q ∙ line-zero_at n d m e f)
fraction_zeros n d h (Root a b c upper) f k w i = absurd f

pub one_root : (p : Quadratic) (n d : ℤ) → pos 0 <ℤ d → (r : Shape) → IsFraction n d r → IsCanonical r → SameZeros p (line n d) → root_count p ≡ Some 1 → AreRootsOf p (One r)
one_root p n d h r f k same count = record {
  canonical = k;
  exact = λ w i. (λ z. (fraction_zeros n d h r f k w i).0 ((same w i).0 z), λ e. (same w i).1 ((fraction_zeros n d h r f k w i).1 e));
  rising = tt;
  number = sym count;
}

-- ---- lines
pub line_as : (b c : ℤ) → line (neg_ℤ c) b ≡ quadratic (pos 0) b c
line_as b c = ap (quadratic (pos 0) b) (twice c)
  where
    twice : (c : ℤ) → neg_ℤ (neg_ℤ c) ≡ c
    twice c = omega (arith, ints)

same_polynomial : (p q : Quadratic) → p ≡ q → SameZeros p q
same_polynomial p q e w i = (λ z. ap (λ (x : Quadratic). sign_at_instant x w) (sym e) ∙ z, λ z. ap (λ (x : Quadratic). sign_at_instant x w) e ∙ z)

count_line-plus : (b c d : ℤ) → sign_of b ≡ Plus → count_by_signs Zero (sign_of b) (sign_of c) (sign_of d) ≡ Some 1
count_line-plus b c d e = ap (λ (s : Sign). count_by_signs Zero s (sign_of c) (sign_of d)) e

count_line-minus : (b c d : ℤ) → sign_of b ≡ Minus → count_by_signs Zero (sign_of b) (sign_of c) (sign_of d) ≡ Some 1
count_line-minus b c d e = ap (λ (s : Sign). count_by_signs Zero s (sign_of c) (sign_of d)) e

pub rising_line : (b c : ℤ) → pos 0 <ℤ b → (r : Shape) → IsFraction (neg_ℤ c) b r → IsCanonical r → AreRootsOf (quadratic (pos 0) b c) (One r)
rising_line b c h r f k =
    one_root (quadratic (pos 0) b c) (neg_ℤ c) b h r f k (same_polynomial _ _ (sym (line_as b c))) (count_line-plus b c (discriminant (pos 0) b c) (sign_in Plus b h))

zero_opposite : (s t : Sign) → s ≡ opposite_of t → (s ≡ Zero) ↔ (t ≡ Zero)
zero_opposite s Minus e = (λ z. absurd (code (sym z ∙ e)), λ z. absurd (code z))
zero_opposite s Zero e = (λ z. refl, λ z. e)
zero_opposite s Plus e = (λ z. absurd (code (sym z ∙ e)), λ z. absurd (code z))

pub negated_zeros : (p : Quadratic) → SameZeros p (negated p)
negated_zeros p w i = let k = zero_opposite (sign_at_instant (negated p) w) (sign_at_instant p w) (sign_at_instant-neg p w) in (k.1, k.0)

pub falling_line : (b c : ℤ) → b <ℤ pos 0 → (r : Shape) → IsFraction c (neg_ℤ b) r → IsCanonical r → AreRootsOf (quadratic (pos 0) b c) (One r)
falling_line b c h r f k =
    one_root (quadratic (pos 0) b c) c (neg_ℤ b) (negative-some b h) r f k (negated_zeros (quadratic (pos 0) b c)) (count_line-minus b c (discriminant (pos 0) b c) (sign_in Minus b h))

-- ---- constants
pub zero_everywhere : (b c : ℤ) → b ≡ pos 0 → c ≡ pos 0 → AreRootsOf (quadratic (pos 0) b c) All
zero_everywhere b c e f = subst (λ (x : ℤ). AreRootsOf (quadratic (pos 0) x c) All) (sym e) (subst (λ (y : ℤ). AreRootsOf (quadratic (pos 0) (pos 0) y) All) (sym f) record {
  canonical = tt;
  exact = λ w i. (λ z. tt, λ t. constant_sign (pos 0) w i);
  rising = tt;
  number = refl;
})

pub zero_nowhere : (b c : ℤ) → b ≡ pos 0 → c ≢ pos 0 → AreRootsOf (quadratic (pos 0) b c) Nowhere
zero_nowhere b c e n = subst (λ (x : ℤ). AreRootsOf (quadratic (pos 0) x c) Nowhere) (sym e) record {
  canonical = tt;
  exact = λ w i. (λ z. n (zero_of c (sym (constant_sign c w i) ∙ z)), λ t. absurd t);
  rising = tt;
  number = counted (sign_of c) (sign_of (discriminant (pos 0) (pos 0) c)) (λ z. n (zero_of c z));
}
  where
    counted : (s t : Sign) → s ≢ Zero → Some 0 ≡ count_by_signs Zero Zero s t
    counted Minus t n = refl
    counted Zero t n = absurd (n refl)
    counted Plus t n = refl

-- ---- quadratics
count_plus : (a b c : ℤ) (s : Sign) → pos 0 <ℤ a → sign_of (discriminant a b c) ≡ s → root_count (quadratic a b c) ≡ count_by_signs Plus (sign_of b) (sign_of c) s
count_plus a b c s h e = ap₂ (λ (x y : Sign). count_by_signs x (sign_of b) (sign_of c) y) (sign_in Plus a h) e

pub negative_discriminant : (a b c : ℤ) → pos 0 <ℤ a → discriminant a b c <ℤ pos 0 → AreRootsOf (quadratic a b c) Nowhere
negative_discriminant a b c h k = record {
  canonical = tt;
  exact = λ w i. (λ z. code (sym z ∙ instant-negative w i a b c h k), λ t. absurd t);
  rising = tt;
  number = sym (count_plus a b c Minus h (sign_in Minus _ k));
}

zero_factor : (s t u : Sign) → s ≡ product_of t u → (s ≡ Zero) ↔ ((t ≡ Zero) ⊎ (u ≡ Zero))
zero_factor s t u e = (λ z. (product_none t u).0 (sym e ∙ z), λ k. e ∙ (product_none t u).1 k)

pub one_root_above : (root b : ℤ) → root ≡ pos 0 → neg_ℤ root -ℤ b ≡ root -ℤ b
one_root_above root b z = omega (arith, ints, z)

pub double_root : (a b c root : ℤ) → pos 0 <ℤ a → root *ℤ root ≡ discriminant a b c → root ≡ pos 0 → (r : Shape) → IsFraction (root -ℤ b) (pos 2 *ℤ a) r → IsCanonical r → AreRootsOf (quadratic a b c) (One r)
double_root a b c root h e z r f k =
    one_root (quadratic a b c) (root -ℤ b) (pos 2 *ℤ a) (doubled_positive a h) r f k same
    (count_plus a b c Zero h (ap sign_of (sym e ∙ ap₂ (λ (x y : ℤ). x *ℤ y) z z)))
  where
    lines : line (neg_ℤ root -ℤ b) (pos 2 *ℤ a) ≡ line (root -ℤ b) (pos 2 *ℤ a)
    lines = ap (λ (x : ℤ). line x (pos 2 *ℤ a)) (one_root_above root b z)

    same : SameZeros (quadratic a b c) (line (root -ℤ b) (pos 2 *ℤ a))
    same w i =
        let both = zero_factor _ _ _ (instant-split w i a b c root h e ∙ ap (λ (p : Quadratic). product_of (sign_at_instant p w) (sign_at_instant (line (root -ℤ b) (pos 2 *ℤ a)) w)) lines) in
        (λ y. either (both.0 y), λ y. both.1 (inl y))
      where
        either : {P : Type 0} → P ⊎ P → P
        either (inl p) = p
        either (inr p) = p

-- ---- two roots
not_plus : (s : Sign) → s ≡ Zero → s ≢ Plus
not_plus s e f = code (sym e ∙ f)

two_apart : (b root e : ℤ) → pos 0 <ℤ root → pos 0 <ℤ e → pos 0 <ℤ (e *ℤ ((pos 2 *ℤ root) *ℤ e))
two_apart b root e h k = sign_out Plus _ (sign-scaled e ((pos 2 *ℤ root) *ℤ e) k ∙ sign-scaled (pos 2 *ℤ root) e (doubled_positive root h) ∙ sign_in Plus e k)

upper_on_lower : (a b root m e : ℤ) → m *ℤ (pos 2 *ℤ a) ≡ (root -ℤ b) *ℤ e →
    pos 0 *ℤ (m *ℤ m +ℤ pos 0 *ℤ pos 0 *ℤ pos 0) +ℤ (pos 2 *ℤ a) *ℤ m *ℤ e +ℤ neg_ℤ (neg_ℤ root -ℤ b) *ℤ e *ℤ e ≡ e *ℤ ((pos 2 *ℤ root) *ℤ e)
upper_on_lower a b root m e h =
    by_ring (a ∷ b ∷ root ∷ m ∷ e ∷ []) _ (e *ℤ (m *ℤ (pos 2 *ℤ a) +ℤ (root +ℤ b) *ℤ e)) (search quotes depth 24) (search quotes depth 24) refl
    ∙ ap (λ (z : ℤ). e *ℤ (z +ℤ (root +ℤ b) *ℤ e)) h
    ∙ by_ring (b ∷ root ∷ e ∷ []) _ _ (search quotes depth 24) (search quotes depth 24) refl

-- the lesser root lies on its line, the greater one beyond it
pub rising_fractions : (a b root : ℤ) → pos 0 <ℤ a → pos 0 <ℤ root → (r s : Shape) → IsFraction (neg_ℤ root -ℤ b) (pos 2 *ℤ a) r → IsFraction (root -ℤ b) (pos 2 *ℤ a) s → IsCanonical r → IsCanonical s → IsLess r s
unfolding sign_at_instant
rising_fractions a b root h k (Root _ _ _ _) s f g i j = absurd f
rising_fractions a b root h k (Ratio m e) (Root _ _ _ _) f g i j = absurd g
rising_fractions a b root h k (Ratio m e) (Ratio m' e') f g i j = (
  neg_ℤ root -ℤ b,
  pos 2 *ℤ a,
  record {
    proper = doubled_positive a h;
    first = not_plus _ (line-zero_at (neg_ℤ root -ℤ b) (pos 2 *ℤ a) m e f);
    second = ap sign_of (upper_on_lower a b root m' e' g) ∙ sign_in Plus _ (two_apart b root e' k j.form.positive);
  },
)

pub two_fractions : (a b c root : ℤ) → pos 0 <ℤ a → root *ℤ root ≡ discriminant a b c → pos 0 <ℤ root → (r s : Shape) → IsFraction (neg_ℤ root -ℤ b) (pos 2 *ℤ a) r → IsFraction (root -ℤ b) (pos 2 *ℤ a) s → IsCanonical r → IsCanonical s → AreRootsOf (quadratic a b c) (Two r s)
two_fractions a b c root h e k r s f g i j = record {
  canonical = (i, j);
  exact = both;
  rising = rising_fractions a b root h k r s f g i j;
  number = sym (count_plus a b c Plus h (ap sign_of (sym e) ∙ sign-scaled root root k ∙ sign_in Plus root k));
}
  where
    both : (w : Shape) → IsCanonicalForm w → (sign_at_instant (quadratic a b c) w ≡ Zero) ↔ ((w ≡ r) ⊎ (w ≡ s))
    both w l =
        let z = zero_factor _ _ _ (instant-split w l a b c root h e) in
        let x = fraction_zeros (neg_ℤ root -ℤ b) (pos 2 *ℤ a) (doubled_positive a h) r f i w l in
        let y = fraction_zeros (root -ℤ b) (pos 2 *ℤ a) (doubled_positive a h) s g j w l in
        (λ t. either (z.0 t) x.0 y.0, λ t. z.1 (either t x.1 y.1))
      where
        either : {P P' Q Q' : Type 0} → P ⊎ Q → (P → P') → (Q → Q') → P' ⊎ Q'
        either (inl p) u v = inl (u p)
        either (inr q) u v = inr (v q)

-- ---- two irrational roots
-- the line through the middle of the roots is the slope
middle : (a b : ℤ) (w : Shape) → sign_at_instant (line (neg_ℤ b) (pos 2 *ℤ a)) w ≡ sign_at_instant (quadratic (pos 0) (pos 2 *ℤ a) b) w
middle a b w = ap (λ (p : Quadratic). sign_at_instant p w) (line_as (pos 2 *ℤ a) b)

-- the middle -b / 2a lies between the two roots
pub rising_surds : (a b c : ℤ) → IsIrreducible a b c → IsLess (Root a b c false) (Root a b c true)
rising_surds a b c i = (
  neg_ℤ b,
  pos 2 *ℤ a,
  record {
    proper = doubled_positive a i.positive;
    first = λ e. code (sym (middle a b (Root a b c false) ∙ own_slope a b c i false) ∙ e);
    second = middle a b (Root a b c true) ∙ own_slope a b c i true;
  },
)

three_scaled : (g a b c a' b' c' : ℤ) → a ≡ a' *ℤ g → b ≡ b' *ℤ g → c ≡ c' *ℤ g → quadratic a b c ≡ quadratic (g *ℤ a') (g *ℤ b') (g *ℤ c')
three_scaled g a b c a' b' c' e f h =
    ap (λ (x : ℤ). quadratic x b c) (e ∙ integers.times_comm a' g) ∙ ap (λ (x : ℤ). quadratic (g *ℤ a') x c) (f ∙ integers.times_comm b' g) ∙ ap (quadratic (g *ℤ a') (g *ℤ b')) (h ∙ integers.times_comm c' g)

pub two_surds : (a b c g a' b' c' : ℤ) → pos 0 <ℤ a → pos 0 <ℤ discriminant a b c → pos 0 <ℤ g → a ≡ a' *ℤ g → b ≡ b' *ℤ g → c ≡ c' *ℤ g → IsCanonical (Root a' b' c' false) → AreRootsOf (quadratic a b c) (Two (Root a' b' c' false) (Root a' b' c' true))
two_surds a b c g a' b' c' h real k e f l i = record {
  canonical = (i, record { form = i.form; small = i.small });
  exact = λ w j. let same = ap (λ (p : Quadratic). sign_at_instant p w) (three_scaled g a b c a' b' c' e f l) ∙ instant-scaled w j g a' b' c' k in
      (λ z. quadratic-zero w j a' b' c' i.form (sym same ∙ z), λ t. same ∙ listed w t);
  rising = rising_surds a' b' c' i.form;
  number = sym (count_plus a b c Plus h (sign_in Plus _ real));
}
  where
    listed : (w : Shape) → (w ≡ Root a' b' c' false) ⊎ (w ≡ Root a' b' c' true) → sign_at_instant (quadratic a' b' c') w ≡ Zero
    listed w (inl q) = ap (sign_at_instant (quadratic a' b' c')) q ∙ root-zero_at a' b' c' false
    listed w (inr q) = ap (sign_at_instant (quadratic a' b' c')) q ∙ root-zero_at a' b' c' true

-- ---- what is left of an irrational discriminant after division
divided_discriminant : (g a b c : ℤ) → discriminant (a *ℤ g) (b *ℤ g) (c *ℤ g) ≡ (g *ℤ g) *ℤ discriminant a b c
divided_discriminant g a b c = by_ring (g ∷ a ∷ b ∷ c ∷ []) _ _ (search quotes depth 24) (search quotes depth 24) refl

pub discriminant_of : (g a b c a' b' c' : ℤ) → a ≡ a' *ℤ g → b ≡ b' *ℤ g → c ≡ c' *ℤ g → discriminant a b c ≡ (g *ℤ g) *ℤ discriminant a' b' c'
discriminant_of g a b c a' b' c' e f h =
    ap (λ (x : ℤ). discriminant x b c) e ∙ ap (λ (x : ℤ). discriminant (a' *ℤ g) x c) f ∙ ap (discriminant (a' *ℤ g) (b' *ℤ g)) h ∙ divided_discriminant g a' b' c'

square_of : (g k : ℕ) → (pos g *ℤ pos g) *ℤ pos (k * k) ≡ pos ((g * k) * (g * k))
square_of g k = ap pos (flat g k)
  where
    flat : (g k : ℕ) → g * g * (k * k) ≡ g * k * (g * k)
    flat g k = omega arith

pub irreducible_after : (a b c a' b' c' : ℤ) (g : ℕ) → 0 < g → pos 0 <ℤ a → pos 0 <ℤ discriminant a b c → ((k : ℕ) → pos (k * k) ≢ discriminant a b c) → a ≡ a' *ℤ pos g → b ≡ b' *ℤ pos g → c ≡ c' *ℤ pos g → HaveNoCommonDivisor a' b' c' → IsIrreducible a' b' c'
irreducible_after a b c a' b' c' g some h real irrational e f l i = record {
  positive = positive_factor a a' (pos g) h e g_positive;
  primitive = i;
  real = positive_factor (discriminant a b c) (discriminant a' b' c') (pos g *ℤ pos g) real (same ∙ integers.times_comm (pos g *ℤ pos g) (discriminant a' b' c')) (sign_out Plus _ (sign-scaled (pos g) (pos g) g_positive ∙ sign_in Plus (pos g) g_positive));
  irrational = λ k q. irrational (g * k) (sym (square_of g k) ∙ ap (λ (z : ℤ). (pos g *ℤ pos g) *ℤ z) q ∙ sym same);
}
  where
    same : discriminant a b c ≡ (pos g *ℤ pos g) *ℤ discriminant a' b' c'
    same = discriminant_of (pos g) a b c a' b' c' e f l

    -- a positive product with a positive factor
    positive_factor : (x y z : ℤ) → pos 0 <ℤ x → x ≡ y *ℤ z → pos 0 <ℤ z → pos 0 <ℤ y
    positive_factor x y z h e k = sign_out Plus y ((same_from_product _ _ (sym (sign_of-times y z) ∙ ap sign_of (sym e) ∙ sign_in Plus x h)).0 ∙ sign_in Plus z k)

    g_positive : pos 0 <ℤ pos g
    g_positive = pos-some g some

-- ---- the number of roots of the negated polynomial
count_turned : (s t u v : Sign) → count_by_signs (opposite_of s) (opposite_of t) (opposite_of u) v ≡ count_by_signs s t u v
count_turned Zero Zero Zero v = refl
count_turned Zero Zero Minus v = refl
count_turned Zero Zero Plus v = refl
count_turned Zero Minus u v = refl
count_turned Zero Plus u v = refl
count_turned Minus t u Minus = refl
count_turned Minus t u Zero = refl
count_turned Minus t u Plus = refl
count_turned Plus t u Minus = refl
count_turned Plus t u Zero = refl
count_turned Plus t u Plus = refl

pub discriminant-negated : (a b c : ℤ) → discriminant (neg_ℤ a) (neg_ℤ b) (neg_ℤ c) ≡ discriminant a b c
discriminant-negated a b c = by_ring (a ∷ b ∷ c ∷ []) _ _ (search quotes depth 20) (search quotes depth 20) refl

pub count_negated : (p : Quadratic) → root_count (negated p) ≡ root_count p
count_negated p =
    ap (λ (z : ℤ). count_by_signs (sign_of (neg_ℤ p.a)) (sign_of (neg_ℤ p.b)) (sign_of (neg_ℤ p.c)) (sign_of z)) (discriminant-negated p.a p.b p.c)
    ∙ ap (λ (s : Sign). count_by_signs s (sign_of (neg_ℤ p.b)) (sign_of (neg_ℤ p.c)) (sign_of (discriminant p.a p.b p.c))) (sign_of-negative p.a)
    ∙ ap₂ (λ (s t : Sign). count_by_signs (opposite_of (sign_of p.a)) s t (sign_of (discriminant p.a p.b p.c))) (sign_of-negative p.b) (sign_of-negative p.c)
    ∙ count_turned (sign_of p.a) (sign_of p.b) (sign_of p.c) (sign_of (discriminant p.a p.b p.c))

-- ---- what the code has, read as what it means
pub fraction_read : (n d n' d' : ℤ) (r : Shape) → n' ≡ n → d' ≡ d → IsFraction n' d' r → IsFraction n d r
fraction_read n d n' d' r e f h = subst (λ (x : ℤ). IsFraction x d r) e (subst (λ (y : ℤ). IsFraction n' y r) f h)
