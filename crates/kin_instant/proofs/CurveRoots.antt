-- Which root of a quadratic comes next, by the signs of its value and of its slope.
use Rattle.std.proofs.Common.{◌≡◌, ◌≢◌, ◌⊎◌, inl, inr, Option, Some, None, MatchOption, refl, ap, sym, ◌∙◌, subst, true, false, arith, ℤ, pos, ◌*ℤ◌, ◌+ℤ◌}
use Rattle.std.specs.Prelude.{◌<ℤ◌}
use Rattle.std.proofs.lemmas.Int.{ints}
use lib.IntN.{neg_ℤ}
use Rattle.kin_algebra.specs.declared.sign.Sign.{Sign}
use Rattle.kin_algebra.specs.declared.sign.Sign.TheVariants.{Minus, Zero, Plus}
use Rattle.kin_algebra.specs.Signs.{sign_of, opposite_of, product_of, first_of, SumMayBe}
use Rattle.kin_algebra.proofs.Signs.{code, opposite-opposite}
use Rattle.kin_algebra.proofs.IntegerSigns.{sign_in}
use Rattle.kin_num.specs.declared.instant.Shape.{Shape}
use Rattle.kin_num.specs.declared.instant.Shape.TheVariants.{Ratio, Root}
use Rattle.kin_num.specs.declared.instant.Moment.{Moment}
use Rattle.kin_num.specs.Quadratic.{Quadratic}
use Rattle.kin_num.specs.Canonical.{IsCanonicalForm, IsIrreducible}
use Rattle.kin_num.specs.Instants.{sign_at_instant, sign_at, derivative, line}
use Rattle.kin_num.specs.Order.{IsLess}
use Rattle.kin_num.proofs.Values.{negated}
use Rattle.kin_num.proofs.SignLaws.{sign_at-neg}
use Rattle.kin_num.proofs.LowerFractions.{not_less_itself, less_trans, less_asym}
use Rattle.kin_instant.specs.declared.roots.Roots.{Roots}
use Rattle.kin_instant.specs.declared.roots.Roots.TheVariants.{Nowhere, One, Two, All}
use Rattle.kin_instant.specs.Roots.{quadratic, AreRootsOf}
use Rattle.kin_instant.specs.Sides.{root_on}
use Rattle.kin_instant.specs.Places.{IsZeroPolynomial, IsNextRoot, HasNoRootAfter, KeepsSign}
use Rattle.kin_instant.specs.Laws.{IsNext}
use Rattle.kin_instant.proofs.Zeros.{line-zero_at, positive_product}
use Rattle.kin_instant.proofs.RootsOf.{negated_zeros}
use Rattle.kin_instant.proofs.Factors.{cofactor, instant-slope, same_slope}
use Rattle.kin_instant.proofs.SignTable.{IsAt, IsPlace, by_degree, line_place, places, double_line, other_line, not_single, by_surds, positive_signed}
use Rattle.kin_instant.proofs.Nexts.{IsEmpty, nowhere, everywhere, one_next, one_none, first_next, second_next, two_none}
use Rattle.kin_instant.proofs.Kept.{keeps}

-- ---- signs
sum_turned : (s t r : Sign) → SumMayBe s t r → SumMayBe t s r
sum_turned Zero Zero r e = e
sum_turned Zero Minus r e = e
sum_turned Zero Plus r e = e
sum_turned Minus Zero r e = e
sum_turned Minus Minus r e = e
sum_turned Minus Plus r e = tt
sum_turned Plus Zero r e = e
sum_turned Plus Minus r e = tt
sum_turned Plus Plus r e = e

double_sum : (s r : Sign) → SumMayBe s s r → r ≡ s
double_sum Zero r e = e
double_sum Minus r e = e
double_sum Plus r e = e

-- a sum is negative only where a summand is
negative_summand : (s t : Sign) → SumMayBe s t Minus → s ≢ Minus → t ≢ Minus → ⊥
negative_summand Minus t e m n = m refl
negative_summand s Minus e m n = n refl
negative_summand Zero Zero e m n = code e
negative_summand Zero Plus e m n = code e
negative_summand Plus Zero e m n = code e
negative_summand Plus Plus e m n = code e

not_negative_square : (s : Sign) → Minus ≡ product_of s s → ⊥
not_negative_square Minus e = code e
not_negative_square Zero e = code e
not_negative_square Plus e = code e

module _ (a b c : ℤ) (h : pos 0 <ℤ a) (m : Moment) (i : IsCanonicalForm m.at) where
  abbrev q : Quadratic
  q = quadratic a b c

  abbrev w : Shape
  w = m.at

  abbrev slope : Sign
  slope = sign_at_instant (derivative q) w

  -- ---- the sign of the slope by the places to the roots
  abbrev IsSloped : Roots → Type 0
  IsSloped Nowhere = Unit {0}
  IsSloped (One r) = IsAt w r slope
  IsSloped (Two r s) = (t u : Sign) × (IsAt w r t × IsAt w s u × SumMayBe t u slope)
  IsSloped All = Unit {0}

  one_sloped : (r : Shape) → AreRootsOf q (One r) → IsSloped (One r)
  one_sloped (Root a' b' c' u) k = absurd (not_single a b c h w i m.phase a' b' c' u k.canonical.form k)
  one_sloped (Ratio n d) k =
      let j = k.canonical.form in
      let z = (k.exact (Ratio n d) j).1 refl in
      line_place (Ratio n d) j n d j.positive (line-zero_at n d n d refl) w i slope
      (sym (double_sum (sign_at_instant (line n d) w) slope (subst (λ (t : Sign). SumMayBe t (sign_at_instant (line n d) w) slope) (double_line a b c h w i m.phase n d j k) (instant-slope w i a b c n d j.positive z h))))

  rational_sloped : (n d : ℤ) (s : Shape) → AreRootsOf q (Two (Ratio n d) s) → IsSloped (Two (Ratio n d) s)
  rational_sloped n d s k =
      let j = k.canonical.0.form in
      let z = (k.exact (Ratio n d) j).1 (inl refl) in (
        sign_at_instant (line n d) w,
        sign_at_instant (cofactor a b n d) w,
        (
          line_place (Ratio n d) j n d j.positive (line-zero_at n d n d refl) w i _ refl,
          line_place s k.canonical.1.form (neg_ℤ (a *ℤ n +ℤ b *ℤ d)) (a *ℤ d) (positive_product a d h j.positive) (other_line a b c h w i m.phase n d s j k) w i _ refl,
          sum_turned _ _ _ (instant-slope w i a b c n d j.positive z h),
        ),
      )

  surds_sloped : (a' b' c' : ℤ) → IsIrreducible a' b' c' → AreRootsOf q (Two (Root a' b' c' false) (Root a' b' c' true)) → IsSloped (Two (Root a' b' c' false) (Root a' b' c' true))
  surds_sloped a' b' c' j k =
      let z = (k.exact (Root a' b' c' false) j).1 (inl refl) in
      let here = places a' b' c' j w i _ _ refl refl in
      (here.lower, here.upper, (here.at_lower, here.at_upper, subst (SumMayBe here.lower here.upper) (sym (same_slope q a' b' c' j false z h w i)) here.slope))

  sloped : (answer : Roots) → AreRootsOf q answer → IsSloped answer
  sloped Nowhere k = tt
  sloped (One r) k = one_sloped r k
  sloped (Two (Ratio n d) s) k = rational_sloped n d s k
  sloped (Two (Root a' b' c' u) s) k = by_surds a b c h w i m.phase IsSloped surds_sloped a' b' c' u s k
  sloped All k = tt

  -- ---- the sign by the places to the roots
  one_signed : (r : Shape) → AreRootsOf q (One r) → (s : Sign) × (IsPlace m r s × (sign_at q m ≡ product_of s s))
  one_signed r k =
      let t = positive_signed a b c h w i m.phase (One r) k in
      (t.0, (t.1.0, t.1.1 ∙ by_lead (sign_of a) (sign_in Plus a h) t.0))
    where
      by_lead : (x : Sign) → x ≡ Plus → (s : Sign) → product_of (first_of x (first_of (sign_of b) (sign_of c))) (by_degree x s) ≡ product_of s s
      by_lead Plus e s = refl
      by_lead Minus e s = absurd (code e)
      by_lead Zero e s = absurd (code e)

  two_signed : (r s : Shape) → AreRootsOf q (Two r s) → (t u : Sign) × (IsPlace m r t × IsPlace m s u × (sign_at q m ≡ product_of t u))
  two_signed r s k =
      let t = positive_signed a b c h w i m.phase (Two r s) k in
      (t.0, t.1, (t.2.0, t.2.1, t.2.2 ∙ by_lead (sign_of a) (sign_in Plus a h) (product_of t.0 t.1)))
    where
      by_lead : (x : Sign) → x ≡ Plus → (s : Sign) → product_of (first_of x (first_of (sign_of b) (sign_of c))) s ≡ s
      by_lead Plus e s = refl
      by_lead Minus e s = absurd (code e)
      by_lead Zero e s = absurd (code e)

  not_later : (r : Shape) → IsCanonicalForm r → IsPlace m r Plus → ¬ (IsLess w r)
  not_later r fr (inl l) k = less_asym r w fr i l k
  not_later r fr (inr e) k = not_less_itself r (subst (λ (x : Shape). IsLess x r) e.0 k)

  -- an instant before a root lies before it
  before : (r : Shape) → IsCanonicalForm r → IsLess w r → (t : Sign) → IsAt w r t → t ≡ Minus
  before r fr l Minus e = refl
  before r fr l Zero e = absurd (not_less_itself r (subst (λ (x : Shape). IsLess x r) e l))
  before r fr l Plus e = absurd (less_asym r w fr i e l)

  not_before : (r : Shape) → ¬ (IsLess w r) → (t : Sign) → IsAt w r t → t ≢ Minus
  not_before r n Minus e f = n e
  not_before r n Zero e f = code f
  not_before r n Plus e f = code f

  -- ---- what comes next
  abbrev Comes : Option Shape → Type 0
  Comes o = MatchOption o (IsEmpty q w) (IsNextRoot q w)

  next : (o : Option Shape) (answer : Roots) → AreRootsOf q answer → Comes o → IsNext q w o
  next None answer k e = record { found = e; kept = keeps q w answer k None tt (λ x. e) }
  next (Some r) answer k n = record { found = n; kept = keeps q w answer k (Some r) n (λ x. absurd cc) }

  -- between the roots the greater one
  pub between : (answer : Roots) → AreRootsOf q answer → sign_at q m ≡ Minus → IsNext q w (root_on true answer)
  between Nowhere k e = next None Nowhere k (nowhere q w k)
  between All k e = next None All k (everywhere q w k)
  between (One r) k e = let t = one_signed r k in absurd (not_negative_square t.0 (sym e ∙ t.1.1))
  between (Two r s) k e = let t = two_signed r s k in by_places t.0 t.1 t.2.0 t.2.1 (sym e ∙ t.2.2)
    where
      by_places : (t u : Sign) → IsPlace m r t → IsPlace m s u → Minus ≡ product_of t u → IsNext q w (Some s)
      by_places Plus Minus p l e = next (Some s) (Two r s) k (second_next q w r s k (not_later r k.canonical.0.form p) l)
      by_places Minus Plus l p e = absurd (not_later s k.canonical.1.form p (less_trans w r s k.canonical.0.form k.canonical.1.form l k.rising))
      by_places Minus Minus l p e = absurd (code e)
      by_places Minus Zero l p e = absurd (code e)
      by_places Zero u l p e = absurd (code e)
      by_places Plus Zero l p e = absurd (code e)
      by_places Plus Plus l p e = absurd (code e)

  outside : (t u : Sign) → Plus ≡ product_of t u → ((t ≡ Plus) × (u ≡ Plus)) ⊎ ((t ≡ Minus) × (u ≡ Minus))
  outside Plus Plus e = inl (refl, refl)
  outside Minus Minus e = inr (refl, refl)
  outside Plus Zero e = absurd (code e)
  outside Plus Minus e = absurd (code e)
  outside Minus Zero e = absurd (code e)
  outside Minus Plus e = absurd (code e)
  outside Zero u e = absurd (code e)

  -- before both the lesser one
  pub falling : (answer : Roots) → AreRootsOf q answer → sign_at q m ≡ Plus → slope ≡ Minus → IsNext q w (root_on false answer)
  falling Nowhere k e f = next None Nowhere k (nowhere q w k)
  falling All k e f = next None All k (everywhere q w k)
  falling (One r) k e f = next (Some r) (One r) k (one_next q w r k (subst (IsAt w r) f (sloped (One r) k)))
  falling (Two r s) k e f = let t = two_signed r s k in by_places t.0 t.1 t.2.0 t.2.1 (outside t.0 t.1 (sym e ∙ t.2.2))
    where
      by_places : (t u : Sign) → IsPlace m r t → IsPlace m s u → ((t ≡ Plus) × (u ≡ Plus)) ⊎ ((t ≡ Minus) × (u ≡ Minus)) → IsNext q w (Some r)
      by_places t u x y (inr g) = next (Some r) (Two r s) k (first_next q w r s k (subst (IsPlace m r) g.0 x))
      by_places t u x y (inl g) =
          let z = sloped (Two r s) k in
          absurd (negative_summand z.0 z.1 (subst (SumMayBe z.0 z.1) f z.2.2)
          (not_before r (not_later r k.canonical.0.form (subst (IsPlace m r) g.0 x)) z.0 z.2.0)
          (not_before s (not_later s k.canonical.1.form (subst (IsPlace m s) g.1 y)) z.1 z.2.1))

  -- behind both none
  none_left : (answer : Roots) → AreRootsOf q answer → sign_at q m ≡ Plus → slope ≢ Minus → IsEmpty q w
  none_left Nowhere k e n = nowhere q w k
  none_left All k e n = everywhere q w k
  none_left (One r) k e n = one_none q w r k (λ l. n (before r k.canonical.form l slope (sloped (One r) k)))
  none_left (Two r s) k e n = let t = two_signed r s k in by_places t.0 t.1 t.2.0 t.2.1 (outside t.0 t.1 (sym e ∙ t.2.2))
    where
      both : (t u v : Sign) → SumMayBe t u v → t ≡ Minus → u ≡ Minus → v ≡ Minus
      both Minus Minus v g x y = g
      both Minus Zero v g x y = absurd (code y)
      both Minus Plus v g x y = absurd (code y)
      both Zero u v g x y = absurd (code x)
      both Plus u v g x y = absurd (code x)

      by_places : (t u : Sign) → IsPlace m r t → IsPlace m s u → ((t ≡ Plus) × (u ≡ Plus)) ⊎ ((t ≡ Minus) × (u ≡ Minus)) → IsEmpty q w
      by_places t u x y (inl g) = two_none q w r s k (not_later r k.canonical.0.form (subst (IsPlace m r) g.0 x)) (not_later s k.canonical.1.form (subst (IsPlace m s) g.1 y))
      by_places t u x y (inr g) =
          let z = sloped (Two r s) k in
          absurd (n (both z.0 z.1 slope z.2.2
          (before r k.canonical.0.form (subst (IsPlace m r) g.0 x) z.0 z.2.0)
          (before s k.canonical.1.form (subst (IsPlace m s) g.1 y) z.1 z.2.1)))

  pub rising : (answer : Roots) → AreRootsOf q answer → sign_at q m ≡ Plus → slope ≢ Minus → IsNext q w None
  rising answer k e n = next None answer k (none_left answer k e n)

-- ---- the negated polynomial
not_zero : (p : Quadratic) → IsZeroPolynomial (negated p) → IsZeroPolynomial p
not_zero p z = record { a_zero = turned p.a z.a_zero; b_zero = turned p.b z.b_zero; c_zero = turned p.c z.c_zero }
  where
    turned : (x : ℤ) → neg_ℤ x ≡ pos 0 → x ≡ pos 0
    turned x e = omega (arith, ints, e)

kept_back : (p : Quadratic) (w : Shape) (o : Option Shape) → KeepsSign (negated p) w o → KeepsSign p w o
kept_back p w o h m n e fm fn some earlier until =
    let same = h m n e fm fn (λ z. some (sym (opposite-opposite (sign_at p m)) ∙ ap opposite_of (sym (sign_at-neg p m) ∙ z))) earlier until in
    sym (opposite-opposite (sign_at p n)) ∙ ap opposite_of (sym (sign_at-neg p n) ∙ same ∙ sign_at-neg p m) ∙ opposite-opposite (sign_at p m)

pub next_back : (p : Quadratic) (w : Shape) (o : Option Shape) → IsNext (negated p) w o → IsNext p w o
next_back p w o h = record { found = by_option o h.found; kept = kept_back p w o h.kept }
  where
    by_option : (o : Option Shape) → MatchOption o (IsZeroPolynomial (negated p) ⊎ HasNoRootAfter (negated p) w) (IsNextRoot (negated p) w) → MatchOption o (IsZeroPolynomial p ⊎ HasNoRootAfter p w) (IsNextRoot p w)
    by_option None (inl z) = inl (not_zero p z)
    by_option None (inr n) = inr (λ v j z l. n v j ((negated_zeros p v j).0 z) l)
    by_option (Some r) n = record {
      canonical = n.canonical;
      root = (negated_zeros p r n.canonical.form).1 n.root;
      later = n.later;
      least = λ v j z l k. n.least v j ((negated_zeros p v j).0 z) l k;
    }
