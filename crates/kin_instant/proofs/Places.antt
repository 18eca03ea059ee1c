-- The answers of comparisons.
use Rattle.std.proofs.Common.{◌≡◌, ◌≢◌, ◌↔◌, inl, inr, refl, ap, ap₂, sym, ◌∙◌, subst, Bool, true, false, arith, ℤ, pos, ◌-ℤ◌, ◌*ℤ◌}
use Rattle.std.specs.Prelude.{◌<ℤ◌}
use Rattle.std.specs.Ordering.{MatchOrdering, int_cmp, ordering_reverse}
use Rattle.std.proofs.lemmas.Int.{ints}
use Rattle.std.specs.declared.cmp.Ordering.{Ordering}
use Rattle.std.specs.declared.cmp.Ordering.TheVariants.{Less, Equal, Greater}
use Rattle.std.specs.Cmp.{int_ranks}
use Rattle.kin_algebra.specs.declared.sign.Sign.{Sign}
use Rattle.kin_algebra.specs.declared.sign.Sign.TheVariants.{Minus, Zero, Plus}
use Rattle.kin_algebra.specs.Signs.{sign_of}
use Rattle.kin_algebra.proofs.Signs.{code}
use Rattle.kin_algebra.proofs.IntegerSigns.{sign_in}
use Rattle.kin_num.specs.declared.instant.Shape.{Shape}
use Rattle.kin_num.specs.declared.instant.Shape.TheVariants.{Ratio, Root}
use Rattle.kin_num.specs.declared.instant.Phase.TheVariants.{At, After}
use Rattle.kin_num.specs.declared.instant.Moment.{Moment}
use Rattle.kin_num.specs.Canonical.{IsCanonicalForm, IsIrreducible, IsLowest}
use Rattle.kin_num.specs.Instants.{sign_at_instant, derivative}
use Rattle.kin_num.specs.Order.{IsLess, IsEarlier}
use Rattle.kin_num.proofs.Divisors.{same_lowest}
use Rattle.kin_num.proofs.LowerFractions.{not_less_itself, less_asym}
use Rattle.kin_num.proofs.InstantOrder.{below_upper, above_upper, at_upper, below_lower, above_lower, at_lower, same_level, never_level}
use Rattle.kin_num.proofs.MomentOrder.{not_earlier_itself, earlier_trans}
use Rattle.kin_instant.specs.Roots.{quadratic}
use Rattle.kin_instant.specs.Places.{place_of}
use Rattle.kin_instant.proofs.Values.{sign-scaled}
use Rattle.kin_instant.proofs.Zeros.{line-zero_at, ratio_on_line}

-- ---- the three answers exclude one another
pub record Exactly (o : Ordering) (P Q R : Type 0) : Type 0 where
  pub less : (o ≡ Less) ↔ P
  pub equal : (o ≡ Equal) ↔ Q
  pub greater : (o ≡ Greater) ↔ R

pub exactly : {P Q R : Type 0} (o : Ordering) → MatchOrdering o P Q R → (P → Q → ⊥) → (P → R → ⊥) → (Q → R → ⊥) → Exactly o P Q R
exactly Less h pq pr qr = record { less = (λ e. h, λ p. refl); equal = (λ e. absurd cc, λ q. absurd (pq h q)); greater = (λ e. absurd cc, λ r. absurd (pr h r)) }
exactly Equal h pq pr qr = record { less = (λ e. absurd cc, λ p. absurd (pq p h)); equal = (λ e. h, λ q. refl); greater = (λ e. absurd cc, λ r. absurd (qr h r)) }
exactly Greater h pq pr qr = record { less = (λ e. absurd cc, λ p. absurd (pr p h)); equal = (λ e. absurd cc, λ q. absurd (qr q h)); greater = (λ e. h, λ r. refl) }

pub reversed : (v w : Shape) (o : Ordering) → MatchOrdering o (IsLess v w) (v ≡ w) (IsLess w v) → MatchOrdering (ordering_reverse o) (IsLess w v) (w ≡ v) (IsLess v w)
reversed v w Less h = h
reversed v w Equal h = sym h
reversed v w Greater h = h

-- ---- instants
pub instants_exactly : (v w : Shape) (o : Ordering) → IsCanonicalForm v → IsCanonicalForm w → MatchOrdering o (IsLess v w) (v ≡ w) (IsLess w v) → Exactly o (IsLess v w) (v ≡ w) (IsLess w v)
instants_exactly v w o i j h =
    exactly o h
    (λ l e. not_less_itself w (subst (λ x. IsLess x w) e l))
    (λ l m. less_asym v w i j l m)
    (λ e m. not_less_itself w (subst (IsLess w) e m))

-- fractions by their cross product
crossed : (n d m e : ℤ) → pos 0 <ℤ d → pos 0 <ℤ e → (n *ℤ e) <ℤ (m *ℤ d) → IsLess (Ratio n d) (Ratio m e)
unfolding sign_at_instant
crossed n d m e h k l = (
  n,
  d,
  record {
    proper = h;
    first = λ p. code (sym (line-zero_at n d n d refl) ∙ p);
    second = ap sign_of (ratio_on_line n d m e) ∙ sign-scaled e (m *ℤ d -ℤ n *ℤ e) k ∙ sign_in Plus (m *ℤ d -ℤ n *ℤ e) (more (n *ℤ e) (m *ℤ d) l);
  },
)
  where
    more : (x y : ℤ) → x <ℤ y → pos 0 <ℤ (y -ℤ x)
    more x y l = omega (arith, ints)

pub fractions : (n d m e : ℤ) (o : Ordering) → IsLowest n d → IsLowest m e → o ≡ int_cmp (n *ℤ e) (m *ℤ d) → MatchOrdering o (IsLess (Ratio n d) (Ratio m e)) (Ratio n d ≡ Ratio m e) (IsLess (Ratio m e) (Ratio n d))
fractions n d m e o i j q =
    subst (λ (x : Ordering). MatchOrdering x (IsLess (Ratio n d) (Ratio m e)) (Ratio n d ≡ Ratio m e) (IsLess (Ratio m e) (Ratio n d))) (sym q) (ranked (int_cmp (n *ℤ e) (m *ℤ d)) (int_ranks (n *ℤ e) (m *ℤ d)))
  where
    ranked : (x : Ordering) → MatchOrdering x ((n *ℤ e) <ℤ (m *ℤ d)) (n *ℤ e ≡ m *ℤ d) ((m *ℤ d) <ℤ (n *ℤ e)) → MatchOrdering x (IsLess (Ratio n d) (Ratio m e)) (Ratio n d ≡ Ratio m e) (IsLess (Ratio m e) (Ratio n d))
    ranked Less l = crossed n d m e i.positive j.positive l
    ranked Equal e' = let s = same_lowest n d m e i j e' in ap₂ Ratio s.0 s.1
    ranked Greater l = crossed m e n d j.positive i.positive l

-- an instant against a root
module _ (a b c : ℤ) (i : IsIrreducible a b c) (w : Shape) (form : IsCanonicalForm w) where
  abbrev Placed : Bool → Ordering → Type 0
  Placed upper o = MatchOrdering o (IsLess w (Root a b c upper)) (w ≡ Root a b c upper) (IsLess (Root a b c upper) w)

  pub placed : (v s : Sign) (upper : Bool) → sign_at_instant (quadratic a b c) w ≡ v → (v ≢ Minus → sign_at_instant (derivative (quadratic a b c)) w ≡ s) → Placed upper (place_of v s upper)
  placed Minus s true e f = below_upper a b c i w form (inr e)
  placed Minus s false e f = above_lower a b c i w form (inr e)
  placed Zero Minus true e f = below_upper a b c i w form (inl (f (λ x. code x)))
  placed Zero Minus false e f = at_lower a b c i w form (f (λ x. code x)) e
  placed Zero Zero true e f = never_level a b c i w form Zero e (λ x. code x) (f (λ x. code x))
  placed Zero Zero false e f = never_level a b c i w form Zero e (λ x. code x) (f (λ x. code x))
  placed Zero Plus true e f = at_upper a b c i w form (f (λ x. code x)) e
  placed Zero Plus false e f = above_lower a b c i w form (inl (f (λ x. code x)))
  placed Plus Minus true e f = below_upper a b c i w form (inl (f (λ x. code x)))
  placed Plus Minus false e f = below_lower a b c i w form (f (λ x. code x)) e
  placed Plus Zero true e f = never_level a b c i w form Plus e (λ x. code x) (f (λ x. code x))
  placed Plus Zero false e f = never_level a b c i w form Plus e (λ x. code x) (f (λ x. code x))
  placed Plus Plus true e f = above_upper a b c i w form (f (λ x. code x)) e
  placed Plus Plus false e f = above_lower a b c i w form (inl (f (λ x. code x)))

-- ---- moments
pub moments_exactly : (m n : Moment) (o : Ordering) → IsCanonicalForm m.at → IsCanonicalForm n.at → MatchOrdering o (IsEarlier m n) (m ≡ n) (IsEarlier n m) → Exactly o (IsEarlier m n) (m ≡ n) (IsEarlier n m)
moments_exactly m n o i j h =
    exactly o h
    (λ l e. not_earlier_itself n (subst (λ x. IsEarlier x n) e l))
    (λ l k. not_earlier_itself m (earlier_trans m n m i j i l k))
    (λ e k. not_earlier_itself n (subst (IsEarlier n) e k))

pub by_phases : (m n : Moment) (o : Ordering) → m.at ≡ n.at → MatchOrdering o ((m.phase ≡ At) × (n.phase ≡ After)) (m.phase ≡ n.phase) ((m.phase ≡ After) × (n.phase ≡ At)) → MatchOrdering o (IsEarlier m n) (m ≡ n) (IsEarlier n m)
by_phases m n Less e h = inr (same_level m.at n.at e, h.0, h.1)
by_phases m n Equal e h = ap₂ (λ w p. record { at = w; phase = p }) e h
by_phases m n Greater e h = inr (same_level n.at m.at (sym e), h.1, h.0)

pub by_instants : (m n : Moment) (o : Ordering) → o ≢ Equal → MatchOrdering o (IsLess m.at n.at) (m.at ≡ n.at) (IsLess n.at m.at) → MatchOrdering o (IsEarlier m n) (m ≡ n) (IsEarlier n m)
by_instants m n Less d h = inl h
by_instants m n Equal d h = absurd (d refl)
by_instants m n Greater d h = inl h
