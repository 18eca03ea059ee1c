-- The sign table for every polynomial, and where signs stay.
use Rattle.std.proofs.Common.{◌≡◌, ◌≢◌, ◌⊎◌, inl, inr, Option, Some, None, MatchOption, IfSome, IsNone, refl, ap, ap₂, sym, ◌∙◌, subst, ℤ, pos, ◌*ℤ◌}
use Rattle.std.specs.Prelude.{◌<ℤ◌}
use lib.IntN.{neg_ℤ}
use Rattle.kin_algebra.specs.declared.sign.Sign.{Sign}
use Rattle.kin_algebra.specs.declared.sign.Sign.TheVariants.{Minus, Zero, Plus}
use Rattle.kin_algebra.specs.Signs.{sign_of, opposite_of, product_of, first_of}
use Rattle.kin_algebra.proofs.Signs.{code, product-Zero, opposite-opposite, first_of-opposite}
use Rattle.kin_algebra.proofs.IntegerSigns.{sign_in, sign_out, zero_of, sign_of-negative}
use Rattle.kin_num.specs.declared.instant.Shape.{Shape}
use Rattle.kin_num.specs.declared.instant.Phase.{Phase}
use Rattle.kin_num.specs.declared.instant.Phase.TheVariants.{At, After}
use Rattle.kin_num.specs.declared.instant.Moment.{Moment}
use Rattle.kin_num.specs.Quadratic.{Quadratic}
use Rattle.kin_num.specs.Canonical.{IsCanonicalForm, discriminant}
use Rattle.kin_num.specs.Instants.{sign_at_instant, sign_at, derivative}
use Rattle.kin_num.specs.Order.{IsLess, IsEarlier}
use Rattle.kin_num.proofs.Constants.{constant_sign}
use Rattle.kin_num.proofs.Values.{negated}
use Rattle.kin_num.proofs.SignLaws.{sign_at-neg}
use Rattle.kin_num.proofs.LowerFractions.{not_less_itself, less_trans, less_asym}
use Rattle.kin_num.proofs.InstantOrder.{total, level_same}
use Rattle.kin_instant.specs.declared.roots.Roots.{Roots}
use Rattle.kin_instant.specs.declared.roots.Roots.TheVariants.{Nowhere, One, Two, All}
use Rattle.kin_instant.specs.Roots.{quadratic, AreRootsOf, count_by_signs, root_count}
use Rattle.kin_instant.specs.Places.{IsZeroPolynomial, IsNextRoot, HasNoRootAfter, KeepsSign}
use Rattle.kin_instant.proofs.RootsOf.{negated_zeros, count_negated, line_as}
use Rattle.kin_instant.proofs.Nexts.{count_of_zero}
use Rattle.kin_instant.proofs.SignTable.{IsPlace, IsSigned, lead_of, by_degree, lift, lifted, line_place, line_sign, by_lead, at_at, at_after, positive_signed}

-- ---- lines and constants
module _ (w : Shape) (i : IsCanonicalForm w) (f : Phase) where
  abbrev m : Moment
  m = record { at = w; phase = f }

  line_counted : (b c : ℤ) → pos 0 <ℤ b → root_count (quadratic (pos 0) b c) ≡ Some 1
  line_counted b c h = ap (λ (s : Sign). count_by_signs Zero s (sign_of c) (sign_of (discriminant (pos 0) b c))) (sign_in Plus b h)

  line_signed : (b c : ℤ) → pos 0 <ℤ b → (answer : Roots) → AreRootsOf (quadratic (pos 0) b c) answer → IsSigned (quadratic (pos 0) b c) answer m
  line_signed b c h Nowhere k = absurd (let e : Some 0 ≡ Some 1 = k.number ∙ line_counted b c h in cc)
  line_signed b c h (One r) k =
      let p = quadratic (pos 0) b c in
      let j = k.canonical.form in
      let z = ap (λ (q : Quadratic). sign_at_instant q r) (line_as b c) ∙ (k.exact r j).1 refl in (
        lift f (sign_at_instant p w),
        (
          lifted w r f _ (line_place r j (neg_ℤ c) b h z w i (sign_at_instant p w) (ap (λ (q : Quadratic). sign_at_instant q w) (line_as b c))),
          by_lead (lead_of p) (sign_at p m) (lift f (sign_at_instant p w)) (ap (λ (s : Sign). first_of s (sign_of c)) (sign_in Plus b h)) (line_sign b c h w i f),
        ),
      )
  line_signed b c h (Two r s) k = absurd (let e : Some 2 ≡ Some 1 = k.number ∙ line_counted b c h in cc)
  line_signed b c h All k = absurd (let e : None ≡ Some 1 = k.number ∙ line_counted b c h in cc)

  ended : (s : Sign) → first_of s Zero ≡ s
  ended Minus = refl
  ended Zero = refl
  ended Plus = refl

  pub constant_at : (c : ℤ) → sign_at (quadratic (pos 0) (pos 0) c) m ≡ sign_of c
  constant_at c = by_phase f
    where
      by_phase : (f : Phase) → sign_at (quadratic (pos 0) (pos 0) c) (record { at = w; phase = f }) ≡ sign_of c
      by_phase At = at_at (quadratic (pos 0) (pos 0) c) w ∙ constant_sign c w i
      by_phase After = at_after (quadratic (pos 0) (pos 0) c) w i ∙ ap₂ (λ (s t : Sign). first_of s (first_of t Zero)) (constant_sign c w i) (constant_sign (pos 0) w i) ∙ ended (sign_of c)

  constant_signed : (c : ℤ) (answer : Roots) → AreRootsOf (quadratic (pos 0) (pos 0) c) answer → IsSigned (quadratic (pos 0) (pos 0) c) answer m
  constant_signed c Nowhere k = constant_at c
  constant_signed c (One r) k = absurd (one (sign_of c) _ k.number)
    where
      one : (s o : Sign) → Some 1 ≡ count_by_signs Zero Zero s o → ⊥
      one Minus o e = cc
      one Zero o e = cc
      one Plus o e = cc
  constant_signed c (Two r s) k = absurd (two (sign_of c) _ k.number)
    where
      two : (s o : Sign) → Some 2 ≡ count_by_signs Zero Zero s o → ⊥
      two Minus o e = cc
      two Zero o e = cc
      two Plus o e = cc
  constant_signed c All k = constant_at c ∙ none (sign_of c) _ k.number
    where
      none : (s o : Sign) → None ≡ count_by_signs Zero Zero s o → s ≡ Zero
      none Minus o e = absurd cc
      none Zero o e = refl
      none Plus o e = absurd cc

-- ---- the negated polynomial
turned_roots : (p : Quadratic) (answer : Roots) → AreRootsOf p answer → AreRootsOf (negated p) answer
turned_roots p answer k = record {
  canonical = k.canonical;
  exact = λ w i. let z = negated_zeros p w i in (λ e. (k.exact w i).0 (z.1 e), λ l. z.0 ((k.exact w i).1 l));
  rising = k.rising;
  number = k.number ∙ sym (count_negated p);
}

lead-negated : (p : Quadratic) → lead_of (negated p) ≡ opposite_of (lead_of p)
lead-negated p =
    ap₂ first_of (sign_of-negative p.a) (ap₂ first_of (sign_of-negative p.b) (sign_of-negative p.c) ∙ first_of-opposite (sign_of p.b) (sign_of p.c))
    ∙ first_of-opposite (sign_of p.a) (first_of (sign_of p.b) (sign_of p.c))

product-opposite : (s t : Sign) → product_of (opposite_of s) t ≡ opposite_of (product_of s t)
product-opposite Minus t = sym (opposite-opposite t)
product-opposite Zero t = refl
product-opposite Plus t = refl

degree-opposite : (d s : Sign) → by_degree (opposite_of d) s ≡ by_degree d s
degree-opposite Minus s = refl
degree-opposite Zero s = refl
degree-opposite Plus s = refl

back : (s t : Sign) → opposite_of s ≡ opposite_of t → s ≡ t
back s t e = sym (opposite-opposite s) ∙ ap opposite_of e ∙ opposite-opposite t

turned_back : (p : Quadratic) (answer : Roots) (m : Moment) → IsSigned (negated p) answer m → IsSigned p answer m
turned_back p Nowhere m h = back _ _ (sym (sign_at-neg p m) ∙ h ∙ lead-negated p)
turned_back p (One r) m h =
    (h.0, (h.1.0, back _ _ (sym (sign_at-neg p m) ∙ h.1.1 ∙ ap₂ (λ (s t : Sign). product_of s (by_degree t h.0)) (lead-negated p) (sign_of-negative p.a) ∙ ap (product_of (opposite_of (lead_of p))) (degree-opposite (sign_of p.a) h.0) ∙ product-opposite (lead_of p) (by_degree (sign_of p.a) h.0))))
turned_back p (Two r s) m h = (h.0, h.1, (h.2.0, h.2.1, back _ _ (sym (sign_at-neg p m) ∙ h.2.2 ∙ ap (λ (x : Sign). product_of x (product_of h.0 h.1)) (lead-negated p) ∙ product-opposite (lead_of p) (product_of h.0 h.1))))
turned_back p All m h = back _ _ (sym (sign_at-neg p m) ∙ h)

-- ---- the sign table: at every canonical moment the sign is the leading sign times the signs of the places to the roots
module _ (w : Shape) (i : IsCanonicalForm w) (f : Phase) where
  without_second : (b c : ℤ) (answer : Roots) → AreRootsOf (quadratic (pos 0) b c) answer → IsSigned (quadratic (pos 0) b c) answer (record { at = w; phase = f })
  without_second b c answer k = by_sign (sign_of b) refl
    where
      by_sign : (s : Sign) → sign_of b ≡ s → IsSigned (quadratic (pos 0) b c) answer (record { at = w; phase = f })
      by_sign Plus e = line_signed w i f b c (sign_out Plus b e) answer k
      by_sign Minus e = turned_back (quadratic (pos 0) b c) answer _ (line_signed w i f (neg_ℤ b) (neg_ℤ c) (sign_out Plus (neg_ℤ b) (sign_of-negative b ∙ ap opposite_of e)) answer (turned_roots (quadratic (pos 0) b c) answer k))
      by_sign Zero e =
          subst (λ (x : ℤ). IsSigned (quadratic (pos 0) x c) answer (record { at = w; phase = f })) (sym (zero_of b e))
          (constant_signed w i f c answer (subst (λ (x : ℤ). AreRootsOf (quadratic (pos 0) x c) answer) (zero_of b e) k))

  pub sign_table : (p : Quadratic) (answer : Roots) → AreRootsOf p answer → IsSigned p answer (record { at = w; phase = f })
  sign_table p answer k = by_sign (sign_of p.a) refl
    where
      by_sign : (s : Sign) → sign_of p.a ≡ s → IsSigned p answer (record { at = w; phase = f })
      by_sign Plus e = positive_signed p.a p.b p.c (sign_out Plus p.a e) w i f answer k
      by_sign Minus e = turned_back p answer _ (positive_signed (neg_ℤ p.a) (neg_ℤ p.b) (neg_ℤ p.c) (sign_out Plus (neg_ℤ p.a) (sign_of-negative p.a ∙ ap opposite_of e)) w i f answer (turned_roots p answer k))
      by_sign Zero e =
          subst (λ (x : ℤ). IsSigned (quadratic x p.b p.c) answer (record { at = w; phase = f })) (sym (zero_of p.a e))
          (without_second p.b p.c answer (subst (λ (x : ℤ). AreRootsOf (quadratic x p.b p.c) answer) (zero_of p.a e) k))

-- ---- just after an instant only the zero polynomial has sign 0
pub zero_after : (p : Quadratic) (w : Shape) → IsCanonicalForm w → sign_at p (record { at = w; phase = After }) ≡ Zero → IsZeroPolynomial p
zero_after p w i e =
    let z = three (sign_at_instant p w) (sign_at_instant (derivative p) w) (sign_of p.a) (sym (at_after p w i) ∙ e) in
    let a = zero_of p.a z.2 in
    let b = zero_of p.b (sym (constant_sign p.b w i) ∙ ap (λ (x : ℤ). sign_at_instant (quadratic (pos 0) (pos 2 *ℤ x) p.b) w) (sym a) ∙ z.1) in
    let c = zero_of p.c (sym (constant_sign p.c w i) ∙ ap₂ (λ (x y : ℤ). sign_at_instant (quadratic x y p.c) w) (sym a) (sym b) ∙ z.0) in
    record { a_zero = a; b_zero = b; c_zero = c }
  where
    three : (s t u : Sign) → first_of s (first_of t u) ≡ Zero → (s ≡ Zero) × (t ≡ Zero) × (u ≡ Zero)
    three Zero Zero Zero e = (refl, refl, refl)
    three Zero Zero Minus e = absurd (code e)
    three Zero Zero Plus e = absurd (code e)
    three Zero Minus u e = absurd (code e)
    three Zero Plus u e = absurd (code e)
    three Minus t u e = absurd (code e)
    three Plus t u e = absurd (code e)

-- ---- a sign stays where no root comes between
pub phase_code : At ≡ After → ⊥
phase_code e = cc

module _ (m n : Moment) (fm : IsCanonicalForm m.at) (fn : IsCanonicalForm n.at) (earlier : IsEarlier m n) (r : Shape) (fr : IsCanonicalForm r) (between : IsLess m.at r → IsLess n.at r) where
  -- what lies behind the earlier moment lies behind the later one
  behind : IsPlace m r Plus → IsLess r n.at ⊎ ((n.at ≡ r) × (n.phase ≡ After))
  behind (inl l) = from earlier
    where
      from : IsEarlier m n → IsLess r n.at ⊎ ((n.at ≡ r) × (n.phase ≡ After))
      from (inl k) = inl (less_trans r m.at n.at fm fn l k)
      from (inr k) = inl (subst (IsLess r) (level_same m.at n.at fm fn k.0) l)
  behind (inr e) = from earlier
    where
      from : IsEarlier m n → IsLess r n.at ⊎ ((n.at ≡ r) × (n.phase ≡ After))
      from (inl k) = inl (subst (λ x. IsLess x n.at) e.0 k)
      from (inr k) = absurd (phase_code (sym k.1 ∙ e.1))

  place_kept : (s t : Sign) → s ≢ Zero → IsPlace m r s → IsPlace n r t → t ≡ s
  place_kept Zero t n' h k = absurd (n' refl)
  place_kept Minus Minus n' h k = refl
  place_kept Minus Zero n' h k = absurd (not_less_itself r (subst (λ x. IsLess x r) k.0 (between h)))
  place_kept Minus Plus n' h (inl k) = absurd (less_asym n.at r fn fr (between h) k)
  place_kept Minus Plus n' h (inr k) = absurd (not_less_itself r (subst (λ x. IsLess x r) k.0 (between h)))
  place_kept Plus Minus n' h k = absurd (apart (behind h))
    where
      apart : IsLess r n.at ⊎ ((n.at ≡ r) × (n.phase ≡ After)) → ⊥
      apart (inl l) = less_asym n.at r fn fr k l
      apart (inr e) = not_less_itself r (subst (λ x. IsLess x r) e.0 k)
  place_kept Plus Zero n' h k = absurd (apart (behind h))
    where
      apart : IsLess r n.at ⊎ ((n.at ≡ r) × (n.phase ≡ After)) → ⊥
      apart (inl l) = not_less_itself r (subst (IsLess r) k.0 l)
      apart (inr e) = phase_code (sym k.1 ∙ e.1)
  place_kept Plus Plus n' h k = refl

module _ (p : Quadratic) (m n : Moment) (fm : IsCanonicalForm m.at) (fn : IsCanonicalForm n.at) (earlier : IsEarlier m n) (some : sign_at p m ≢ Zero)
    (between : (r : Shape) → IsCanonicalForm r → sign_at_instant p r ≡ Zero → IsLess m.at r → IsLess n.at r) where
  degree_some : (l d s : Sign) → sign_at p m ≡ product_of l (by_degree d s) → s ≢ Zero
  degree_some l d s e z = some (e ∙ ap (λ (x : Sign). product_of l (by_degree d x)) z ∙ nothing d ∙ product-Zero l)
    where
      nothing : (d : Sign) → product_of l (by_degree d Zero) ≡ product_of l Zero
      nothing Minus = refl
      nothing Zero = refl
      nothing Plus = refl

  pub sign_kept : (answer : Roots) → AreRootsOf p answer → sign_at p n ≡ sign_at p m
  sign_kept answer k = by_answer answer k (sign_table m.at fm m.phase p answer k) (sign_table n.at fn n.phase p answer k)
    where
      by_answer : (answer : Roots) → AreRootsOf p answer → IsSigned p answer m → IsSigned p answer n → sign_at p n ≡ sign_at p m
      by_answer Nowhere k h j = j ∙ sym h
      by_answer (One r) k h j =
          let same = place_kept m n fm fn earlier r k.canonical.form (between r k.canonical.form ((k.exact r k.canonical.form).1 refl)) h.0 j.0 (degree_some (lead_of p) (sign_of p.a) h.0 h.1.1) h.1.0 j.1.0 in
          j.1.1 ∙ ap (λ (x : Sign). product_of (lead_of p) (by_degree (sign_of p.a) x)) same ∙ sym h.1.1
      by_answer (Two r s) k h j =
          let fr = k.canonical.0.form in
          let fs = k.canonical.1.form in
          let left = place_kept m n fm fn earlier r fr (between r fr ((k.exact r fr).1 (inl refl))) h.0 j.0 (λ z. some (h.2.2 ∙ ap (λ (x : Sign). product_of (lead_of p) (product_of x h.1)) z ∙ product-Zero (lead_of p))) h.2.0 j.2.0 in
          let right = place_kept m n fm fn earlier s fs (between s fs ((k.exact s fs).1 (inr refl))) h.1 j.1 (λ z. some (h.2.2 ∙ ap (λ (x : Sign). product_of (lead_of p) (product_of h.0 x)) z ∙ ap (product_of (lead_of p)) (product-Zero h.0) ∙ product-Zero (lead_of p))) h.2.1 j.2.1 in
          j.2.2 ∙ ap₂ (λ (x y : Sign). product_of (lead_of p) (product_of x y)) left right ∙ sym h.2.2
      by_answer All k h j = absurd (some h)

-- ---- what `next_root` says of signs
pub keeps : (p : Quadratic) (w : Shape) (answer : Roots) → AreRootsOf p answer → (o : Option Shape) → IfSome o (IsNextRoot p w) → (IsNone o → IsZeroPolynomial p ⊎ HasNoRootAfter p w) → KeepsSign p w o
keeps p w answer k o next none m n e fm fn some earlier until = sign_kept p m n fm fn earlier some (from o next none until) answer k
  where
    from : (o : Option Shape) → IfSome o (IsNextRoot p w) → (IsNone o → IsZeroPolynomial p ⊎ HasNoRootAfter p w) → MatchOption o (Unit {0}) (IsLess n.at) → (r : Shape) → IsCanonicalForm r → sign_at_instant p r ≡ Zero → IsLess m.at r → IsLess n.at r
    from None next none until r fr z l = absurd (gone (none refl))
      where
        gone : IsZeroPolynomial p ⊎ HasNoRootAfter p w → ⊥
        gone (inl zero) = some (all_zero answer k)
          where
            all_zero : (answer : Roots) → AreRootsOf p answer → sign_at p m ≡ Zero
            all_zero All k = sign_table m.at fm m.phase p All k
            all_zero Nowhere k = absurd (let e : Some 0 ≡ None = k.number ∙ count_of_zero p zero in cc)
            all_zero (One r) k = absurd (let e : Some 1 ≡ None = k.number ∙ count_of_zero p zero in cc)
            all_zero (Two r s) k = absurd (let e : Some 2 ≡ None = k.number ∙ count_of_zero p zero in cc)
        gone (inr never) = never r fr z (subst (λ x. IsLess x r) e l)
    from (Some v) next none until r fr z l = later (total v r next.canonical.form fr)
      where
        later : IsLess v r ⊎ (IsLess r v ⊎ (v ≡ r)) → IsLess n.at r
        later (inl k) = less_trans n.at v r next.canonical.form fr until k
        later (inr (inl k)) = absurd (next.least r fr z (subst (λ x. IsLess x r) e l) k)
        later (inr (inr q)) = subst (IsLess n.at) q until
