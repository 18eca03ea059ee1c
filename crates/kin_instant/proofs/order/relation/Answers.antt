use Rattle.std.proofs.Common.{◌≡◌, ◌<◌, ◌≤◌, ◌^◌, Bool, ℤ, ◌*ℤ◌, unsigned_abs, w64, to_z, of_z, arith, ap, ap₂, sym, ◌∙◌, subst}
use Rattle.std.specs.Ordering.{MatchOrdering, int_cmp, ordering_reverse}
use Rattle.std.specs.declared.cmp.Ordering.{Ordering}
use Rattle.kin_num.specs.declared.instant.Shape.{Shape}
use Rattle.kin_num.specs.declared.instant.Shape.TheVariants.{Ratio, Root}
use Rattle.kin_num.specs.Order.{IsLess}
use Rattle.kin_instant.proofs.Widths.{clean-abs}
use Rattle.kin_num.specs.Canonical.{IsCanonical}
use Rattle.kin_instant.proofs.Places.{fractions, reversed}
use Rattle.kin_instant.proofs.order.relation.Goals as goal

-- the root as the code passes it on
root_is : (y : Shape) (a b c : ℤ) (upper : Bool) → Root a b c upper ≡ y → IsCanonical y → Root (to_z w64 (of_z w64 a)) (to_z w64 (of_z w64 b)) (to_z w64 (of_z w64 c)) upper ≡ y
root_is y a b c upper e h =
    let k : IsCanonical (Root a b c upper) = subst IsCanonical (sym e) h in
    ap (λ (x : ℤ). Root x (to_z w64 (of_z w64 b)) (to_z w64 (of_z w64 c)) upper) (clean-abs w64 a (near a k.small.a_small))
    ∙ ap (λ (x : ℤ). Root a x (to_z w64 (of_z w64 c)) upper) (clean-abs w64 b (far b k.small.b_small))
    ∙ ap (λ (x : ℤ). Root a b x upper) (clean-abs w64 c (near c k.small.c_small)) ∙ e
  where
    near : (z : ℤ) → unsigned_abs z ≤ 2 ^ 29 → unsigned_abs z < 2 ^ 63
    near z h = omega arith

    far : (z : ℤ) → unsigned_abs z ≤ 2 ^ 31 → unsigned_abs z < 2 ^ 63
    far z h = omega arith

to_root : (x y r : Shape) (o : Ordering) → r ≡ y → MatchOrdering o (IsLess x r) (x ≡ r) (IsLess r x) → MatchOrdering o (IsLess x y) (x ≡ y) (IsLess y x)
to_root x y r o e h = subst (λ (z : Shape). MatchOrdering o (IsLess x z) (x ≡ z) (IsLess z x)) e h

of_root : (x y r : Shape) (o o' : Ordering) → r ≡ x → MatchOrdering o (IsLess y r) (y ≡ r) (IsLess r y) → o' ≡ ordering_reverse o → MatchOrdering o' (IsLess x y) (x ≡ y) (IsLess y x)
of_root x y r o o' e h f = subst (λ (z : Ordering). MatchOrdering z (IsLess x y) (x ≡ y) (IsLess y x)) (sym f) (reversed y x o (to_root y x r o e h))

small : (z : ℤ) → unsigned_abs z ≤ 2 ^ 31 → unsigned_abs z < 2 ^ 63
small z h = omega arith

of_fractions : (x y : Shape) (n d m e : ℤ) (o : Ordering) → Ratio n d ≡ x → Ratio m e ≡ y → IsCanonical x → IsCanonical y
    → o ≡ int_cmp (to_z w64 (of_z w64 n) *ℤ to_z w64 (of_z w64 e)) (to_z w64 (of_z w64 m) *ℤ to_z w64 (of_z w64 d)) → MatchOrdering o (IsLess x y) (x ≡ y) (IsLess y x)
of_fractions x y n d m e o p q h k f =
    let i : IsCanonical (Ratio n d) = subst IsCanonical (sym p) h in
    let j : IsCanonical (Ratio m e) = subst IsCanonical (sym q) k in
    let times = λ (u v : ℤ). u *ℤ v in
    let g : o ≡ int_cmp (n *ℤ e) (m *ℤ d) = f ∙ ap₂ int_cmp (ap₂ times (clean-abs w64 n (small n i.small.n_small)) (clean-abs w64 e (small e j.small.d_small))) (ap₂ times (clean-abs w64 m (small m j.small.n_small)) (clean-abs w64 d (small d i.small.d_small))) in
    subst (λ (z : Shape). MatchOrdering o (IsLess z y) (z ≡ y) (IsLess y z)) p (subst (λ (z : Shape). MatchOrdering o (IsLess (Ratio n d) z) (Ratio n d ≡ z) (IsLess z (Ratio n d))) q (fractions n d m e o i.form j.form g))

pub returns-in-Root-clause-order : goal.returns-in-Root-clause-order
returns-in-Root-clause-order c =
    to_root c.args.x.now c.args.y.now _ c.against_root.result (root_is c.args.y.now c.in-Root.a c.in-Root.b c.in-Root.c c.in-Root.upper (sym c.in-Root.is ∙ c.shape.ensures.value) c.shape.ensures.canonical) c.against_root.ensures.order

pub returns-in-Ratio-left-clause-order : goal.returns-in-Ratio-left-clause-order
returns-in-Ratio-left-clause-order c =
    of_fractions c.args.x.now c.args.y.now c.in-Ratio-left.n c.in-Ratio-left.d c.in-Ratio.m c.in-Ratio.e c.cross_order.result (sym c.in-Ratio-left.is ∙ c.shape-left.ensures.value) (sym c.in-Ratio.is ∙ c.shape.ensures.value) c.shape-left.ensures.canonical c.shape.ensures.canonical c.cross_order.ensures

pub returns-in-Root-left-clause-order : goal.returns-in-Root-left-clause-order
returns-in-Root-left-clause-order c =
    of_root c.args.x.now c.args.y.now _ c.against_root-in-Root-left.result c.reverse.result (root_is c.args.x.now c.in-Root-left.a c.in-Root-left.b c.in-Root-left.c c.in-Root-left.upper (sym c.in-Root-left.is ∙ c.shape-left.ensures.value) c.shape-left.ensures.canonical) c.against_root-in-Root-left.ensures.order c.reverse.ensures
