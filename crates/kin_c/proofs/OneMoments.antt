-- Equal numbers are those of one moment.
use Rattle.std.proofs.Common.{◌≡◌, refl, sym, ap, ◌∙◌, arith, ℕ, ℤ, Bool, true, false}
use Rattle.kin_num.specs.declared.instant.Moment.{Moment}
use Rattle.kin_num.specs.declared.instant.Phase.{Phase}
use Rattle.kin_num.specs.declared.instant.Phase.TheVariants.{At, After}
use Rattle.kin_num.specs.declared.instant.Shape.{Shape}
use Rattle.kin_num.specs.declared.instant.Shape.TheVariants.{Ratio, Root}
use Rattle.kin_c.specs.declared.moment.KinMoment.{KinMoment}
use Rattle.kin_c.specs.Moments.{instant_numbers, moment_numbers, phase_number, root_kind}

one_phase : (p q : Phase) → phase_number p ≡ phase_number q → p ≡ q
one_phase At At e = refl
one_phase At After e = absurd (omega (arith, e))
one_phase After At e = absurd (omega (arith, e))
one_phase After After e = refl

one_side : (p q : Bool) → root_kind p ≡ root_kind q → p ≡ q
one_side false false e = refl
one_side false true e = absurd (omega (arith, e))
one_side true false e = absurd (omega (arith, e))
one_side true true e = refl

-- no root has the kind of a fraction
not_fraction : (p : Bool) → 0 ≡ root_kind p → ⊥
not_fraction false e = omega (arith, e)
not_fraction true e = omega (arith, e)

not_root : (p : Bool) → root_kind p ≡ 0 → ⊥
not_root false e = omega (arith, e)
not_root true e = omega (arith, e)

one_instant : (s t : Shape) (i j : ℕ) → instant_numbers s i ≡ instant_numbers t j → s ≡ t
one_instant (Ratio n d) (Ratio k e) i j same =
    let a : n ≡ k = ap (λ (x : KinMoment). x.a) same in
    let b : d ≡ e = ap (λ (x : KinMoment). x.b) same in
    (λ t. Ratio (a t) (b t))
one_instant (Ratio n d) (Root a b c upper) i j same = absurd (not_fraction upper (ap (λ (x : KinMoment). x.kind) same))
one_instant (Root a b c upper) (Ratio n d) i j same = absurd (not_root upper (ap (λ (x : KinMoment). x.kind) same))
one_instant (Root a b c upper) (Root d e f lower) i j same =
    let first : a ≡ d = ap (λ (x : KinMoment). x.a) same in
    let second : b ≡ e = ap (λ (x : KinMoment). x.b) same in
    let third : c ≡ f = ap (λ (x : KinMoment). x.c) same in
    let side : upper ≡ lower = one_side upper lower (ap (λ (x : KinMoment). x.kind) same) in
    (λ t. Root (first t) (second t) (third t) (side t))

after_is : (s : Shape) (i : ℕ) → (instant_numbers s i).after ≡ i
after_is (Ratio n d) i = refl
after_is (Root a b c upper) i = refl

pub one_moment : (m n : Moment) → moment_numbers m ≡ moment_numbers n → m ≡ n
one_moment m n same =
    let at = one_instant m.at n.at (phase_number m.phase) (phase_number n.phase) same in
    let number : phase_number m.phase ≡ phase_number n.phase =
    sym (after_is m.at (phase_number m.phase)) ∙ ap (λ (x : KinMoment). x.after) same ∙ after_is n.at (phase_number n.phase) in
    let phase = one_phase m.phase n.phase number in
    (λ t. record { at = at t; phase = phase t })
