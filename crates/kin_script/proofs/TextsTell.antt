-- Canonical instants, and moments, with the same printed text are the same.
use Rattle.std.proofs.Common.{◌≡◌, inl, inr, ℕ, ◌≤◌, ◌^◌, ◌==◌, Bool, true, false, cond, ℤ, pos, unsigned_abs, List, [], ◌∷◌, ◌++◌, refl, sym, ap, ap₂, ◌∙◌, arith}
use Rattle.std.specs.Prelude.{codes, ◌<ℤ◌}
use Rattle.std.specs.Fmt.{signed_decimal}
use Rattle.std.proofs.lemmas.Bool.Decides.{nat_tests}
use Rattle.std.proofs.lemmas.Int.{ints}
use Rattle.std.proofs.lemmas.List.{append_assoc}
use Rattle.kin_num.specs.declared.instant.Shape.{Shape}
use Rattle.kin_num.specs.declared.instant.Shape.TheVariants.{Ratio, Root}
use Rattle.kin_num.specs.declared.instant.Phase.{Phase}
use Rattle.kin_num.specs.declared.instant.Phase.TheVariants.{At, After}
use Rattle.kin_num.specs.Canonical.{IsCanonical}
use Rattle.kin_script.specs.Printed.{instant_text, phase_text, ratio_text, root_text, side_text, TextsTellInstants, TextsTellMoments}
use Rattle.kin_script.proofs.PrintedNumbers.{IsBehind, not_of_number, cut_numbers, cut, of_number, not_empty}

-- what stands behind the numerator of a fraction
abbrev divisor_text : Bool → ℤ → List ℕ
divisor_text true d = []
divisor_text false d = 47 ∷ signed_decimal d

abbrev Same : Shape → Shape → Phase → Phase → Type 0
Same v w p q = (v ≡ w) × (p ≡ q)

-- two texts with different first bytes differ
apart : (b c : ℕ) (us vs : List ℕ) → (b ≡ c → ⊥) → b ∷ us ≡ c ∷ vs → ⊥
apart b c us vs h e = h (let first : b ≡ c = cc in first)

behind_phase : (p : Phase) → IsBehind (phase_text p)
behind_phase At = tt
behind_phase After = not_of_number 43 (inl (omega arith))

same_phase : (p q : Phase) → phase_text p ≡ phase_text q → p ≡ q
same_phase At At e = refl
same_phase At After e = absurd cc
same_phase After At e = absurd cc
same_phase After After e = refl

ratio_moment : (n d : ℤ) (p : Phase) → ratio_text n d ++ phase_text p ≡ signed_decimal n ++ (divisor_text (unsigned_abs d == 1) d ++ phase_text p)
ratio_moment n d p = at (unsigned_abs d == 1)
  where
    at : (t : Bool) → cond t (signed_decimal n) (signed_decimal n ++ codes "/" ++ signed_decimal d) ++ phase_text p ≡ signed_decimal n ++ (divisor_text t d ++ phase_text p)
    at true = refl
    at false = simp append_assoc

behind_fraction : (t : Bool) (d : ℤ) (p : Phase) → IsBehind (divisor_text t d ++ phase_text p)
behind_fraction true d p = behind_phase p
behind_fraction false d p = not_of_number 47 (inr (inl refl))

-- what stands behind the numerator tells the denominator and the phase
tails : (t u : Bool) (d e : ℤ) (p q : Phase) → unsigned_abs d ≤ 2 ^ 31 → unsigned_abs e ≤ 2 ^ 31 → divisor_text t d ++ phase_text p ≡ divisor_text u e ++ phase_text q → (t ≡ u) × (t ≡ false → d ≡ e) × (p ≡ q)
tails true true d e p q h k x = (refl, λ f. absurd cc, same_phase p q x)
tails true false d e At q h k x = absurd cc
tails true false d e After q h k x = absurd (apart 43 47 _ _ (λ f. omega arith) x)
tails false true d e p At h k x = absurd cc
tails false true d e p After h k x = absurd (apart 47 43 _ _ (λ f. omega arith) x)
tails false false d e p q h k x =
    let rest : signed_decimal d ++ phase_text p ≡ signed_decimal e ++ phase_text q = cc in
    let c = cut_numbers d e (phase_text p) (phase_text q) h k (behind_phase p) (behind_phase q) rest in
    (refl, λ f. c.0, same_phase p q c.1)

-- a denominator that isn't printed is 1
one : (d e : ℤ) → pos 0 <ℤ d → pos 0 <ℤ e → (unsigned_abs d == 1) ≡ (unsigned_abs e == 1) → ((unsigned_abs d == 1) ≡ false → d ≡ e) → d ≡ e
one d e h k same other = at (unsigned_abs d == 1) refl
  where
    at : (t : Bool) → (unsigned_abs d == 1) ≡ t → d ≡ e
    at true f =
        let x : unsigned_abs d ≡ 1 = grind (arith, nat_tests) in
        let y : unsigned_abs e ≡ 1 = grind (arith, nat_tests) in
        omega (arith, ints)
    at false f = other f

fractions : (n d m e : ℤ) (p q : Phase) → IsCanonical (Ratio n d) → IsCanonical (Ratio m e) → ratio_text n d ++ phase_text p ≡ ratio_text m e ++ phase_text q → Same (Ratio n d) (Ratio m e) p q
fractions n d m e p q h k x =
    let y = sym (ratio_moment n d p) ∙ x ∙ ratio_moment m e q in
    let c = cut_numbers n m _ _ h.small.n_small k.small.n_small (behind_fraction (unsigned_abs d == 1) d p) (behind_fraction (unsigned_abs e == 1) e q) y in
    let t = tails (unsigned_abs d == 1) (unsigned_abs e == 1) d e p q h.small.d_small k.small.d_small c.1 in
    (ap₂ Ratio c.0 (one d e h.form.positive k.form.positive t.0 t.1), t.2)

-- ---- a root
root_moment : (a b c : ℤ) (upper : Bool) (p : Phase) → root_text a b c upper ++ phase_text p
    ≡ 114 ∷ 40 ∷ (signed_decimal a ++ 44 ∷ (signed_decimal b ++ 44 ∷ (signed_decimal c ++ 44 ∷ (side_text upper ++ 41 ∷ phase_text p))))
root_moment a b c upper p = simp append_assoc

sides : (u v : Bool) (p q : Phase) → side_text u ++ 41 ∷ phase_text p ≡ side_text v ++ 41 ∷ phase_text q → (u ≡ v) × (p ≡ q)
sides true true p q x = (refl, same_phase p q (let y : phase_text p ≡ phase_text q = cc in y))
sides false false p q x = (refl, same_phase p q (let y : phase_text p ≡ phase_text q = cc in y))
sides true false p q x = absurd (apart 104 108 _ _ (λ f. omega arith) x)
sides false true p q x = absurd (apart 108 104 _ _ (λ f. omega arith) x)

comma : (us : List ℕ) → IsBehind (44 ∷ us)
comma us = not_of_number 44 (inl (omega arith))

coefficient : (y z : ℤ) (us vs : List ℕ) → unsigned_abs y ≤ 2 ^ 31 → unsigned_abs z ≤ 2 ^ 31 → signed_decimal y ++ 44 ∷ us ≡ signed_decimal z ++ 44 ∷ vs → (y ≡ z) × (us ≡ vs)
coefficient y z us vs h k x =
    let c = cut_numbers y z (44 ∷ us) (44 ∷ vs) h k (comma us) (comma vs) x in
    let e : 44 ∷ us ≡ 44 ∷ vs = c.1 in
    let rest : us ≡ vs = cc in
    (c.0, rest)

roots : (a b c : ℤ) (u : Bool) (x y z : ℤ) (v : Bool) (p q : Phase) → IsCanonical (Root a b c u) → IsCanonical (Root x y z v) → root_text a b c u ++ phase_text p ≡ root_text x y z v ++ phase_text q → Same (Root a b c u) (Root x y z v) p q
roots a b c u x y z v p q h k e =
    let f = sym (root_moment a b c u p) ∙ e ∙ root_moment x y z v q in
    let g : signed_decimal a ++ 44 ∷ (signed_decimal b ++ 44 ∷ (signed_decimal c ++ 44 ∷ (side_text u ++ 41 ∷ phase_text p))) ≡ signed_decimal x ++ 44 ∷ (signed_decimal y ++ 44 ∷ (signed_decimal z ++ 44 ∷ (side_text v ++ 41 ∷ phase_text q))) = cc in
    let first = coefficient a x _ _ (near a h.small.a_small) (near x k.small.a_small) g in
    let second = coefficient b y _ _ h.small.b_small k.small.b_small first.1 in
    let third = coefficient c z _ _ (near c h.small.c_small) (near z k.small.c_small) second.1 in
    let last = sides u v p q third.1 in
    let i : a ≡ x = first.0 in
    let j : b ≡ y = second.0 in
    let l : c ≡ z = third.0 in
    let m : u ≡ v = last.0 in
    let same : Root a b c u ≡ Root x y z v = cc in
    (same, last.1)
  where
    near : (z : ℤ) → unsigned_abs z ≤ 2 ^ 29 → unsigned_abs z ≤ 2 ^ 31
    near z h = omega arith

-- ---- a fraction is no root
letter : (us : List ℕ) → IsBehind (114 ∷ us)
letter us = not_of_number 114 (inr (inr (omega arith)))

mixed : (n d : ℤ) (p : Phase) (us : List ℕ) → IsCanonical (Ratio n d) → ratio_text n d ++ phase_text p ≡ 114 ∷ us → ⊥
mixed n d p us h e =
    let y = sym (ratio_moment n d p) ∙ e in
    let c = cut (signed_decimal n) [] _ (114 ∷ us) (of_number n h.small.n_small) tt (behind_fraction (unsigned_abs d == 1) d p) (letter us) y in
    not_empty n h.small.n_small c.0

same : (v w : Shape) (p q : Phase) → IsCanonical v → IsCanonical w → instant_text v ++ phase_text p ≡ instant_text w ++ phase_text q → Same v w p q
same (Ratio n d) (Ratio m e) p q h k x = fractions n d m e p q h k x
same (Ratio n d) (Root a b c u) p q h k x = absurd (mixed n d p _ h (x ∙ root_moment a b c u q))
same (Root a b c u) (Ratio n d) p q h k x = absurd (mixed n d q _ k (sym x ∙ root_moment a b c u p))
same (Root a b c u) (Root x y z v) p q h k e = roots a b c u x y z v p q h k e

pub texts_tell_moments : TextsTellMoments
texts_tell_moments m n h k e =
    let s = same m.at n.at m.phase n.phase h k e in
    ap₂ (λ w p. record { at = w; phase = p }) s.0 s.1

pub texts_tell_instants : TextsTellInstants
texts_tell_instants v w h k e = (same v w At At h k (ap (λ (t : List ℕ). t ++ []) e)).0
