-- The root that a line names: there is one where the discriminant is not negative, and no more than one.
use Rattle.std.proofs.Common.{rules, arith, to_z, of_z, w64, ◌≡◌, zero, suc, Bool, true, false, [], ◌∷◌, inl, inr, refl, sym, ap, ◌∙◌, subst, ℤ, pos, negsuc, ◌<ℤ◌, ◌*ℤ◌, ◌↔◌, if◌then◌else◌, ◌≢◌, ◌⊎◌, Some, None}
use Rattle.kin_status.proofs.Vocabulary.{ints, to_z-of_z, opposite_of, product_of, sign_of, Sign, Minus, Plus, Zero, sign_in, sign_of-times, sign_out, IsCanonical, IsCanonicalForm, discriminant, line, sign_at_instant, IsLess, Quadratic, Shape, level_same, less_asym, not_less_itself, AreRootsOf}
use Rattle.kin_status.proofs.Vocabulary.{HasRoot, IsFraction, count_by_signs, Roots, All, Nowhere, One, Two, IsAskedFor, IsRatioInRange, HasNoRoot, IsNamedRoot, IsRootOf, just_at}
use lib.IntN.{neg_ℤ}
use Rattle.kin_algebra.proofs.Ring.{by_ring, quotes}
use Rattle.kin_num.specs.Instants.{sign_at}
use Rattle.kin_num.proofs.SignLaws.{sign_at-neg}
use Rattle.kin_instant.proofs.RootsOf.{fraction_zeros, discriminant-negated}
use Rattle.kin_instant.proofs.Zeros.{instant-negative}
use Rattle.kin_instant.proofs.Existence.{ratio_exists, roots_exist}
use Rattle.kin_instant.proofs.RationalRoots.{line_small}

-- two named roots are one
pub one_named_root : (upper : Bool) (p : Quadratic) (v w : Shape) → IsNamedRoot upper p v → IsNamedRoot upper p w → v ≡ w
one_named_root true p v w a b = level_same v w a.0.canonical.form b.0.canonical.form (a.1 w b.0, b.1 v a.0)
one_named_root false p v w a b = level_same v w a.0.canonical.form b.0.canonical.form (b.1 v a.0, a.1 w b.0)

pub named_root_of : (upper : Bool) (p : Quadratic) (w : Shape) → IsNamedRoot upper p w → IsRootOf p w
named_root_of true p w h = h.0
named_root_of false p w h = h.0

-- what the answer of the roots says
abbrev pub IsExact : Quadratic → Roots → Type 0
IsExact p answer = (w : Shape) → IsCanonicalForm w → (sign_at_instant p w ≡ Zero) ↔ HasRoot answer w

-- the only root is named by both words
alone_named : (upper : Bool) (p : Quadratic) (r : Shape) → IsCanonical r → ((v : Shape) → IsCanonicalForm v → (sign_at_instant p v ≡ Zero) ↔ (v ≡ r)) → IsNamedRoot upper p r
alone_named true p r canonical only = (record { canonical = canonical; zero = (only r canonical.form).1 refl }, λ v h less. not_less_itself r (subst (IsLess r) ((only v h.canonical.form).0 h.zero) less))
alone_named false p r canonical only = (record { canonical = canonical; zero = (only r canonical.form).1 refl }, λ v h less. not_less_itself r (subst (λ (x : Shape). IsLess x r) ((only v h.canonical.form).0 h.zero) less))

-- a fraction is the only root of its line
pub ratio_in_range : (n d : ℤ) (r : Shape) → IsRatioInRange n d → IsFraction n d r → IsCanonical r → IsNamedRoot true (line n d) r
ratio_in_range n d r range same canonical = alone_named true (line n d) r canonical (fraction_zeros n d (omega (arith, ints, range.d_low)) r same canonical)

-- also where its parts were handed on
pub handed_ratio : (n d : ℤ) (r : Shape) → IsRatioInRange n d → IsFraction (to_z w64 (of_z w64 n)) (to_z w64 (of_z w64 d)) r → IsCanonical r → IsNamedRoot true (line n d) r
handed_ratio n d r range same canonical = search (rules, arith, to_z-of_z, range.n_small, range.d_small, ratio_in_range)

module _ (p : Quadratic) (r s : Shape) (canonical : IsCanonical r × IsCanonical s) (exact : IsExact p (Two r s)) (rising : IsLess r s) where
  none_beyond : (Beyond : Shape → Type 0) → ¬ (Beyond r) → ¬ (Beyond s) → (v : Shape) → IsRootOf p v → ¬ (Beyond v)
  none_beyond Beyond not_r not_s v h beyond = search (rules, arith, h.canonical.form, h.zero)

  named : (upper : Bool) → IsNamedRoot upper p (if upper then s else r)
  named true = (record { canonical = canonical.1; zero = (exact s canonical.1.form).1 (inr refl) }, none_beyond (IsLess s) (less_asym r s canonical.0.form canonical.1.form rising) (not_less_itself s))
  named false = (record { canonical = canonical.0; zero = (exact r canonical.0.form).1 (inl refl) }, none_beyond (λ x. IsLess x r) (not_less_itself r) (less_asym r s canonical.0.form canonical.1.form rising))

-- hi names the second of two roots, and lo the first
pub two_named : (upper : Bool) (p q : Quadratic) (r s : Shape) → q ≡ p → IsCanonical r × IsCanonical s → IsExact q (Two r s) → IsLess r s → IsNamedRoot upper p (if upper then s else r)
two_named upper p q r s e canonical exact rising = subst (λ (x : Quadratic). IsNamedRoot upper x (if upper then s else r)) e (named q r s canonical exact rising upper)

no_square : (s : Sign) → product_of s s ≢ Minus
no_square Minus e = cc
no_square s e = cc

-- where there is a root the discriminant is not negative
pub has_root : (a b c : ℤ) (w : Shape) → IsRootOf (record { a = a; b = b; c = c }) w → discriminant a b c <ℤ pos 0 → ⊥
unfolding sign_at
has_root (pos zero) b c w root negative =
    let square : discriminant (pos 0) b c ≡ b *ℤ b = by_ring (b ∷ c ∷ []) _ _ (search quotes depth 20) (search quotes depth 20) refl in
    no_square (sign_of b) (sym (sign_of-times b b) ∙ ap sign_of (sym square) ∙ sign_in Minus (discriminant (pos 0) b c) negative)
has_root (pos (suc n)) b c w root negative =
    let plus = instant-negative w root.canonical.form (pos (suc n)) b c (sign_out Plus (pos (suc n)) refl) negative in
    let clash : Plus ≡ Zero = sym plus ∙ root.zero in cc
has_root (negsuc n) b c w root negative =
    let plus = instant-negative w root.canonical.form (pos (suc n)) (neg_ℤ b) (neg_ℤ c) (sign_out Plus (pos (suc n)) refl) (rw (discriminant-negated (negsuc n) b c) negative) in
    let clash : Plus ≡ Zero = sym plus ∙ sign_at-neg _ (just_at w) ∙ ap opposite_of root.zero in cc

-- a quadratic with a square has a number of roots, and where it has none its discriminant is negative
counted : (a b c d : Sign) → a ≢ Zero → (Some 0 ≡ count_by_signs a b c d → d ≡ Minus) × (None ≡ count_by_signs a b c d → ⊥)
counted Zero b c d some = absurd (some refl)
counted a b c Minus some = (λ e. refl, λ e. absurd cc)
counted a b c d some = (λ e. absurd cc, λ e. absurd cc)

pub root_asked : (upper : Bool) (p : Quadratic) → IsAskedFor upper p → HasNoRoot p ⊎ ((w : Shape) × IsNamedRoot upper p w)
root_asked upper p (inl (n, d, range, is, word)) =
    let positive : pos 0 <ℤ d = omega (arith, ints, range.d_low) in
    let r = ratio_exists n d positive (line_small n d positive (omega (arith, range.n_small)) (omega (arith, range.d_small))) in
    inr (r.0, rw (is, word) (ratio_in_range n d r.0 range r.1 r.2))
root_asked upper p (inr range) = let r = roots_exist p (record { a_small = range.a_small; b_small = range.b_small; c_small = range.c_small }) in by_roots r.0 r.1
  where
    some : sign_of p.a ≢ Zero
    some e = let none : p.a ≡ pos 0 = sign_out Zero p.a e in let size = range.a_not_zero in omega (arith, ints, size, none)

    by_roots : (answer : Roots) → AreRootsOf p answer → HasNoRoot p ⊎ ((w : Shape) × IsNamedRoot upper p w)
    by_roots Nowhere roots = inl (sign_out Minus (discriminant p.a p.b p.c) ((counted (sign_of p.a) (sign_of p.b) (sign_of p.c) (sign_of (discriminant p.a p.b p.c)) some).0 roots.number))
    by_roots (One r) roots = inr (r, alone_named upper p r roots.canonical roots.exact)
    by_roots (Two r s) roots = inr (_, two_named upper p p r s refl roots.canonical roots.exact roots.rising)
    by_roots All roots = absurd ((counted (sign_of p.a) (sign_of p.b) (sign_of p.c) (sign_of (discriminant p.a p.b p.c)) some).1 roots.number)
