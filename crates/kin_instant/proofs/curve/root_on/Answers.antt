use Rattle.std.proofs.Common.{◌≡◌, ◌≢◌, ℕ, zero, suc, ◌*◌, ◌<◌, ◌≤◌, ◌^◌, Bool, Option, ℤ, pos, ◌*ℤ◌, unsigned_abs, w64, to_z, of_z, arith, refl, ap, sym, ◌∙◌, subst}
use Rattle.std.specs.Prelude.{◌<ℤ◌, ◌≤ℤ◌}
use Rattle.std.proofs.lemmas.Int.{ints, to_z_pos}
use mir.Val.{hbits}
use lib.Signed.{mag}
use Rattle.kin_num.specs.declared.instant.Shape.{Shape}
use Rattle.kin_num.specs.Quadratic.{Quadratic}
use Rattle.kin_num.specs.Canonical.{discriminant}
use Rattle.kin_instant.specs.declared.roots.Roots.TheVariants.{Nowhere}
use Rattle.kin_instant.specs.Roots.{quadratic}
use Rattle.kin_instant.specs.Sides.{IsRootOn}
use Rattle.kin_instant.proofs.Widths.{clean, read_within, less_out, not_less_out}
use Rattle.kin_instant.proofs.RootsOf.{negative_discriminant}
use Rattle.kin_instant.proofs.Discriminants.{size, root_size, same_discriminant}
use Rattle.kin_instant.proofs.curve.root_on.Goals as goal
use Rattle.kin_instant.proofs.curve.root_on.Goals.{In-Some}

-- the coefficients and the discriminant, as the code has them
record IsRead (p : Quadratic) (a b c d : ℤ) : Type 0 where
  a_is : a ≡ p.a
  b_is : b ≡ p.b
  c_is : c ≡ p.c
  d_is : d ≡ discriminant p.a p.b p.c

abbrev as_read : ℤ → ℤ
as_read x = to_z w64 (of_z w64 x)

read : (p : Quadratic) (a b c d : ℤ) → mag a < 2 ^ hbits w64 → mag b < 2 ^ hbits w64 → mag c < 2 ^ hbits w64 → mag d < 2 ^ hbits w64
    → a ≡ p.a → b ≡ p.b → c ≡ p.c → d ≡ discriminant (as_read a) (as_read b) (as_read c) → IsRead p (as_read a) (as_read b) (as_read c) (as_read d)
read p a b c d fa fb fc fd ea eb ec ed =
    let a_is : as_read a ≡ p.a = clean w64 a fa ∙ ea in
    let b_is : as_read b ≡ p.b = clean w64 b fb ∙ eb in
    let c_is : as_read c ≡ p.c = clean w64 c fc ∙ ec in
    record { a_is = a_is; b_is = b_is; c_is = c_is; d_is = clean w64 d fd ∙ ed ∙ same_discriminant p.a p.b p.c _ _ _ a_is b_is c_is }

read_positive : (x' x : ℤ) → mag x' < 2 ^ hbits w64 → x' ≡ x → pos 0 <ℤ x → pos 0 <ℤ as_read x'
read_positive x' x f e h = subst (λ (z : ℤ). pos 0 <ℤ z) (sym (clean w64 x' f ∙ e)) h

-- the discriminant, at least 0, and its size s
not_negative : (d d' : ℤ) (s : ℕ) → d' ≡ d → pos 0 ≤ℤ d' → s ≡ unsigned_abs d' → pos s ≡ d
not_negative d d' s e h f = omega (arith, ints, e, f)

root_read : (r : ℕ) → r < 2 ^ 32 → to_z w64 r ≡ pos r
root_read r h = to_z_pos w64 r (omega arith)

exact_size : (r s : ℕ) → r * r ≡ s → s < 2 ^ 63 → r < 2 ^ 32
exact_size r s e h = root_size r s (subst (λ (x : ℕ). r * r ≤ x) e (same (r * r))) h
  where
    same : (x : ℕ) → x ≤ x
    same x = omega arith

positive : (s : ℕ) (d : ℤ) → pos s ≡ d → ((k : ℕ) → k * k ≢ s) → pos 0 <ℤ d
positive zero d e n = absurd (n 0 refl)
positive (suc s) d e n = subst (λ (z : ℤ). pos 0 <ℤ z) e (omega (arith, ints))

no_square : (k s : ℕ) (d : ℤ) → pos s ≡ d → pos (k * k) ≡ d → k * k ≡ s
no_square k s d e f = ap unsigned_abs (f ∙ sym e)

same_polynomial : (p : Quadratic) (a b c : ℤ) (u : Bool) (o : Option Shape) → a ≡ p.a → b ≡ p.b → c ≡ p.c → IsRootOn (quadratic a b c) u o → IsRootOn p u o
same_polynomial p a b c u o e f g h =
    subst (λ (x : ℤ). IsRootOn (quadratic x p.b p.c) u o) e (subst (λ (y : ℤ). IsRootOn (quadratic a y p.c) u o) f (subst (λ (z : ℤ). IsRootOn (quadratic a b z) u o) g h))

pub discriminant_of-discriminant-requires-clause-a_small : goal.discriminant_of-discriminant-requires-clause-a_small
discriminant_of-discriminant-requires-clause-a_small c = read_within w64 c.a-a.result (2 ^ 29) c.a-a.ensures.small (omega arith)

pub discriminant_of-discriminant-requires-clause-b_small : goal.discriminant_of-discriminant-requires-clause-b_small
discriminant_of-discriminant-requires-clause-b_small c = read_within w64 c.b-b.result (2 ^ 31) c.b-b.ensures.small (omega arith)

pub discriminant_of-discriminant-requires-clause-c_small : goal.discriminant_of-discriminant-requires-clause-c_small
discriminant_of-discriminant-requires-clause-c_small c = read_within w64 c.c-c.result (2 ^ 29) c.c-c.ensures.small (omega arith)

pub returns-then-discriminant-lt0 : goal.returns-then-discriminant-lt0
returns-then-discriminant-lt0 c =
    let p = c.args.p.now in
    let r = read c.args.p.now _ _ _ _ c.a-a.type_inv c.b-b.type_inv c.c-c.type_inv c.discriminant_of-discriminant.type_inv c.a-a.ensures.value c.b-b.ensures.value c.c-c.ensures.value c.discriminant_of-discriminant.ensures in
    record {
      answer = Nowhere;
      roots = negative_discriminant p.a p.b p.c c.requires.a_positive (subst (λ (z : ℤ). z <ℤ pos 0) r.d_is (less_out _ _ c.if-discriminant-lt0.true));
      same = refl;
    }

small_root : (c : In-Some) → c.in-Some.root < 2 ^ 32
small_root c =
    let p = c.args.p.now in
    let r = read c.args.p.now _ _ _ _ c.a-a.type_inv c.b-b.type_inv c.c-c.type_inv c.discriminant_of-discriminant.type_inv c.a-a.ensures.value c.b-b.ensures.value c.c-c.ensures.value c.discriminant_of-discriminant.ensures in
    let s = not_negative (discriminant p.a p.b p.c) _ c.unsigned_abs.result r.d_is (not_less_out _ _ c.if-discriminant-lt0.false) c.unsigned_abs.ensures.value in
    exact_size c.in-Some.root c.unsigned_abs.result c.in-Some.ensures.some (size p.a p.b p.c c.unsigned_abs.result c.recall_small.ensures s)

pub overflow_cast-root : goal.overflow_cast-root
overflow_cast-root c = let l = small_root c in omega arith

pub rational_root-requires-clause-root_small : goal.rational_root-requires-clause-root_small
rational_root-requires-clause-root_small c = let l = small_root c in subst (λ (z : ℤ). unsigned_abs z < 2 ^ 32) (sym (root_read c.in-Some.root l)) l

pub rational_root-requires-clause-root_positive : goal.rational_root-requires-clause-root_positive
rational_root-requires-clause-root_positive c = subst (λ (z : ℤ). pos 0 ≤ℤ z) (sym (root_read c.in-Some.root (small_root c))) (omega (arith, ints))

pub irrational_root-requires-clause-a_positive : goal.irrational_root-requires-clause-a_positive
irrational_root-requires-clause-a_positive c = read_positive c.a-a.result c.args.p.now.a c.a-a.type_inv c.a-a.ensures.value c.requires.a_positive

pub irrational_root-requires-clause-small : goal.irrational_root-requires-clause-small
irrational_root-requires-clause-small c = record {
  a_small = read_within w64 c.a-a.result (2 ^ 29) c.a-a.ensures.small (omega arith);
  b_small = read_within w64 c.b-b.result (2 ^ 31) c.b-b.ensures.small (omega arith);
  c_small = read_within w64 c.c-c.result (2 ^ 29) c.c-c.ensures.small (omega arith);
}

pub irrational_root-requires-clause-real : goal.irrational_root-requires-clause-real
irrational_root-requires-clause-real c =
    let p = c.args.p.now in
    let r = read c.args.p.now _ _ _ _ c.a-a.type_inv c.b-b.type_inv c.c-c.type_inv c.discriminant_of-discriminant.type_inv c.a-a.ensures.value c.b-b.ensures.value c.c-c.ensures.value c.discriminant_of-discriminant.ensures in
    let s = not_negative (discriminant p.a p.b p.c) _ c.unsigned_abs.result r.d_is (not_less_out _ _ c.if-discriminant-lt0.false) c.unsigned_abs.ensures.value in
    subst (λ (z : ℤ). pos 0 <ℤ z) (sym (same_discriminant p.a p.b p.c _ _ _ r.a_is r.b_is r.c_is)) (positive c.unsigned_abs.result (discriminant p.a p.b p.c) s c.in-None.ensures.none)

pub irrational_root-requires-clause-irrational : goal.irrational_root-requires-clause-irrational
irrational_root-requires-clause-irrational c = λ n e.
    let p = c.args.p.now in
    let r = read c.args.p.now _ _ _ _ c.a-a.type_inv c.b-b.type_inv c.c-c.type_inv c.discriminant_of-discriminant.type_inv c.a-a.ensures.value c.b-b.ensures.value c.c-c.ensures.value c.discriminant_of-discriminant.ensures in
    let s = not_negative (discriminant p.a p.b p.c) _ c.unsigned_abs.result r.d_is (not_less_out _ _ c.if-discriminant-lt0.false) c.unsigned_abs.ensures.value in
    c.in-None.ensures.none n (no_square n c.unsigned_abs.result (discriminant p.a p.b p.c) s (e ∙ same_discriminant p.a p.b p.c _ _ _ r.a_is r.b_is r.c_is))

pub rational_root-requires-clause-square : goal.rational_root-requires-clause-square
rational_root-requires-clause-square c =
    let p = c.args.p.now in
    let r = read c.args.p.now _ _ _ _ c.a-a.type_inv c.b-b.type_inv c.c-c.type_inv c.discriminant_of-discriminant.type_inv c.a-a.ensures.value c.b-b.ensures.value c.c-c.ensures.value c.discriminant_of-discriminant.ensures in
    let s = not_negative (discriminant p.a p.b p.c) _ c.unsigned_abs.result r.d_is (not_less_out _ _ c.if-discriminant-lt0.false) c.unsigned_abs.ensures.value in
    ap (λ (z : ℤ). z *ℤ z) (root_read c.in-Some.root (small_root c)) ∙ ap pos c.in-Some.ensures.some ∙ s

pub returns-in-None : goal.returns-in-None
returns-in-None c =
    let r = read c.args.p.now _ _ _ _ c.a-a.type_inv c.b-b.type_inv c.c-c.type_inv c.discriminant_of-discriminant.type_inv c.a-a.ensures.value c.b-b.ensures.value c.c-c.ensures.value c.discriminant_of-discriminant.ensures in
    same_polynomial c.args.p.now _ _ _ c.args.upper _ r.a_is r.b_is r.c_is c.irrational_root.ensures
