-- Each other point is in exactly one octant.
use Rattle.std.proofs.Common.{◌≡◌, ◌≢◌, refl, sym, ap, ◌∙◌, arith, List, [], ◌∷◌, map, ℕ, Bool, true, false, not, ◌&&◌, ℤ, pos, negsuc, ◌+ℤ◌}
use Rattle.std.specs.Prelude.{count_by}
use Rattle.std.proofs.lemmas.Bool.Decides.{nat_tests}
use Rattle.kin_algebra.specs.declared.sign.Sign.{Sign}
use Rattle.kin_algebra.specs.declared.sign.Sign.TheVariants.{Minus, Zero, Plus}
use Rattle.kin_algebra.specs.Signs.{opposite_of, SumMayBe}
use Rattle.kin_motion.specs.declared.form.Form.TheVariants.{Line}
use Rattle.kin_motion.specs.Scene.{Scene}
use Rattle.kin_motion.specs.Orders.{leads, is_before}
use Rattle.kin_motion.specs.Octants.{octants, is_in_octant}
use Rattle.kin_motion.specs.Laws.{HasLineLaws}

turned_leads : (t : Sign) (i j : ℕ) → i ≢ j → leads (opposite_of t) j i ≡ not (leads t i j)
turned_leads Minus i j n = refl
turned_leads Zero i j n = grind (arith, nat_tests, n)
turned_leads Plus i j n = refl

-- before along two directions, then along their sum
leads_along : (t u r : Sign) (i j : ℕ) → SumMayBe t u r → leads t i j ≡ true → leads u i j ≡ true → leads r i j ≡ true
leads_along Minus u r i j sum a b = absurd cc
leads_along Zero u r i j sum a b = ap (λ q. leads q i j) sum ∙ b
leads_along Plus Minus r i j sum a b = absurd cc
leads_along Plus Zero r i j sum a b = ap (λ q. leads q i j) sum
leads_along Plus Plus r i j sum a b = ap (λ q. leads q i j) sum

-- q after p along y, x - y, x and x + y, and p after q likewise: the tests of the eight octants
tests : Bool → Bool → Bool → Bool → Bool → Bool → Bool → Bool → List Bool
tests y d x s y' d' x' s' = (y && d) ∷ (d' && x) ∷ (x' && s) ∷ (s' && y) ∷ (y' && d') ∷ (d && x') ∷ (x && s') ∷ (s && y') ∷ []

both : Bool → Bool → Bool → Type 0
both a b c = a ≡ true → b ≡ true → c ≡ true

one_passes : (y d x s : Bool) → both y d x → both y x s → both (not y) (not d) (not x) → both (not y) (not x) (not s) → count_by (λ b. b) (tests y d x s (not y) (not d) (not x) (not s)) ≡ 1
unfolding tests both
one_passes true true true true a b c e = refl
one_passes true true true false a b c e = absurd (let h = b refl refl in cc)
one_passes true true false s a b c e = absurd (let h = a refl refl in cc)
one_passes true false true true a b c e = refl
one_passes true false true false a b c e = absurd (let h = b refl refl in cc)
one_passes true false false true a b c e = refl
one_passes true false false false a b c e = refl
one_passes false true true true a b c e = refl
one_passes false true true false a b c e = refl
one_passes false true false true a b c e = absurd (let h = e refl refl in cc)
one_passes false true false false a b c e = refl
one_passes false false true s a b c e = absurd (let h = c refl refl in cc)
one_passes false false false true a b c e = absurd (let h = e refl refl in cc)
one_passes false false false false a b c e = refl

module _ (s : Scene) (laws : HasLineLaws s) where
  pub before_turned : (dx dy : ℤ) (i j : ℕ) → i ≢ j → is_before s dx dy j i ≡ not (is_before s dx dy i j)
  before_turned dx dy i j n = ap (λ t. leads t j i) (laws.opposite dx dy i j) ∙ turned_leads (s.sign (Line dx dy (pos 0) i j)) i j n

  pub sum_of : (dx dy ex ey : ℤ) (i j : ℕ) → is_before s dx dy i j ≡ true → is_before s ex ey i j ≡ true → is_before s (dx +ℤ ex) (dy +ℤ ey) i j ≡ true
  sum_of dx dy ex ey i j = leads_along _ _ _ i j (laws.directions dx dy ex ey i j)

  pub in_one_octant : (p q : ℕ) → p ≢ q → count_by (λ b. b) (map (λ o. is_in_octant s o p q) octants) ≡ 1
  unfolding tests both
  in_one_octant p q n =
      let f = λ (dx dy : ℤ). before_turned dx dy p q n in
      let a = sum_of (pos 0) (pos 1) (pos 1) (negsuc 0) p q in
      let b = sum_of (pos 0) (pos 1) (pos 1) (pos 0) p q in
      let c = sum_of (pos 0) (pos 1) (pos 1) (negsuc 0) q p in
      let e = sum_of (pos 0) (pos 1) (pos 1) (pos 0) q p in
      rw (f (pos 0) (pos 1), f (pos 1) (negsuc 0), f (pos 1) (pos 0), f (pos 1) (pos 1))
      (one_passes (is_before s (pos 0) (pos 1) p q) (is_before s (pos 1) (negsuc 0) p q) (is_before s (pos 1) (pos 0) p q) (is_before s (pos 1) (pos 1) p q) a b
      (λ h k. sym (f (pos 1) (pos 0)) ∙ c (f (pos 0) (pos 1) ∙ h) (f (pos 1) (negsuc 0) ∙ k))
      (λ h k. sym (f (pos 1) (pos 1)) ∙ e (f (pos 0) (pos 1) ∙ h) (f (pos 1) (pos 0) ∙ k)))
