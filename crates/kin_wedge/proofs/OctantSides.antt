-- Where the lists are the orders of a scene, who lies in an octant lies in the one that its sides tell.
use Rattle.std.proofs.Common.{◌≡◌, ◌≢◌, refl, sym, ap, ◌∙◌, arith, List, ℕ, zero, suc, ◌<◌, Bool, true, false, not, cond, Some, pos, negsuc}
use Rattle.std.specs.Prelude.{slice_get}
use Rattle.std.proofs.lemmas.Bool.{and_parts, not-true}
use Rattle.std.proofs.lemmas.Option.{same_Some}
use Rattle.kin_motion.specs.Scene.{Scene}
use Rattle.kin_motion.specs.Orders.{is_before}
use Rattle.kin_motion.specs.Octants.{Octant, octants, forward, is_in_octant}
use Rattle.kin_motion.specs.Laws.{HasLineLaws}
use Rattle.kin_motion.proofs.OctantLaws.{before_turned, sum_of}
use Rattle.kin_wedge.specs.Rows.{AreOrders}
use Rattle.kin_wedge.specs.Sides.{AreParted}
use Rattle.kin_wedge.proofs.Scenes.{as_read, in_octant}

abbrev tree : Bool → Bool → Bool → Bool → ℕ
tree y d x t = cond y (cond d 0 (cond x 1 (cond t 2 3))) (cond d (cond x (cond t 7 6) 5) 4)

never : {A : Type 0} (b : Bool) → b ≡ true → b ≡ false → A
never true e f = absurd cc
never false e f = absurd cc

-- by the octant's two borders, and what the others then are
at-0 : (y d x t : Bool) → y ≡ true → d ≡ true → tree y d x t ≡ 0
at-0 true true x t e f = refl
at-0 true false x t e f = absurd cc
at-0 false d x t e f = absurd cc

at-1 : (y d x t : Bool) → (y ≡ false → d ≡ false → x ≡ false) → d ≡ false → x ≡ true → tree y d x t ≡ 1
at-1 true true x t a e f = absurd cc
at-1 true false true t a e f = refl
at-1 true false false t a e f = absurd cc
at-1 false d x t a e f = never x f (a refl e)

at-2 : (y d x t : Bool) → (y ≡ true → d ≡ true → x ≡ true) → (y ≡ false → x ≡ false → t ≡ false) → x ≡ false → t ≡ true → tree y d x t ≡ 2
at-2 true true x t a b e f = never x (a refl refl) e
at-2 true false true t a b e f = absurd cc
at-2 true false false true a b e f = refl
at-2 true false false false a b e f = absurd cc
at-2 false d x t a b e f = never t f (b refl e)

at-3 : (y d x t : Bool) → (y ≡ true → d ≡ true → x ≡ true) → (y ≡ true → x ≡ true → t ≡ true) → t ≡ false → y ≡ true → tree y d x t ≡ 3
at-3 true d true t a b e f = never t (b refl refl) e
at-3 true true false t a b e f = never false (a refl refl) refl
at-3 true false false true a b e f = absurd cc
at-3 true false false false a b e f = refl
at-3 false d x t a b e f = absurd cc

at-4 : (y d x t : Bool) → y ≡ false → d ≡ false → tree y d x t ≡ 4
at-4 true d x t e f = absurd cc
at-4 false true x t e f = absurd cc
at-4 false false x t e f = refl

at-5 : (y d x t : Bool) → (y ≡ true → d ≡ true → x ≡ true) → d ≡ true → x ≡ false → tree y d x t ≡ 5
at-5 true d x t a e f = never x (a refl e) f
at-5 false true true t a e f = absurd cc
at-5 false true false t a e f = refl
at-5 false false x t a e f = absurd cc

at-6 : (y d x t : Bool) → (y ≡ true → x ≡ true → t ≡ true) → (y ≡ false → d ≡ false → x ≡ false) → x ≡ true → t ≡ false → tree y d x t ≡ 6
at-6 true d x t a b e f = never t (a refl e) f
at-6 false false x t a b e f = never x e (b refl refl)
at-6 false true false t a b e f = absurd cc
at-6 false true true true a b e f = absurd cc
at-6 false true true false a b e f = refl

at-7 : (y d x t : Bool) → (y ≡ false → d ≡ false → x ≡ false) → (y ≡ false → x ≡ false → t ≡ false) → t ≡ true → y ≡ false → tree y d x t ≡ 7
at-7 true d x t a b e f = absurd cc
at-7 false d false t a b e f = never t e (b refl refl)
at-7 false false true t a b e f = never true refl (a refl refl)
at-7 false true true true a b e f = refl
at-7 false true true false a b e f = absurd cc

module _ (s : Scene) (laws : HasLineLaws s) (p q : ℕ) (n : p ≢ q) where
  y : Bool
  y = is_before s (pos 0) (pos 1) p q

  d : Bool
  d = is_before s (pos 1) (negsuc 0) p q

  x : Bool
  x = is_before s (pos 1) (pos 0) p q

  t : Bool
  t = is_before s (pos 1) (pos 1) p q

  a1 : y ≡ true → d ≡ true → x ≡ true
  unfolding y d x
  a1 = sum_of s laws (pos 0) (pos 1) (pos 1) (negsuc 0) p q

  a2 : y ≡ true → x ≡ true → t ≡ true
  unfolding y x t
  a2 = sum_of s laws (pos 0) (pos 1) (pos 1) (pos 0) p q

  a3 : y ≡ false → d ≡ false → x ≡ false
  unfolding y d x
  a3 e f = not-true _ (sym (before_turned s laws (pos 1) (pos 0) p q n) ∙ sum_of s laws (pos 0) (pos 1) (pos 1) (negsuc 0) q p (before_turned s laws (pos 0) (pos 1) p q n ∙ ap not e) (before_turned s laws (pos 1) (negsuc 0) p q n ∙ ap not f))

  a4 : y ≡ false → x ≡ false → t ≡ false
  unfolding y x t
  a4 e f = not-true _ (sym (before_turned s laws (pos 1) (pos 1) p q n) ∙ sum_of s laws (pos 0) (pos 1) (pos 1) (pos 0) q p (before_turned s laws (pos 0) (pos 1) p q n ∙ ap not e) (before_turned s laws (pos 1) (pos 0) p q n ∙ ap not f))

  there : (o r : Octant) (w : ℕ) → Some r ≡ Some o → (is_in_octant s r p q ≡ true → tree y d x t ≡ w) → is_in_octant s o p q ≡ true → tree y d x t ≡ w
  there o r w e f h = f (ap (λ (v : Octant). is_in_octant s v p q) (same_Some r o e) ∙ h)

  octant_told : (w : ℕ) (o : Octant) → slice_get octants w ≡ Some o → is_in_octant s o p q ≡ true → tree y d x t ≡ w
  unfolding y d x t
  octant_told zero o e = there o _ _ e (λ h. at-0 y d x t (and_parts _ _ h).0 (and_parts _ _ h).1)
  octant_told (suc zero) o e = there o _ _ e (λ h. at-1 y d x t a3 (not-true _ (sym (before_turned s laws (pos 1) (negsuc 0) p q n) ∙ (and_parts _ _ h).0)) (and_parts _ _ h).1)
  octant_told (suc (suc zero)) o e = there o _ _ e (λ h. at-2 y d x t a1 a4 (not-true _ (sym (before_turned s laws (pos 1) (pos 0) p q n) ∙ (and_parts _ _ h).0)) (and_parts _ _ h).1)
  octant_told (suc (suc (suc zero))) o e = there o _ _ e (λ h. at-3 y d x t a1 a2 (not-true _ (sym (before_turned s laws (pos 1) (pos 1) p q n) ∙ (and_parts _ _ h).0)) (and_parts _ _ h).1)
  octant_told (suc (suc (suc (suc zero)))) o e = there o _ _ e (λ h. at-4 y d x t (not-true _ (sym (before_turned s laws (pos 0) (pos 1) p q n) ∙ (and_parts _ _ h).0)) (not-true _ (sym (before_turned s laws (pos 1) (negsuc 0) p q n) ∙ (and_parts _ _ h).1)))
  octant_told (suc (suc (suc (suc (suc zero))))) o e = there o _ _ e (λ h. at-5 y d x t a1 (and_parts _ _ h).0 (not-true _ (sym (before_turned s laws (pos 1) (pos 0) p q n) ∙ (and_parts _ _ h).1)))
  octant_told (suc (suc (suc (suc (suc (suc zero)))))) o e = there o _ _ e (λ h. at-6 y d x t a2 a3 (and_parts _ _ h).0 (not-true _ (sym (before_turned s laws (pos 1) (pos 1) p q n) ∙ (and_parts _ _ h).1)))
  octant_told (suc (suc (suc (suc (suc (suc (suc zero))))))) o e = there o _ _ e (λ h. at-7 y d x t a3 a4 (and_parts _ _ h).0 (not-true _ (sym (before_turned s laws (pos 0) (pos 1) p q n) ∙ (and_parts _ _ h).1)))
  octant_told (suc (suc (suc (suc (suc (suc (suc (suc w)))))))) o e = absurd cc

module _ (s : Scene) (laws : HasLineLaws s) (rows : List (List ℕ)) (orders : AreOrders s rows) where
  pub parted : AreParted rows
  unfolding y d x t
  parted w p q o sides e are h =
      let l = in_octant s laws rows orders w o e p q h in
      let read = λ (k : ℕ) (small : k < 8). as_read s laws rows orders (forward k) p q small l.2 l.0 l.1 in
      let ey = are.y ∙ read 0 (omega arith) in
      let ed = are.difference ∙ read 1 (omega arith) in
      let ex = are.x ∙ read 2 (omega arith) in
      let et = are.sum ∙ read 3 (omega arith) in
      ap (λ b. tree b sides.difference sides.x sides.sum) ey ∙ ap (λ b. tree (y s laws p q l.2) b sides.x sides.sum) ed ∙ ap (λ b. tree (y s laws p q l.2) (d s laws p q l.2) b sides.sum) ex ∙ ap (λ b. tree (y s laws p q l.2) (d s laws p q l.2) (x s laws p q l.2) b) et
      ∙ octant_told s laws p q l.2 w o e l.3
