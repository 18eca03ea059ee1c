-- Facts after y is turned round.
use Rattle.std.proofs.Common.{◌≡◌, ◌⊎◌, inl, inr, refl, sym, ap, ◌∙◌, subst, List, [], ◌∷◌, ℕ, zero, suc, Bool, true, false, cond}
use Rattle.std.specs.Prelude.{ℤ, pos, negsuc, ◌+ℤ◌, ◌*ℤ◌, Option}
use lib.IntN.{neg_ℤ}
use Rattle.kin_algebra.proofs.Ring.{by_ring, quotes}
use Rattle.kin_algebra.proofs.Signs.{opposite-opposite}
use Rattle.kin_algebra.specs.declared.sign.Sign.{Sign}
use Rattle.kin_algebra.specs.Signs.{opposite_of}
use Rattle.kin_num.specs.Quadratic.{negated}
use Rattle.kin_motion.specs.declared.form.Form.{Form}
use Rattle.kin_motion.specs.declared.form.Form.TheVariants.{Line, Turn, Slope, Dist}
use Rattle.kin_motion.specs.Course.{Course}
use Rattle.kin_motion.specs.Forms.{x_step, y_step, polynomial_of}
use Rattle.kin_motion.specs.Scene.{Scene, IsReal, reflected_sign}
use Rattle.kin_motion.specs.ReflectedFacts.{is_nothing, changes_sides, IsUpright, ReflectedFactsHold, ReflectedTwiceIsSame}
use Rattle.kin_motion.proofs.RealLaws.{opposite_forms}

upright_one : (dy x y : ℤ) → pos 0 *ℤ x +ℤ neg_ℤ dy *ℤ y ≡ neg_ℤ (pos 0 *ℤ x +ℤ dy *ℤ y)
upright_one dy x y = by_ring (dy ∷ x ∷ y ∷ []) _ _ (search quotes depth 20) (search quotes depth 20) refl

upright_two : (dy x y : ℤ) → pos 0 *ℤ x +ℤ neg_ℤ dy *ℤ y +ℤ pos 0 ≡ neg_ℤ (pos 0 *ℤ x +ℤ dy *ℤ y +ℤ pos 0)
upright_two dy x y = by_ring (dy ∷ x ∷ y ∷ []) _ _ (search quotes depth 20) (search quotes depth 20) refl

upright_line : (ms : List (Option Course)) (dy : ℤ) (i j : ℕ) → polynomial_of ms (Line (pos 0) (neg_ℤ dy) (pos 0) i j) ≡ negated (polynomial_of ms (Line (pos 0) dy (pos 0) i j))
unfolding polynomial_of
upright_line ms dy i j =
    let b = upright_one dy (x_step ms i j).slope (y_step ms i j).slope in
    let c = upright_two dy (x_step ms i j).start (y_step ms i j).start in
    λ t. record { a = pos 0; b = b t; c = c t }

-- the sign in the reflected scene is that of the reflected fact
module _ (s : Scene) (real : IsReal s) where
  pub along_y : (dy : ℤ) (i j : ℕ) → s.sign (Line (pos 0) (neg_ℤ dy) (pos 0) i j) ≡ opposite_of (s.sign (Line (pos 0) dy (pos 0) i j))
  along_y dy i j =
      real.sign (Line (pos 0) (neg_ℤ dy) (pos 0) i j) ∙ opposite_forms real.motions real.moment _ _ (upright_line real.motions dy i j)
      ∙ ap opposite_of (sym (real.sign (Line (pos 0) dy (pos 0) i j)))

  line_sign : (dx dy off : ℤ) (i j : ℕ) → ((dx ≡ pos 0) ⊎ (dy ≡ pos 0)) × (off ≡ pos 0)
      → s.sign (Line dx (neg_ℤ dy) off i j) ≡ cond (cond (is_nothing dy) false true) (opposite_of (s.sign (Line dx dy off i j))) (s.sign (Line dx dy off i j))
  line_sign dx (pos zero) off i j h = refl
  line_sign dx (pos (suc n)) off i j (inl e, f) =
      subst (λ (z : ℤ). s.sign (Line z (neg_ℤ (pos (suc n))) off i j) ≡ opposite_of (s.sign (Line z (pos (suc n)) off i j))) (sym e)
      (subst (λ (z : ℤ). s.sign (Line (pos 0) (neg_ℤ (pos (suc n))) z i j) ≡ opposite_of (s.sign (Line (pos 0) (pos (suc n)) z i j))) (sym f) (along_y (pos (suc n)) i j))
  line_sign dx (pos (suc n)) off i j (inr e, f) = absurd (let g : suc n ≡ 0 = cc in cc)
  line_sign dx (negsuc n) off i j (inl e, f) =
      subst (λ (z : ℤ). s.sign (Line z (neg_ℤ (negsuc n)) off i j) ≡ opposite_of (s.sign (Line z (negsuc n) off i j))) (sym e)
      (subst (λ (z : ℤ). s.sign (Line (pos 0) (neg_ℤ (negsuc n)) z i j) ≡ opposite_of (s.sign (Line (pos 0) (negsuc n) z i j))) (sym f) (along_y (negsuc n) i j))
  line_sign dx (negsuc n) off i j (inr e, f) = absurd cc

  reflected_by_sides : (f : Form) → IsUpright f → reflected_sign s f ≡ cond (changes_sides f) (opposite_of (s.sign f)) (s.sign f)
  reflected_by_sides (Line dx dy off i j) h = line_sign dx dy off i j h
  reflected_by_sides (Turn i j k) h = refl
  reflected_by_sides (Slope i j k l) h = refl
  reflected_by_sides (Dist i j k l) h = refl

sides_once : (b : Bool) (t u : Sign) → cond b (opposite_of t) t ≡ cond b (opposite_of u) u → t ≡ u
sides_once true t u e = sym (opposite-opposite t) ∙ ap opposite_of e ∙ opposite-opposite u
sides_once false t u e = e

sides_twice : (b : Bool) (t : Sign) → cond b (opposite_of (cond b (opposite_of t) t)) (cond b (opposite_of t) t) ≡ t
sides_twice true t = opposite-opposite t
sides_twice false t = refl

pub reflected_facts_hold : ReflectedFactsHold
reflected_facts_hold s f real upright =
    let by_sides = reflected_by_sides s real f.form upright in
    (λ holds. by_sides ∙ ap (λ t. cond (changes_sides f.form) (opposite_of t) t) holds, λ holds. sides_once (changes_sides f.form) (s.sign f.form) f.sign (sym by_sides ∙ holds))

pub reflected_twice : ReflectedTwiceIsSame
reflected_twice f = let e = sides_twice (changes_sides f.form) f.sign in λ t. record { form = f.form; sign = e t }
