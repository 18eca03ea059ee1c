-- The signs of the outer ends say which of two points is higher along the outer directions.
use Rattle.std.proofs.Common.{◌≡◌, refl, sym, ap, ◌∙◌, List, ℕ}
use Rattle.kin_algebra.specs.declared.sign.Sign.{Sign}
use Rattle.kin_algebra.specs.declared.sign.Sign.TheVariants.{Minus, Zero, Plus}
use Rattle.kin_algebra.specs.Signs.{opposite_of, first_of}
use Rattle.kin_algebra.proofs.OrderedRings.{OrderedRing}
use Rattle.kin_motion.specs.Scene.{Scene, x_sign, y_sign}
use Rattle.kin_motion.specs.Cells.{above_left, above_right}
use Rattle.kin_motion.specs.Numbers.{IsIn}
use Rattle.kin_chain.proofs.Comparisons.{way, Below, turned}
use Rattle.kin_chain.proofs.Planes.{Places, Shows}
use Rattle.kin_chain.proofs.Geometry.{Direction, up, straight}
use Rattle.kin_chain.proofs.Outer.{Outer}

module _ {R : Type 0} (o : OrderedRing R) (ps : Places o) (s : Scene) (shows : Shows o s ps) {set : List ℕ} (outer : Outer o ps set) (a b : ℕ) (i : IsIn a set) (j : IsIn b set) where
  -- + where a is higher than b
  abbrev higher : (ℕ → R) → Sign
  higher v = o.sign (way o v b a)

  is_left_of : x_sign s a b ≡ Plus → Below o ps.x a b
  is_left_of e = record { is = sym (shows.x_signs a b) ∙ e }

  is_right_of : x_sign s a b ≡ Minus → Below o ps.x b a
  is_right_of e = record { is = turned o ps.x a b ∙ ap opposite_of (sym (shows.x_signs a b) ∙ e) }

  lower : {v : ℕ → R} → Below o v a b → higher v ≡ Minus
  lower {v} r = turned o v a b ∙ ap opposite_of r.is

  by_y : (d : Direction o) → x_sign s a b ≡ Zero → opposite_of (y_sign s a b) ≡ higher (up o ps d)
  by_y d e = ap opposite_of (shows.y_signs a b ∙ sym (straight o ps d (record { is = sym (shows.x_signs a b) ∙ e }))) ∙ sym (turned o (up o ps d) a b)

  pub left_sign : above_left s a b ≡ higher (up o ps outer.left)
  left_sign = at (x_sign s a b) refl
    where
      at : (t : Sign) → x_sign s a b ≡ t → first_of t (opposite_of (y_sign s a b)) ≡ higher (up o ps outer.left)
      at Plus e = sym (outer.by_left a b i j (is_left_of e)).is
      at Zero e = by_y outer.left e
      at Minus e = sym (lower (outer.by_left b a j i (is_right_of e)))

  pub right_sign : above_right s a b ≡ higher (up o ps outer.right)
  right_sign = at (x_sign s a b) refl
    where
      at : (t : Sign) → x_sign s a b ≡ t → first_of (opposite_of t) (opposite_of (y_sign s a b)) ≡ higher (up o ps outer.right)
      at Plus e = sym (lower (outer.by_right a b i j (is_left_of e)))
      at Zero e = by_y outer.right e
      at Minus e = sym (outer.by_right b a j i (is_right_of e)).is
