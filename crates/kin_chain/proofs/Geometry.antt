-- Points and directions: who is high along which direction, and what that says of x and of segments.
use Rattle.std.proofs.Common.{◌≡◌, inl, inr, ℕ, sym, ap, ◌∙◌, subst}
use Rattle.kin_algebra.specs.declared.sign.Sign.{Sign}
use Rattle.kin_algebra.specs.declared.sign.Sign.TheVariants.{Minus, Zero, Plus}
use Rattle.kin_algebra.specs.Signs.{opposite_of, product_of, SumMayBe}
use Rattle.kin_algebra.proofs.Signs.{AtLeast, code, product-Plus, product-Zero, zero_from_opposite}
use Rattle.kin_algebra.proofs.OrderedRings.{OrderedRing, scale, nonnegative_sum, nonnegative_product, sum_may_be}
use Rattle.kin_chain.proofs.Comparisons.{way, AtMost, Below, Level, level_most, level_turned, both_most}
use Rattle.kin_algebra.proofs.Vectors.{Vector, cross, anti, three}
use Rattle.kin_chain.proofs.Directions.{two_terms, no_terms}
use Rattle.kin_chain.proofs.Planes.{Places, step, height, rise, fall, bend}

module _ {R : Type 0} (o : OrderedRing R) where
  -- a vector that goes to the right
  pub record Direction : Type 0 where
    pub vector : Vector R
    pub right : o.sign vector.x ≡ Plus

  -- d is at least as steep as e
  pub record Steep (d e : Direction) : Type 0 where
    pub is : AtLeast (o.sign (cross o e.vector d.vector))

  -- d is steeper than e
  pub record Steeper (d e : Direction) : Type 0 where
    pub is : o.sign (cross o e.vector d.vector) ≡ Plus

  -- ---- steepness is transitive
  pub steep_steep : {d e f : Direction} → Steep d e → Steep e f → Steep d f
  steep_steep {d} {e} {f} p q = record { is = two_terms o f.vector e.vector d.vector e.right (inl d.right) q.is (inl f.right) p.is }

  pub steeper_steep : {d e : Direction} → Steeper d e → Steep d e
  steeper_steep {d} {e} p = record { is = inl p.is }

  some_or_none : {d f : Direction} → Steep d f → (o.sign (cross o f.vector d.vector) ≡ Zero → ⊥) → Steeper d f
  some_or_none {d} {f} p n = at p.is
    where
      at : AtLeast (o.sign (cross o f.vector d.vector)) → Steeper d f
      at (inl e) = record { is = e }
      at (inr e) = absurd (n e)

  pub steeper_then : {d e f : Direction} → Steeper d e → Steep e f → Steeper d f
  steeper_then {d} {e} {f} p q = some_or_none (steep_steep (steeper_steep p) q) (λ z. code (sym p.is ∙ (no_terms o f.vector e.vector d.vector d.right q.is f.right (inl p.is) z).1))

  pub then_steeper : {d e f : Direction} → Steep d e → Steeper e f → Steeper d f
  then_steeper {d} {e} {f} p q = some_or_none (steep_steep p (steeper_steep q)) (λ z. code (sym q.is ∙ (no_terms o f.vector e.vector d.vector d.right (inl q.is) f.right p.is z).0))

  module _ (ps : Places o) where
    -- how high along a direction
    abbrev pub up : Direction → ℕ → R
    up d = height o ps d.vector

    -- the direction of a step to the right
    abbrev pub along : (i j : ℕ) → Below o ps.x i j → Direction
    along i j r = record { vector = step o ps i j; right = r.is }

    -- a direction along which a step to the right falls is at least as steep as the step
    pub steep_along : {d : Direction} {i j : ℕ} (r : Below o ps.x i j) → AtMost o (up d) j i → Steep d (along i j r)
    steep_along {d} {i} {j} r p = record { is = subst (λ (a : R). AtLeast (o.sign a)) (fall o ps d.vector i j) p.is }

    pub falls_steeper : {d : Direction} {i j : ℕ} (r : Below o ps.x i j) → Below o (up d) j i → Steeper d (along i j r)
    falls_steeper {d} {i} {j} r p = record { is = ap o.sign (sym (fall o ps d.vector i j)) ∙ p.is }

    pub rises_steeper : {d : Direction} {i j : ℕ} (r : Below o ps.x i j) → Below o (up d) i j → Steeper (along i j r) d
    rises_steeper {d} {i} {j} r p = record { is = ap o.sign (sym (rise o ps d.vector i j)) ∙ p.is }

    -- both ends of a step are level along it
    pub level_ends : (i j : ℕ) → Level o (height o ps (step o ps i j)) i j
    level_ends i j = record { is = ap o.sign (rise o ps (step o ps i j) i j) ∙ zero_from_opposite (o.sign (cross o (step o ps i j) (step o ps i j))) (ap o.sign (anti o (step o ps i j) (step o ps i j)) ∙ o.sign_negative (cross o (step o ps i j) (step o ps i j))) }

    -- a point to the right that is as high along the steeper direction is as high along the flatter one
    pub flatter : {l r : Direction} {c p : ℕ} → Steep l r → AtMost o ps.x c p → AtMost o (up l) c p → AtMost o (up r) c p
    flatter {l} {r} {c} {p} steep right high = record {
      is = subst (λ (a : R). AtLeast (o.sign a)) (sym (rise o ps r.vector c p))
          (two_terms o r.vector l.vector (step o ps c p) l.right right.is steep.is (inl r.right) (subst (λ (a : R). AtLeast (o.sign a)) (rise o ps l.vector c p) high.is));
    }

    -- order of x: what is high along the steeper direction lies to the left of what is high along the flatter one
    pub order_of_x : {e f : Direction} {p q : ℕ} → Steeper e f → AtMost o (up e) q p → AtMost o (up f) p q → AtMost o ps.x p q
    order_of_x {e} {f} {p} {q} steeper high low = record { is = subst AtLeast (sym own) sum }
      where
        v : Vector R
        v = step o ps p q

        own : o.sign (step o ps p q).x ≡ o.sign (o.ring.times (step o ps p q).x (cross o f.vector e.vector))
        own = sym (o.sign_times (step o ps p q).x (cross o f.vector e.vector) ∙ ap (product_of (o.sign (step o ps p q).x)) steeper.is ∙ product-Plus (o.sign (step o ps p q).x))

        sum : AtLeast (o.sign (o.ring.times (step o ps p q).x (cross o f.vector e.vector)))
        sum = subst (λ (a : R). AtLeast (o.sign a)) (sym (three o f.vector (step o ps p q) e.vector))
            (nonnegative_sum o
            (nonnegative_product o {a = e.vector.x} (inl e.right) (subst (λ (a : R). AtLeast (o.sign a)) (rise o ps f.vector p q) low.is))
            (nonnegative_product o {a = f.vector.x} (inl f.right) (subst (λ (a : R). AtLeast (o.sign a)) (fall o ps e.vector p q) high.is)))

    -- straight above is higher along every direction
    pub straight : (e : Direction) {p q : ℕ} → Level o ps.x p q → o.sign (way o (up e) p q) ≡ o.sign (way o ps.y p q)
    unfolding cross
    straight e {p} {q} level = ap o.sign (rise o ps e.vector p q) ∙ first (o.sign (o.ring.times e.vector.x (way o ps.y p q))) _ _ none (sum_may_be o (o.ring.times e.vector.x (way o ps.y p q)) (o.ring.negative (o.ring.times e.vector.y (way o ps.x p q)))) ∙ scale o (way o ps.y p q) e.right
      where
        none : o.sign (o.ring.negative (o.ring.times e.vector.y (way o ps.x p q))) ≡ Zero
        none = o.sign_negative (o.ring.times e.vector.y (way o ps.x p q)) ∙ ap opposite_of (o.sign_times e.vector.y (way o ps.x p q) ∙ ap (product_of (o.sign e.vector.y)) level.is ∙ product-Zero (o.sign e.vector.y))

        first : (t u r : Sign) → u ≡ Zero → SumMayBe t u r → r ≡ t
        first t u r z sum = at t (subst (λ w. SumMayBe t w r) z sum)
          where
            at : (t : Sign) → SumMayBe t Zero r → r ≡ t
            at Minus e = e
            at Zero e = e
            at Plus e = e

    -- coincidence: two points that are level along two directions are at one place
    pub coincide : {e f : Direction} {p q : ℕ} → Steeper e f → Level o (up e) p q → Level o (up f) p q → Level o ps.x p q × Level o ps.y p q
    coincide {e} {f} {p} {q} steeper a b =
        let x : Level o ps.x p q = both_most o (order_of_x steeper (level_most o (level_turned o a)) (level_most o b)) (order_of_x steeper (level_most o a) (level_most o (level_turned o b))) in
        (x, record { is = sym (straight e x) ∙ a.is })

    -- a point that is at most as high as one to the left and one to the right is under their segment
    pub under : (e : Direction) {p q r : ℕ} → Below o ps.x q p → Below o ps.x p r → AtMost o (up e) p q → AtMost o (up e) p r → AtMost o (height o ps (step o ps q r)) p q
    under e {p} {q} {r} left right a b = record {
      is = subst (λ (z : R). AtLeast (o.sign z)) (sym (bend o ps q p r))
          (two_terms o (step o ps q p) e.vector (step o ps p r) e.right (inl right.is)
          (subst (λ (z : R). AtLeast (o.sign z)) (fall o ps e.vector q p) a.is) (inl left.is) (subst (λ (z : R). AtLeast (o.sign z)) (rise o ps e.vector p r) b.is));
    }

    -- middle point: a point under a segment that is as high as both ends is level with them
    pub middle : (e : Direction) {p q r : ℕ} → Below o ps.x q p → Below o ps.x p r → AtMost o (height o ps (step o ps q r)) p q → AtMost o (up e) q p → AtMost o (up e) r p → Level o (up e) q p × Level o (up e) r p
    middle e {p} {q} {r} left right low a b = (
      record { is = ap o.sign (rise o ps e.vector q p) ∙ zeros.1 },
      record { is = ap o.sign (fall o ps e.vector p r) ∙ zeros.0 },
    )
      where
        from_r : AtLeast (o.sign (cross o (step o ps p r) e.vector))
        from_r = subst (λ (z : R). AtLeast (o.sign z)) (fall o ps e.vector p r) b.is

        to_p : AtLeast (o.sign (cross o e.vector (step o ps q p)))
        to_p = subst (λ (z : R). AtLeast (o.sign z)) (rise o ps e.vector q p) a.is

        flat : AtLeast (o.sign (cross o (step o ps q p) (step o ps p r))) → AtLeast (o.sign (cross o (step o ps p r) (step o ps q p))) → o.sign (cross o (step o ps p r) (step o ps q p)) ≡ Zero
        flat (inl e) (inl f) = absurd (code (sym f ∙ ap o.sign (anti o (step o ps q p) (step o ps p r)) ∙ o.sign_negative (cross o (step o ps q p) (step o ps p r)) ∙ ap opposite_of e))
        flat (inr e) (inl f) = absurd (code (sym f ∙ ap o.sign (anti o (step o ps q p) (step o ps p r)) ∙ o.sign_negative (cross o (step o ps q p) (step o ps p r)) ∙ ap opposite_of e))
        flat k (inr f) = f

        zeros : (o.sign (cross o (step o ps p r) e.vector) ≡ Zero) × (o.sign (cross o e.vector (step o ps q p)) ≡ Zero)
        zeros =
            no_terms o (step o ps p r) e.vector (step o ps q p) left.is from_r right.is to_p
            (flat (subst (λ (z : R). AtLeast (o.sign z)) (bend o ps q p r) low.is) (two_terms o (step o ps p r) e.vector (step o ps q p) e.right (inl left.is) from_r (inl right.is) to_p))

    -- ties agree: along parallel directions the same point is higher
    pub parallel : (l r : Direction) (p q : ℕ) → o.sign (cross o l.vector r.vector) ≡ Zero → o.sign (way o (up l) p q) ≡ o.sign (way o (up r) p q)
    parallel l r p q z =
        ap o.sign (rise o ps l.vector p q) ∙ sym (scale o (cross o l.vector (step o ps p q)) r.right) ∙ ap o.sign (three o l.vector r.vector (step o ps p q))
        ∙ second _ (o.sign (o.ring.times l.vector.x (cross o r.vector (step o ps p q)))) _ none (sum_may_be o (o.ring.times (step o ps p q).x (cross o l.vector r.vector)) (o.ring.times l.vector.x (cross o r.vector (step o ps p q))))
        ∙ scale o (cross o r.vector (step o ps p q)) l.right ∙ ap o.sign (sym (rise o ps r.vector p q))
      where
        none : o.sign (o.ring.times (step o ps p q).x (cross o l.vector r.vector)) ≡ Zero
        none = o.sign_times (step o ps p q).x (cross o l.vector r.vector) ∙ ap (product_of (o.sign (step o ps p q).x)) z ∙ product-Zero (o.sign (step o ps p q).x)

        second : (t u r : Sign) → t ≡ Zero → SumMayBe t u r → r ≡ u
        second t u r e sum = subst (λ w. SumMayBe w u r) e sum
