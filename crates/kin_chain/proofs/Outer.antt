-- Directions at the outer ends: one that is steeper than every step to the right between points of a set, and one that is flatter.
use Rattle.std.proofs.Common.{◌≡◌, ◌⊎◌, inl, inr, refl, sym, ap, ◌∙◌, subst, List, [], ◌∷◌, ℕ}
use Rattle.kin_algebra.specs.declared.sign.Sign.TheVariants.{Minus, Zero, Plus}
use Rattle.kin_algebra.specs.Signs.{opposite_of}
use Rattle.kin_algebra.proofs.Ring.{by_identity, quotes_in}
use Rattle.kin_algebra.proofs.OrderedRings.{OrderedRing, positive_product, one}
use Rattle.kin_motion.specs.Numbers.{IsIn}
use Rattle.kin_motion.proofs.Members.{in_cases}
use Rattle.kin_chain.proofs.Comparisons.{way, AtMost, Below, not_both, most_or_below}
use Rattle.kin_algebra.proofs.Vectors.{cross, anti}
use Rattle.kin_chain.proofs.Planes.{Places, height, fall}
use Rattle.kin_chain.proofs.Geometry.{Direction, Steep, Steeper, steep_steep, steeper_steep, steeper_then, then_steeper, up, along, falls_steeper}

module _ {R : Type 0} (o : OrderedRing R) where
  -- a steeper direction
  lifted : Direction o → Direction o
  lifted e = record { vector = record { x = e.vector.x; y = o.ring.plus e.vector.y e.vector.x }; right = e.right }

  lifted_steeper : (e : Direction o) → Steeper o (lifted e) e
  unfolding lifted cross
  lifted_steeper e = record { is = ap o.sign square ∙ positive_product o {a = e.vector.x} {b = e.vector.x} e.right e.right }
    where
      square : o.ring.plus (o.ring.times e.vector.x (o.ring.plus e.vector.y e.vector.x)) (o.ring.negative (o.ring.times e.vector.y e.vector.x)) ≡ o.ring.times e.vector.x e.vector.x
      square = by_identity o.ring (e.vector.x ∷ e.vector.y ∷ []) _ _ (search quotes_in depth 20) (search quotes_in depth 20) refl

  -- of two directions one is at least as steep as the other
  steep_or_steeper : (d e : Direction o) → Steep o d e ⊎ Steeper o e d
  steep_or_steeper d e = at (o.sign (cross o e.vector d.vector)) refl
    where
      at : (t : _) → o.sign (cross o e.vector d.vector) ≡ t → Steep o d e ⊎ Steeper o e d
      at Plus f = inl (record { is = inl f })
      at Zero f = inl (record { is = inr f })
      at Minus f = inr (record { is = ap o.sign (anti o e.vector d.vector) ∙ o.sign_negative (cross o e.vector d.vector) ∙ ap opposite_of f })

  pub own_steep : (e : Direction o) → Steep o e e
  own_steep e = at (steep_or_steeper e e)
    where
      at : Steep o e e ⊎ Steeper o e e → Steep o e e
      at (inl p) = p
      at (inr p) = steeper_steep o p

  module _ (ps : Places o) where
    falls : {d : Direction o} {i j : ℕ} (r : Below o ps.x i j) → Steeper o d (along o ps i j r) → Below o (up o ps d) j i
    falls {d} {i} {j} r p = record { is = ap o.sign (fall o ps d.vector i j) ∙ p.is }

    -- every step to the right from i to j falls along d
    abbrev Falls : Direction o → ℕ → ℕ → Type 0
    Falls d i j = Below o ps.x i j → Below o (up o ps d) j i

    falls_too : {d e : Direction o} {i j : ℕ} → Steep o d e → Falls e i j → Falls d i j
    falls_too {d} {e} {i} {j} p f r = falls r (then_steeper o p (falls_steeper o ps r (f r)))

    -- a direction that is at least as steep, and along which this step falls
    steep_enough : (e : Direction o) (i j : ℕ) → (d : Direction o) × Steep o d e × Falls d i j
    steep_enough e i j = at (most_or_below o ps.x j i)
      where
        at : AtMost o ps.x j i ⊎ Below o ps.x i j → (d : Direction o) × Steep o d e × Falls d i j
        at (inl m) = (e, own_steep e, λ r. absurd (not_both o r m))
        at (inr r) = by_steepness (steep_or_steeper (along o ps i j r) e)
          where
            by_steepness : Steep o (along o ps i j r) e ⊎ Steeper o e (along o ps i j r) → (d : Direction o) × Steep o d e × Falls d i j
            by_steepness (inl p) = (lifted (along o ps i j r), steeper_steep o (steeper_then o (lifted_steeper (along o ps i j r)) p), λ r'. falls r (lifted_steeper (along o ps i j r)))
            by_steepness (inr p) = (e, own_steep e, λ r'. falls r p)

    steep_from : (e : Direction o) (i : ℕ) (js : List ℕ) → (d : Direction o) × Steep o d e × ((j : ℕ) → IsIn j js → Falls d i j)
    steep_from e i [] = (e, own_steep e, λ j k. absurd cc)
    steep_from e i (j ∷ js) = at (steep_from e i js)
      where
        at : (d : Direction o) × Steep o d e × ((j : ℕ) → IsIn j js → Falls d i j) → (d : Direction o) × Steep o d e × ((k : ℕ) → IsIn k (j ∷ js) → Falls d i k)
        at (d, p, f) = let n = steep_enough d i j in (n.0, steep_steep o n.1 p, λ k h. by_case k (in_cases k j js h))
          where
            by_case : (k : ℕ) → (k ≡ j) ⊎ IsIn k js → Falls (steep_enough d i j).0 i k
            by_case k (inl q) = subst (λ m. Falls (steep_enough d i j).0 i m) (sym q) (steep_enough d i j).2
            by_case k (inr h) = falls_too (steep_enough d i j).1 (f k h)

    steep_among : (e : Direction o) (is js : List ℕ) → (d : Direction o) × Steep o d e × ((i j : ℕ) → IsIn i is → IsIn j js → Falls d i j)
    steep_among e [] js = (e, own_steep e, λ i j h. absurd cc)
    steep_among e (i ∷ is) js = at (steep_among e is js)
      where
        at : (d : Direction o) × Steep o d e × ((i j : ℕ) → IsIn i is → IsIn j js → Falls d i j) → (d : Direction o) × Steep o d e × ((k j : ℕ) → IsIn k (i ∷ is) → IsIn j js → Falls d k j)
        at (d, p, f) = let n = steep_from d i js in (n.0, steep_steep o n.1 p, λ k j h g. by_case k j g (in_cases k i is h))
          where
            by_case : (k j : ℕ) → IsIn j js → (k ≡ i) ⊎ IsIn k is → Falls (steep_from d i js).0 k j
            by_case k j g (inl q) = subst (λ m. Falls (steep_from d i js).0 m j) (sym q) ((steep_from d i js).2 j g)
            by_case k j g (inr h) = falls_too (steep_from d i js).1 (f k j h g)

  -- x turned round
  turned_x : Places o → Places o
  turned_x ps = record { x = λ i. o.ring.negative (ps.x i); y = ps.y }

  turned_direction : Direction o → Direction o
  turned_direction e = record { vector = record { x = e.vector.x; y = o.ring.negative e.vector.y }; right = e.right }

  module _ (ps : Places o) (set : List ℕ) where
    -- the directions of the outer ends: along the left one a point is higher the farther left it is, along the right one the farther right it is
    pub record Outer : Type 0 where
      pub left : Direction o
      pub right : Direction o
      pub steeper : Steeper o left right
      pub by_left : (i j : ℕ) → IsIn i set → IsIn j set → Below o ps.x i j → Below o (up o ps left) j i
      pub by_right : (i j : ℕ) → IsIn i set → IsIn j set → Below o ps.x i j → Below o (up o ps right) i j

    level_direction : Direction o
    level_direction = record { vector = record { x = one o; y = one o }; right = o.sign_one }

    flat : (d : Direction o) × Steep o d level_direction × ((i j : ℕ) → IsIn i set → IsIn j set → Below o (turned_x ps).x i j → Below o (up o (turned_x ps) d) j i)
    flat = steep_among (turned_x ps) level_direction set set

    turned_up : (d : Direction o) (i : ℕ) → up o ps (turned_direction d) i ≡ up o (turned_x ps) d i
    unfolding height turned_direction turned_x
    turned_up d i = by_identity o.ring (d.vector.x ∷ d.vector.y ∷ ps.x i ∷ ps.y i ∷ []) _ _ (search quotes_in depth 30 fits 40000) (search quotes_in depth 30 fits 40000) refl

    turned_below : (i j : ℕ) → Below o ps.x i j → Below o (turned_x ps).x j i
    unfolding turned_x
    turned_below i j r = record { is = ap o.sign back ∙ r.is }
      where
        back : way o (λ k. o.ring.negative (ps.x k)) j i ≡ way o ps.x i j
        back = by_identity o.ring (ps.x i ∷ ps.x j ∷ []) _ _ (search quotes_in depth 20) (search quotes_in depth 20) refl

    flat_rises : (i j : ℕ) → IsIn i set → IsIn j set → Below o ps.x i j → Below o (up o ps (turned_direction flat.0)) i j
    flat_rises i j h k r =
        let b = flat.2 j i k h (turned_below i j r) in
        record { is = ap o.sign (λ t. o.ring.plus (turned_up flat.0 j t) (o.ring.negative (turned_up flat.0 i t))) ∙ b.is }

    pub outer : Outer
    outer =
        let n = steep_among ps (lifted (turned_direction flat.0)) set set in
        record { left = n.0; right = turned_direction flat.0; steeper = then_steeper o n.1 (lifted_steeper (turned_direction flat.0)); by_left = n.2; by_right = flat_rises }
