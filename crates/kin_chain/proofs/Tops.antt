-- What a cell gives is highest of both sets along one of its ends, and stays in both sets together.
use Rattle.std.proofs.Common.{◌≡◌, ◌⊎◌, inl, inr, refl, sym, ap, ◌∙◌, subst, ◌<◌, List, [], ◌∷◌, ◌++◌, ℕ, Bool, true, false, not, ◌&&◌, cond}
use Rattle.std.proofs.lemmas.Bool.{and_parts, not-true}
use Rattle.kin_algebra.specs.declared.sign.Sign.{Sign}
use Rattle.kin_algebra.specs.declared.sign.Sign.TheVariants.{Minus, Zero, Plus}
use Rattle.kin_algebra.specs.Signs.{opposite_of}
use Rattle.kin_algebra.proofs.OrderedRings.{OrderedRing}
use Rattle.kin_motion.specs.Scene.{Scene}
use Rattle.kin_motion.specs.Chains.{is_zero}
use Rattle.kin_motion.specs.Cells.{Cell, above_of, given_by}
use Rattle.kin_motion.specs.Numbers.{IsIn}
use Rattle.kin_motion.proofs.Members.{in_cases, in_left, in_right, in_either}
use Rattle.kin_motion.proofs.ChainLaws.{zero_from}
use Rattle.kin_chain.proofs.Comparisons.{AtMost, Below, Level, turned, most_most, then_below, below_most, level_most}
use Rattle.kin_chain.proofs.Planes.{Places}
use Rattle.kin_chain.proofs.Geometry.{Direction, up}
use Rattle.kin_chain.proofs.Stays.{Stays}
use Rattle.kin_chain.proofs.Highest.{Top, highest_stays, level_stays}
use Rattle.kin_chain.proofs.Ground.{Merging, both}
use Rattle.kin_chain.proofs.CellLaws.{Sound}

-- a set in two parts
pub record IsSplit (all own others : List ℕ) : Type 0 where
  pub part : (i : ℕ) → IsIn i own → IsIn i all
  pub split : (i : ℕ) → IsIn i all → IsIn i own ⊎ IsIn i others

above_cases : (t : Sign) (a b p : ℕ) → IsIn p (above_of t a b) → ((t ≡ Plus) × (p ≡ a)) ⊎ ((t ≡ Minus) × (p ≡ b))
above_cases Plus a b p i = at (in_cases p a [] i)
  where
    at : (p ≡ a) ⊎ IsIn p [] → ((Plus ≡ Plus) × (p ≡ a)) ⊎ ((Plus ≡ Minus) × (p ≡ b))
    at (inl e) = inl (refl, e)
    at (inr k) = absurd cc
above_cases Zero a b p i = absurd cc
above_cases Minus a b p i = at (in_cases p b [] i)
  where
    at : (p ≡ b) ⊎ IsIn p [] → ((Minus ≡ Plus) × (p ≡ a)) ⊎ ((Minus ≡ Minus) × (p ≡ b))
    at (inl e) = inr (refl, e)
    at (inr k) = absurd cc

module _ {R : Type 0} (o : OrderedRing R) (ps : Places o) where
  -- a point that is highest of its own part, and higher than all of the other
  top_of : {all own others : List ℕ} (parts : IsSplit all own others) {p q : ℕ} (d : Direction o) → IsIn p own → Stays o ps own p → ((i : ℕ) → IsIn i own → AtMost o (up o ps d) i p) → ((i : ℕ) → IsIn i others → AtMost o (up o ps d) i q) → Below o (up o ps d) q p
      → Top o ps all d p
  top_of {all} {own} {others} parts {p} {q} d inside stays high low below = record { inside = parts.part p inside; stays = highest_stays o ps d stays all_high apart; high = all_high }
    where
      all_high : (i : ℕ) → IsIn i all → AtMost o (up o ps d) i p
      all_high i k = at (parts.split i k)
        where
          at : IsIn i own ⊎ IsIn i others → AtMost o (up o ps d) i p
          at (inl h) = high i h
          at (inr h) = below_most o (then_below o (low i h) below)

      apart : (i : ℕ) → IsIn i all → IsIn i own ⊎ Below o (up o ps d) i p
      apart i k = at (parts.split i k)
        where
          at : IsIn i own ⊎ IsIn i others → IsIn i own ⊎ Below o (up o ps d) i p
          at (inl h) = inl h
          at (inr h) = inr (then_below o (low i h) below)

  module _ (s : Scene) (m : Merging o ps s) where
    pub a_first : IsSplit (both o ps s m) m.left m.right
    a_first = record { part = λ i k. in_left i m.left m.right k; split = λ i k. in_either i m.left m.right k }

    pub b_first : IsSplit (both o ps s m) m.right m.left
    b_first = record { part = λ i k. in_right i m.left m.right k; split = λ i k. swapped i (in_either i m.left m.right k) }
      where
        swapped : (i : ℕ) → IsIn i m.left ⊎ IsIn i m.right → IsIn i m.right ⊎ IsIn i m.left
        swapped i (inl h) = inr h
        swapped i (inr h) = inl h

    -- highest of both sets
    abbrev pub Highest : Direction o → ℕ → Type 0
    Highest d p = Top o ps (both o ps s m) d p

    module _ {l r : Direction o} (c : Cell) (sound : Sound o ps s m l r c) where
      a_inside : IsIn c.a m.left
      a_inside = m.a_known.inside c.a sound.a_in

      b_inside : IsIn c.b m.right
      b_inside = m.b_known.inside c.b sound.b_in

      pub a_top_left : c.left ≡ Plus → Highest l c.a
      a_top_left e = top_of a_first l a_inside (m.a_known.stays c.a sound.a_in) sound.a_left sound.b_left (record { is = sym sound.left_sign ∙ e })

      pub a_top_right : c.right ≡ Plus → Highest r c.a
      a_top_right e = top_of a_first r a_inside (m.a_known.stays c.a sound.a_in) sound.a_right sound.b_right (record { is = sym sound.right_sign ∙ e })

      pub b_top_left : c.left ≡ Minus → Highest l c.b
      b_top_left e = top_of b_first l b_inside (m.b_known.stays c.b sound.b_in) sound.b_left sound.a_left (record { is = turned o (up o ps l) c.b c.a ∙ ap opposite_of (sym sound.left_sign ∙ e) })

      pub b_top_right : c.right ≡ Minus → Highest r c.b
      b_top_right e = top_of b_first r b_inside (m.b_known.stays c.b sound.b_in) sound.b_right sound.a_right (record { is = turned o (up o ps r) c.b c.a ∙ ap opposite_of (sym sound.right_sign ∙ e) })

      level_high : (d : Direction o) → ((i : ℕ) → IsIn i m.left → AtMost o (up o ps d) i c.a) → ((i : ℕ) → IsIn i m.right → AtMost o (up o ps d) i c.b) → Level o (up o ps d) c.b c.a → (i : ℕ) → IsIn i (both o ps s m) → AtMost o (up o ps d) i c.a
      level_high d high low level i k = at (in_either i m.left m.right k)
        where
          at : IsIn i m.left ⊎ IsIn i m.right → AtMost o (up o ps d) i c.a
          at (inl h) = high i h
          at (inr h) = most_most o (low i h) (level_most o level)

      -- where neither is above at both ends of a wide cell, the point of A is highest along both
      pub level_top : c.left ≡ Zero → c.right ≡ Zero → c.narrow ≡ false → Highest l c.a × Highest r c.a
      level_top e f n = (record { inside = in_left c.a m.left m.right a_inside; stays = stays; high = left_high }, record { inside = in_left c.a m.left m.right a_inside; stays = stays; high = right_high })
        where
          left_high : (i : ℕ) → IsIn i (both o ps s m) → AtMost o (up o ps l) i c.a
          left_high = level_high l sound.a_left sound.b_left (record { is = sym sound.left_sign ∙ e })

          right_high : (i : ℕ) → IsIn i (both o ps s m) → AtMost o (up o ps r) i c.a
          right_high = level_high r sound.a_right sound.b_right (record { is = sym sound.right_sign ∙ f })

          greater : (i : ℕ) → IsIn i m.left ⊎ IsIn i m.right → IsIn i m.left ⊎ (c.a < i)
          greater i (inl h) = inl h
          greater i (inr h) = inr (m.less c.a i a_inside h)

          stays : Stays o ps (both o ps s m) c.a
          stays = level_stays o ps (sound.wide n) (m.a_known.stays c.a sound.a_in) left_high right_high (λ i k. greater i (in_either i m.left m.right k))

      -- kept, then stays
      pub given_top : (p : ℕ) → IsIn p (given_by c) → Highest l p ⊎ Highest r p
      given_top p i = second (in_either p (above_of c.left c.a c.b ++ above_of c.right c.a c.b) (cond (is_zero c.left && is_zero c.right && not c.narrow) (c.a ∷ []) []) i)
        where
          at_left : ((c.left ≡ Plus) × (p ≡ c.a)) ⊎ ((c.left ≡ Minus) × (p ≡ c.b)) → Highest l p
          at_left (inl (e, q)) = subst (Highest l) (sym q) (a_top_left e)
          at_left (inr (e, q)) = subst (Highest l) (sym q) (b_top_left e)

          at_right : ((c.right ≡ Plus) × (p ≡ c.a)) ⊎ ((c.right ≡ Minus) × (p ≡ c.b)) → Highest r p
          at_right (inl (e, q)) = subst (Highest r) (sym q) (a_top_right e)
          at_right (inr (e, q)) = subst (Highest r) (sym q) (b_top_right e)

          level : (t : Bool) → is_zero c.left && is_zero c.right && not c.narrow ≡ t → IsIn p (cond t (c.a ∷ []) []) → Highest l p
          level false e k = absurd cc
          level true e k = at (in_cases p c.a [] k)
            where
              at : (p ≡ c.a) ⊎ IsIn p [] → Highest l p
              at (inr h) = absurd cc
              at (inl q) =
                  let zeros = and_parts (is_zero c.left && is_zero c.right) (not c.narrow) e in
                  let each = and_parts (is_zero c.left) (is_zero c.right) zeros.0 in
                  subst (Highest l) (sym q) (level_top (zero_from each.0) (zero_from each.1) (not-true _ zeros.1)).0

          first : IsIn p (above_of c.left c.a c.b) ⊎ IsIn p (above_of c.right c.a c.b) → Highest l p ⊎ Highest r p
          first (inl k) = inl (at_left (above_cases c.left c.a c.b p k))
          first (inr k) = inr (at_right (above_cases c.right c.a c.b p k))

          second : IsIn p (above_of c.left c.a c.b ++ above_of c.right c.a c.b) ⊎ IsIn p (cond (is_zero c.left && is_zero c.right && not c.narrow) (c.a ∷ []) []) → Highest l p ⊎ Highest r p
          second (inl k) = first (in_either p (above_of c.left c.a c.b) (above_of c.right c.a c.b) k)
          second (inr k) = inl (level (is_zero c.left && is_zero c.right && not c.narrow) refl k)
