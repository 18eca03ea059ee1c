-- The nearest other point isn't passed over.
use Rattle.std.proofs.Common.{◌≡◌, ◌⊎◌, inl, inr, sym, ap, ◌∙◌, subst, arith, ℕ, ◌<◌, ◌≤◌, min}
use Rattle.std.specs.Prelude.{Some}
use Rattle.std.proofs.Math.Nat.{min-eq_left, min-eq_right}
use Rattle.kin_algebra.specs.declared.sign.Sign.{Sign}
use Rattle.kin_algebra.specs.declared.sign.Sign.TheVariants.{Minus, Zero, Plus}
use Rattle.kin_algebra.specs.Signs.{opposite_of, SumMayBe}
use Rattle.kin_motion.specs.declared.form.Form.TheVariants.{Dist}
use Rattle.kin_motion.specs.Scene.{Scene, IsReal}
use Rattle.kin_motion.proofs.DistanceLaws.{three_ways, real_distance_laws}
use Rattle.kin_near.specs.Hits.{IsWayDown}
use Rattle.kin_near.proofs.OnePlace.{turned, as_far}
use Rattle.kin_nearest.specs.Searches.{IsEnd, IsKept, IsReached}
use Rattle.kin_nearest.proofs.Ending.{end_is_lowest}

-- the sum has the sign of its second part where that of the first is 0
after_none : (t u r : Sign) → SumMayBe t u r → t ≡ Zero → r ≡ u
after_none Zero u r sum e = sum
after_none Minus u r sum e = absurd cc
after_none Plus u r sum e = absurd cc

module _ (s : Scene) (real : IsReal s) (p h e : ℕ) (way : IsWayDown s p h e) where
  -- the end of the way down from h is as far from p as h is
  as_apex : (b : ℕ) → s.sign (Dist p e p b) ≡ s.sign (Dist p h p b)
  as_apex b = after_none _ _ _ ((real_distance_laws s real).chain p e p h p b) (as_far s real e h p (turned s real h e way.there))

  -- the end of a way is a best that may come next
  pub end_ends : IsEnd s p (Some e)
  end_ends = end_is_lowest s real p h e way

  module _ (b : ℕ) (best : IsWayDown s p b b) where
    -- h is nearer than the best: the end is taken
    pub farther_passed : s.sign (Dist p h p b) ≡ Plus → IsKept s p b e
    farther_passed nearer near = absurd (near.nearest e way.live way.other ((real_distance_laws s real).opposite p e p b ∙ ap opposite_of (as_apex b ∙ nearer)))

    -- h is farther away than the best, which stays
    pub nearer_kept : s.sign (Dist p h p b) ≡ Minus → IsReached s p (Some b) h
    nearer_kept farther = (e, way, λ near. absurd (near.nearest b best.live best.other (as_apex b ∙ farther)))

    -- h is as far as the best: of the end and the best the lesser is taken
    module _ (level : s.sign (Dist p h p b) ≡ Zero) (m : ℕ) (lesser : m ≡ min e b) where
      is_end : e ≤ b → m ≡ e
      is_end low = lesser ∙ min-eq_left low

      is_best : b ≤ e → m ≡ b
      is_best low = lesser ∙ min-eq_right low

      pub lesser_ends : IsEnd s p (Some m)
      lesser_ends = at (three_ways e b)
        where
          at : (e < b) ⊎ ((e ≡ b) ⊎ (b < e)) → IsWayDown s p m m
          at (inl less) = subst (λ n. IsWayDown s p n n) (sym (is_end (omega (arith, less)))) end_ends
          at (inr (inl same)) = subst (λ n. IsWayDown s p n n) (sym (is_end (omega (arith, same)))) end_ends
          at (inr (inr more)) = subst (λ n. IsWayDown s p n n) (sym (is_best (omega (arith, more)))) best

      pub lesser_reached : IsReached s p (Some m) h
      lesser_reached = (e, way, λ near. let low : b < e → ⊥ = λ less. near.least b best.live best.other less (as_apex b ∙ level) in is_end (omega (arith, low)))

      pub lesser_kept : IsKept s p b m
      lesser_kept near =
          let back : s.sign (Dist p b p e) ≡ Zero = (real_distance_laws s real).opposite p e p b ∙ ap opposite_of (as_apex b ∙ level) in
          let low : e < b → ⊥ = λ less. near.least e way.live way.other less back in
          is_best (omega (arith, low))
