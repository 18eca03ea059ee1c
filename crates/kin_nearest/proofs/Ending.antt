-- Each way down ends.
use Rattle.std.proofs.Common.{◌≡◌, ◌≢◌, ◌⊎◌, inl, inr, refl, arith, ℕ, zero, suc, ◌+◌, ◌<◌}
use Rattle.std.specs.Prelude.{Option, Some, None}
use Rattle.std.proofs.lemmas.Bool.{cases_eq}
use Rattle.kin_motion.specs.Numbers.{IsIn}
use Rattle.kin_motion.specs.Scene.{Scene, IsReal}
use Rattle.kin_wedge.specs.Wedging.{Wedging, candidate_told, IsSettledWedging}
use Rattle.kin_near.specs.Candidates.{AreCoincident}
use Rattle.kin_near.specs.Hits.{IsWayDown}
use Rattle.kin_near.proofs.OnePlace.{with_itself, turned, through, together}
use Rattle.kin_nearest.specs.Walks.{IsStepDown, IsLowestFor}
use Rattle.kin_nearest.proofs.Stepping.{lowest_none, lowest_above, lowest_elsewhere, step_down}

module _ (s : Scene) (real : IsReal s) (p : ℕ) where
  -- where no step leads down, the way ends at once
  ends_at_once : (g : ℕ) → IsIn g s.live → g ≢ p → IsLowestFor s p g → IsWayDown s p g g
  ends_at_once g live other lowest = record { live = live; other = other; there = with_itself s real g; down = omega arith; lowest = lowest }

  -- from its end no step leads down
  pub end_is_lowest : (g e : ℕ) → IsWayDown s p g e → IsWayDown s p e e
  end_is_lowest g e way = ends_at_once e way.live way.other (λ i live here less. from (way.lowest i live (through s real g e i way.there here) less))
    where
      from : AreCoincident s g p × (p < e) → AreCoincident s e p × (p < e)
      from k = (through s real e g p (turned s real g e way.there) k.0, k.1)

  -- the way after a step down is the rest of the way
  after_step : (g c e : ℕ) → IsStepDown s p g c → IsWayDown s p c e → IsWayDown s p g e
  after_step g c e step way =
      let less = step.next.less in
      let down = way.down in
      record { live = way.live; other = way.other; there = through s real g c e step.next.there way.there; down = omega (arith, less, down); lowest = λ i live here lower. from (way.lowest i live (through s real c g i (turned s real g c step.next.there) here) lower) }
    where
      from : AreCoincident s c p × (p < e) → AreCoincident s g p × (p < e)
      from k = (through s real g c p step.next.there k.0, k.1)

  module _ (k : Wedging) (settled : IsSettledWedging k s) where
    -- a step leads down from g, or none does
    step_or_none : (g : ℕ) → IsIn g s.live → IsLowestFor s p g ⊎ ((c : ℕ) × IsStepDown s p g c)
    step_or_none g live = at (candidate_told k g 4) refl
      where
        by_place : (c : ℕ) → Some c ≡ candidate_told k g 4 → (c ≡ p) ⊎ (c ≢ p) → AreCoincident s g c ⊎ ¬ (AreCoincident s g c) → IsLowestFor s p g ⊎ ((c : ℕ) × IsStepDown s p g c)
        by_place c e (inl same) here = inl (lowest_above s real k settled p g live c e same)
        by_place c e (inr other) (inl here) = inr (c, step_down s real k settled p g live c e other here)
        by_place c e (inr other) (inr away) = inl (lowest_elsewhere s real k settled p g live c e away)

        at : (answer : Option ℕ) → answer ≡ candidate_told k g 4 → IsLowestFor s p g ⊎ ((c : ℕ) × IsStepDown s p g c)
        at None e = inl (lowest_none s real k settled p g live e)
        at (Some c) e = by_place c e (cases_eq c p) (together s real g c)

    -- from each number below n
    end_below : (n g : ℕ) → g < n → IsIn g s.live → g ≢ p → (e : ℕ) × IsWayDown s p g e
    end_below zero g low live other = absurd (omega (arith, low))
    end_below (suc n) g low live other = at (step_or_none g live) (end_below n)
      where
        at : IsLowestFor s p g ⊎ ((c : ℕ) × IsStepDown s p g c) → ((c : ℕ) → c < n → IsIn c s.live → c ≢ p → (e : ℕ) × IsWayDown s p c e) → (e : ℕ) × IsWayDown s p g e
        at (inl lowest) rest = (g, ends_at_once g live other lowest)
        at (inr (c, step)) rest = let less = step.next.less in on (rest c (omega (arith, low, less)) step.next.live step.other)
          where
            on : (e : ℕ) × IsWayDown s p c e → (e : ℕ) × IsWayDown s p g e
            on (e, way) = (e, after_step g c e step way)

    -- the way down from a live number other than p ends somewhere
    pub way_ends : (g : ℕ) → IsIn g s.live → g ≢ p → (e : ℕ) × IsWayDown s p g e
    way_ends g live other = end_below (g + 1) g (omega arith) live other
