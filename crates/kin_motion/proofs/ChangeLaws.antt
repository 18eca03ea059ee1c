-- What structures report: nothing, one fact in the place of another, and the reports of two parts together.
use Rattle.std.proofs.Common.{◌⊎◌, inl, inr, List, ◌++◌}
use Rattle.std.specs.Prelude.{Contains}
use Rattle.std.proofs.lemmas.List.Elements.{Contains-append_left, Contains-append_right, Contains-append_cases}
use Rattle.kin_motion.specs.declared.fact.Placed.{Placed}
use Rattle.kin_motion.specs.Deltas.{Change}
use Rattle.kin_motion.specs.Kinetics.{HasGained, HasChanged}
use Rattle.kin_motion.proofs.Gains.{gained_none, gained_both}

-- the facts that were there and are not
abbrev pub IsLost : List Placed → List Placed → Placed → Type 0
IsLost old new p = Contains old p × ¬ (Contains new p)

-- where the facts are the same, nothing is reported
pub nothing_changed : (fs : List Placed) (d : Change) → HasChanged fs fs d d
nothing_changed fs d = record { dropped = gained_none d.dropped (IsLost fs fs) (λ p w. w.1 w.0); born = gained_none d.born (IsLost fs fs) (λ p w. w.1 w.0) }

module _ (xs xs' ys ys' : List Placed) (apart : (p : Placed) → Contains xs p ⊎ Contains xs' p → Contains ys p ⊎ Contains ys' p → ⊥) where
  lost-words : (p : Placed) → (IsLost xs xs' p ⊎ IsLost ys ys' p → IsLost (xs ++ ys) (xs' ++ ys') p) × (IsLost (xs ++ ys) (xs' ++ ys') p → IsLost xs xs' p ⊎ IsLost ys ys' p)
  lost-words p = (to, λ w. from w (Contains-append_cases xs ys p w.0))
    where
      to : IsLost xs xs' p ⊎ IsLost ys ys' p → IsLost (xs ++ ys) (xs' ++ ys') p
      to (inl w) = (Contains-append_left xs ys p w.0, λ h. at (Contains-append_cases xs' ys' p h))
        where
          at : Contains xs' p ⊎ Contains ys' p → ⊥
          at (inl h) = w.1 h
          at (inr h) = apart p (inl w.0) (inr h)
      to (inr w) = (Contains-append_right xs ys p w.0, λ h. at (Contains-append_cases xs' ys' p h))
        where
          at : Contains xs' p ⊎ Contains ys' p → ⊥
          at (inl h) = apart p (inr h) (inl w.0)
          at (inr h) = w.1 h

      from : IsLost (xs ++ ys) (xs' ++ ys') p → Contains xs p ⊎ Contains ys p → IsLost xs xs' p ⊎ IsLost ys ys' p
      from w (inl h) = inl (h, λ k. w.1 (Contains-append_left xs' ys' p k))
      from w (inr h) = inr (h, λ k. w.1 (Contains-append_right xs' ys' p k))

  pub both_gained : (first second third : List Placed) → HasGained first second (IsLost xs xs') → HasGained second third (IsLost ys ys') → HasGained first third (IsLost (xs ++ ys) (xs' ++ ys'))
  both_gained first second third = gained_both first second third (IsLost xs xs') (IsLost ys ys') (IsLost (xs ++ ys) (xs' ++ ys')) (λ p w v. apart p (inl w.0) (inl v.0)) lost-words

-- the reports of two parts, one after the other, are the report of both
pub both_changed : (xs xs' ys ys' : List Placed) (c d e : Change) → ((p : Placed) → Contains xs p ⊎ Contains xs' p → Contains ys p ⊎ Contains ys' p → ⊥)
    → HasChanged xs xs' c d → HasChanged ys ys' d e → HasChanged (xs ++ ys) (xs' ++ ys') c e
both_changed xs xs' ys ys' c d e apart g h = record {
  dropped = both_gained xs xs' ys ys' apart c.dropped d.dropped e.dropped g.dropped h.dropped;
  born = both_gained xs' xs ys' ys (λ p a b. apart p (other a) (other b)) c.born d.born e.born g.born h.born;
}
  where
    other : {A B : Type 0} → A ⊎ B → B ⊎ A
    other {A} {B} (inl a) = inr a
    other {A} {B} (inr b) = inl b
