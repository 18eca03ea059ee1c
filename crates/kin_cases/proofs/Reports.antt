-- The facts of a structure before and after a report.
use Rattle.std.proofs.Common.{◌≡◌, ◌⊎◌, inl, inr, sym, ◌∙◌, subst, List, [], ◌++◌, Bool}
use Rattle.std.specs.Prelude.{Contains, IsFalse}
use Rattle.kin_motion.specs.declared.fact.Placed.{Placed}
use Rattle.kin_motion.specs.Deltas.{Change}
use Rattle.kin_motion.specs.Kinetics.{HasChanged, ListsFailing}
use Rattle.kin_motion.specs.Scene.{Scene, Holds}
use Rattle.kin_motion.specs.Sets.{ListsExactly}
use Rattle.kin_motion.proofs.SetLaws.{exactly_both, exactly_in_words}
use Rattle.kin_fail.proofs.SamePlaced.{there_or_not}

-- the facts without the dropped ones, and with the born ones, are the new ones
pub facts_after : (facts kept old new : List Placed) (report : Change) → ListsExactly facts (Contains old)
    → HasChanged old new (record { dropped = []; born = [] }) report
    → ListsExactly kept (λ p. Contains facts p × ¬ (Contains report.dropped p))
    → ListsExactly (kept ++ report.born) (Contains new)
facts_after facts kept old new report told change stay =
    exactly_in_words (kept ++ report.born) _ _ (λ p. (to p, λ h. from p h (there_or_not old p)))
    (exactly_both kept report.born _ (λ p. Contains new p × ¬ (Contains old p)) stay born (λ p s b. b.1 ((told.each p).0 s.0)))
  where
    born : ListsExactly report.born (λ p. Contains new p × ¬ (Contains old p))
    born = subst (λ (fs : List Placed). ListsExactly fs (λ p. Contains new p × ¬ (Contains old p))) (sym change.born.joined) change.born.exactly

    dropped : ListsExactly report.dropped (λ p. Contains old p × ¬ (Contains new p))
    dropped = subst (λ (fs : List Placed). ListsExactly fs (λ p. Contains old p × ¬ (Contains new p))) (sym change.dropped.joined) change.dropped.exactly

    to : (p : Placed) → (Contains facts p × ¬ (Contains report.dropped p)) ⊎ (Contains new p × ¬ (Contains old p)) → Contains new p
    to p (inl s) = at (there_or_not new p)
      where
        at : Contains new p ⊎ (¬ (Contains new p)) → Contains new p
        at (inl h) = h
        at (inr n) = absurd (s.1 ((dropped.each p).1 ((told.each p).0 s.0, n)))
    to p (inr b) = b.0

    from : (p : Placed) → Contains new p → Contains old p ⊎ (¬ (Contains old p)) → (Contains facts p × ¬ (Contains report.dropped p)) ⊎ (Contains new p × ¬ (Contains old p))
    from p h (inl o) = inl ((told.each p).1 o, λ d. ((dropped.each p).0 d).1 h)
    from p h (inr n) = inr (h, n)

-- the facts that fail are handed over
pub lists_failing : (s s' : Scene) (listed facts failed handed : List Placed) (spared spared' : Placed → Bool)
    → s' ≡ s → handed ≡ failed → ((p : Placed) → spared p ≡ spared' p) → ListsExactly listed (Contains facts)
    → ListsExactly failed (λ p. Contains listed p × (IsFalse (spared p) × ¬ (Holds s' p.fact)))
    → ListsFailing facts spared' s handed
lists_failing s s' listed facts failed handed spared spared' scene same_list same told fail =
    subst (λ (fs : List Placed). ListsFailing facts spared' s fs) (sym same_list) (exactly_in_words failed _ _ (λ p. (to p, from p)) fail)
  where
    to : (p : Placed) → Contains listed p × (IsFalse (spared p) × ¬ (Holds s' p.fact)) → Contains facts p × IsFalse (spared' p) × ¬ (Holds s p.fact)
    to p w = ((told.each p).0 w.0, sym (same p) ∙ w.1.0, λ h. w.1.1 (subst (λ (v : Scene). Holds v p.fact) (sym scene) h))

    from : (p : Placed) → Contains facts p × IsFalse (spared' p) × ¬ (Holds s p.fact) → Contains listed p × (IsFalse (spared p) × ¬ (Holds s' p.fact))
    from p w = ((told.each p).1 w.0, (same p ∙ w.1, λ h. w.2 (subst (λ (v : Scene). Holds v p.fact) scene h)))
