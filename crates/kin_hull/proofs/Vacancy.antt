-- A hull without points.
use Rattle.std.proofs.Common.{◌≡◌, inl, inr, refl, sym, ap, ◌∙◌, subst, List, [], ◌++◌, ℕ, ◌^◌, ◌≤◌, Bool, false, map}
use Rattle.std.specs.Prelude.{replicate}
use Rattle.kin_algebra.specs.declared.sign.Sign.TheVariants.{Zero}
use Rattle.kin_algebra.proofs.Members.{contains_none}
use Rattle.kin_motion.specs.declared.fact.Placed.{Placed}
use Rattle.kin_motion.specs.Merges.{IsTreeFact, IsUpperFact, IsLowerFact, IsHullFact}
use Rattle.kin_motion.specs.Scene.{Scene, placed_at, reflected}
use Rattle.kin_motion.specs.Sets.{ListsExactly}
use Rattle.kin_motion.proofs.SetLaws.{exactly_none}
use Rattle.kin_env.specs.Trees.{Envelope, IsEnvelopeAtRest, IsSettledEnvelope, chain_told, top_of}
use Rattle.kin_hull.specs.declared.side.Side.TheVariants.{Upper, Lower}
use Rattle.kin_hull.specs.Hulls.{Hull, ArePaired, IsSettledKinHull, cycle_told, facts_of}
use Rattle.kin_hull.specs.Sides.{outward}

-- where the trees have no facts, there is none of the hull
module _ (size : ℕ) (s : Scene) (upper : ListsExactly [] (IsTreeFact size s)) (lower : ListsExactly [] (IsTreeFact size (reflected s))) where
  none_upper : (z : Placed) → IsUpperFact size s z → ⊥
  none_upper z u = contains_none (placed_at s u.node u.form) ((upper.each (placed_at s u.node u.form)).1 (record { form = u.form; merge = u.merge; fact = refl }))

  none_lower : (z : Placed) → IsLowerFact size s z → ⊥
  none_lower z l = contains_none (placed_at (reflected s) l.node l.form) ((lower.each (placed_at (reflected s) l.node l.form)).1 (record { form = l.form; merge = l.merge; fact = refl }))

  none : (z : Placed) → IsHullFact size s z → ⊥
  none z (inl u) = none_upper z u
  none z (inr l) = none_lower z l

  pub none_exact : ListsExactly [] (IsHullFact size s)
  none_exact = exactly_none (IsHullFact size s) none

pub facts_none : (k : Hull) → k.upper.facts ≡ [] → k.lower.facts ≡ [] → facts_of k ≡ []
facts_none k e f = ap (λ (xs : List Placed). map (outward Upper) xs ++ map (outward Lower) k.lower.facts) e ∙ ap (λ (xs : List Placed). map (outward Lower) xs) f

pub vacant_settled : (k : Hull) (s : Scene) → k.upper.facts ≡ [] → k.lower.facts ≡ [] → IsSettledEnvelope k.upper s → IsSettledEnvelope k.lower (reflected s) → k.lower.size ≡ k.upper.size → IsSettledKinHull k s
vacant_settled k s e f upper lower size = record {
  hull = record {
    is_cycle = record { lower = top_of k.lower; upper = top_of k.upper; lower_chain = lower.tree.chain; upper_chain = upper.tree.chain; joined = λ t. cycle_told k };
    exact = subst (λ (xs : List Placed). ListsExactly xs (IsHullFact k.upper.size s)) (sym (facts_none k e f))
        (none_exact k.upper.size s (subst (λ (xs : List Placed). ListsExactly xs (IsTreeFact k.upper.size s)) e upper.tree.exact)
        (subst (λ (xs : List Placed). ListsExactly xs (IsTreeFact k.upper.size (reflected s))) f (subst (λ n. ListsExactly k.lower.facts (IsTreeFact n (reflected s))) size lower.tree.exact)));
  };
  upper = upper;
  lower = lower;
  size = size;
}

-- a scene without points
bare : Scene
bare = record { live = []; sign = λ f. Zero }

module _ (upper lower : Envelope) (size : ℕ) (small : size ≤ 12) (upper_size : upper.size ≡ size) (lower_size : lower.size ≡ size)
    (upper_slots : upper.slots ≡ replicate (2 ^ size) false) (lower_slots : lower.slots ≡ replicate (2 ^ size) false) (upper_chains : (v : ℕ) → chain_told upper v ≡ []) (lower_chains : (v : ℕ) → chain_told lower v ≡ [])
    (upper_facts : upper.facts ≡ []) (lower_facts : lower.facts ≡ []) (upper_rest : IsEnvelopeAtRest upper) (lower_rest : IsEnvelopeAtRest lower)
    (upper_settled : (s : Scene) → s.live ≡ [] → IsSettledEnvelope upper s) (lower_settled : (s : Scene) → s.live ≡ [] → IsSettledEnvelope lower s) where
  pub vacant_everywhere : (whole : Bool) (s : Scene) → s.live ≡ [] → IsSettledKinHull (record { upper = upper; lower = lower; whole = whole }) s
  vacant_everywhere whole s none = vacant_settled (record { upper = upper; lower = lower; whole = whole }) s upper_facts lower_facts (upper_settled s none) (lower_settled (reflected s) none) (lower_size ∙ sym upper_size)

  pub paired_vacant : ArePaired upper lower
  unfolding bare
  paired_vacant = record {
    size = lower_size ∙ sym upper_size;
    small = subst (λ n. n ≤ 12) (sym upper_size) small;
    slots = lower_slots ∙ sym upper_slots;
    leaves = λ i h. lower_chains _ ∙ sym (upper_chains _);
    upper_whole = upper_rest.whole;
    lower_whole = lower_rest.whole;
    seen = bare;
    settled = vacant_everywhere upper.whole bare refl;
  }
