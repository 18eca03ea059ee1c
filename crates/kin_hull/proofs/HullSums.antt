-- Few facts of a hull change where few records of its trees are touched.
use Rattle.std.proofs.Common.{◌≡◌, ◌⊎◌, inl, inr, sym, ap, ◌∙◌, subst, arith, List, ℕ, ◌+◌, true, not, length, map}
use Rattle.std.specs.Prelude.{Contains, ◌↔◌, filter}
use Rattle.std.proofs.lemmas.List.{length-map}
use Rattle.kin_motion.specs.declared.fact.Placed.{Placed}
use Rattle.kin_motion.specs.Merges.{IsTreeFact, IsHullFact}
use Rattle.kin_motion.specs.Scene.{Scene, IsReal, reflected}
use Rattle.kin_motion.specs.Sets.{ListsExactly}
use Rattle.kin_motion.proofs.SetLaws.{contains_map, contains_mapped, distinct_filter, distinct_mapped_on, filter-sound, filter-complete}
use Rattle.kin_motion.proofs.ReflectedLaws.{reflected-real}
use Rattle.kin_hull.specs.declared.side.Side.{Side}
use Rattle.kin_hull.specs.declared.side.Side.TheVariants.{Upper, Lower}
use Rattle.kin_hull.specs.HullFacts.{IsOut, hull_facts_are_out, side_of}
use Rattle.kin_hull.specs.RecordSums.{sum_over_nodes, AreFitScenes, FewHullFactsAreReported, FewHullSigns}
use Rattle.kin_hull.specs.Sides.{outward, inward, is_of, seen_from}
use Rattle.kin_hull.specs.SideLaws.{out_and_in, in_and_out, outward_of, not_of_both}
use Rattle.kin_hull.proofs.RecordSums.{IsTreeChange, split, few_tree_facts_change, reported, paid_by_records}

-- a fact of the hull is that of the tree which it is of
module _ (size : ℕ) (s : Scene) (real : IsReal s) where
  pub tree_fact : (side : Side) (p : Placed) → is_of side p ≡ true → IsHullFact size s p → IsTreeFact size (seen_from side s) (inward side p)
  tree_fact side p of f = at side of ((hull_facts_are_out size s real p).1 f)
    where
      at : (side : Side) → is_of side p ≡ true → IsOut Upper (IsTreeFact size s) p ⊎ IsOut Lower (IsTreeFact size (reflected s)) p → IsTreeFact size (seen_from side s) (inward side p)
      at Upper of (inl h) = subst (IsTreeFact size s) (sym (ap (inward Upper) h.2 ∙ out_and_in Upper h.0)) h.1
      at Upper of (inr h) = absurd (not_of_both p of (side_of size s real Lower _ p h))
      at Lower of (inl h) = absurd (not_of_both p (side_of size s real Upper _ p h) of)
      at Lower of (inr h) = subst (IsTreeFact size (reflected s)) (sym (ap (inward Lower) h.2 ∙ out_and_in Lower h.0)) h.1

  pub hull_fact : (side : Side) (p : Placed) → is_of side p ≡ true → IsTreeFact size (seen_from side s) (inward side p) → IsHullFact size s p
  hull_fact Upper p of f = (hull_facts_are_out size s real p).0 (inl (inward Upper p, f, sym (in_and_out Upper p of)))
  hull_fact Lower p of f = (hull_facts_are_out size s real p).0 (inr (inward Lower p, f, sym (in_and_out Lower p of)))

-- a fact of the hull in one of two scenes alone
abbrev IsHullChange : ℕ → Scene → Scene → Placed → Type 0
IsHullChange size v w p = (IsHullFact size v p × ¬ (IsHullFact size w p)) ⊎ (IsHullFact size w p × ¬ (IsHullFact size v p))

-- those of one tree
module _ (size : ℕ) (v w : Scene) (real_v : IsReal v) (real_w : IsReal w) (changed : List Placed) (exact : ListsExactly changed (IsHullChange size v w)) (side : Side) where
  inside : (p : Placed) → is_of side p ≡ true → IsHullChange size v w p → IsTreeChange size (seen_from side v) (seen_from side w) (inward side p)
  inside p of (inl (f, n)) = inl (tree_fact size v real_v side p of f, λ g. n (hull_fact size w real_w side p of g))
  inside p of (inr (f, n)) = inr (tree_fact size w real_w side p of f, λ g. n (hull_fact size v real_v side p of g))

  outside : (p : Placed) → is_of side p ≡ true → IsTreeChange size (seen_from side v) (seen_from side w) (inward side p) → IsHullChange size v w p
  outside p of (inl (f, n)) = inl (hull_fact size v real_v side p of f, λ g. n (tree_fact size w real_w side p of g))
  outside p of (inr (f, n)) = inr (hull_fact size w real_w side p of f, λ g. n (tree_fact size v real_v side p of g))

  pub changed_in_tree : ListsExactly (map (inward side) (filter (is_of side) changed)) (IsTreeChange size (seen_from side v) (seen_from side w))
  changed_in_tree = record {
    once = distinct_mapped_on (inward side) (filter (is_of side) changed)
        (λ p q c d e. sym (in_and_out side p (filter-sound (is_of side) changed p c).1) ∙ ap (outward side) e ∙ in_and_out side q (filter-sound (is_of side) changed q d).1)
        (distinct_filter (is_of side) changed exact.once);
    each = λ q. (
      λ c.
          let (p, there, is) = contains_mapped (inward side) (filter (is_of side) changed) q c in
          let (has, of) = filter-sound (is_of side) changed p there in
          subst (IsTreeChange size (seen_from side v) (seen_from side w)) (sym is) (inside p of ((exact.each p).0 has)),
      λ t.
          let p = outward side q in
          let of = outward_of side q in
          let back = out_and_in side q in
          let has = (exact.each p).1 (outside p of (subst (IsTreeChange size (seen_from side v) (seen_from side w)) (sym back) t)) in
          subst (Contains (map (inward side) (filter (is_of side) changed))) back (contains_map (inward side) (filter (is_of side) changed) p (filter-complete (is_of side) changed p has of)),
    );
  }

-- the scenes of the lower tree
reflected_fit : (size : ℕ) (v w : Scene) → AreFitScenes size v w → AreFitScenes size (reflected v) (reflected w)
reflected_fit size v w fit = record { old_real = reflected-real v fit.old_real; new_real = reflected-real w fit.new_real; old_fits = fit.old_fits; new_fits = fit.new_fits }

pub few_hull_facts_are_reported : FewHullFactsAreReported
few_hull_facts_are_reported size v w upper lower old_facts new_facts before after fit uppers lowers was is report =
    let (changed, exact, sum) = reported old_facts new_facts (IsHullFact size v) (IsHullFact size w) was is before after report in
    let tree = λ (side : Side). map (inward side) (filter (is_of side) changed) in
    let above = few_tree_facts_change size v w upper (tree Upper) fit uppers (changed_in_tree size v w fit.old_real fit.new_real changed exact Upper) in
    let below = few_tree_facts_change size (reflected v) (reflected w) lower (tree Lower) (reflected_fit size v w fit) lowers (changed_in_tree size v w fit.old_real fit.new_real changed exact Lower) in
    let both = split (is_of Upper) changed in
    let of_upper = length-map (filter (is_of Upper) changed) (inward Upper) in
    let of_lower = length-map (filter (is_of Lower) changed) (inward Lower) in
    omega (arith, sum, above, below, both, of_upper, of_lower)

pub few_hull_signs : FewHullSigns
few_hull_signs size asked v w upper lower old_facts new_facts before after fit uppers lowers was is report paid =
    paid_by_records old_facts new_facts before after (sum_over_nodes size upper + sum_over_nodes size lower) asked report
    (few_hull_facts_are_reported size v w upper lower old_facts new_facts before after fit uppers lowers was is report) paid
