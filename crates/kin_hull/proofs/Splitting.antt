-- The failed facts of each tree, sorted out of those of the hull.
use Rattle.std.proofs.Common.{◌≡◌, ◌⊎◌, inl, inr, sym, ap, ◌∙◌, subst, List, ◌++◌, Bool, true, false, map, filter}
use Rattle.std.specs.Prelude.{Contains}
use Rattle.std.proofs.lemmas.List.Elements.{Contains-append_left, Contains-append_right, Contains-append_cases}
use Rattle.kin_motion.specs.declared.fact.Placed.{Placed}
use Rattle.kin_motion.specs.Kinetics.{ListsFailing}
use Rattle.kin_motion.specs.Scene.{Scene, IsReal, Holds}
use Rattle.kin_motion.specs.ReflectedFacts.{IsUpright}
use Rattle.kin_motion.proofs.SetLaws.{contains_map, contains_mapped, distinct_mapped_on, filter-sound, filter-complete, distinct_filter}
use Rattle.kin_hull.specs.declared.side.Side.{Side}
use Rattle.kin_hull.specs.declared.side.Side.TheVariants.{Upper, Lower}
use Rattle.kin_hull.specs.SideLaws.{out_and_in, in_and_out, outward_of, not_of_both, holds_outward}
use Rattle.kin_hull.specs.Sides.{outward, inward, is_of, seen_from}

-- what is of a tree among all facts of the hull
abbrev IsBack : Side → List Placed → Placed → Type 0
IsBack side mine p = (x : Placed) × Contains mine x × (p ≡ outward side x)

module _ (side : Side) (s : Scene) (real : IsReal s) (mine all failed : List Placed) (spared spared_there : Placed → Bool)
    (upright : (x : Placed) → Contains mine x → IsUpright x.fact.form) (out : (x : Placed) → Contains mine x → Contains all (outward side x))
    (back : (p : Placed) → Contains all p → is_of side p ≡ true → IsBack side mine p) (same : (x : Placed) → spared (outward side x) ≡ spared_there x)
    (failing : ListsFailing all spared s failed) where
  abbrev Fails : Placed → Type 0
  Fails x = Contains mine x × (spared_there x ≡ false) × ¬ (Holds (seen_from side s) x.fact)

  fails_there : (q : Placed) → Contains all q × (spared q ≡ false) × ¬ (Holds s q.fact) → is_of side q ≡ true → Fails (inward side q)
  fails_there q f k =
      let y = back q f.0 k in
      let is : inward side q ≡ y.0 = ap (inward side) y.2 ∙ out_and_in side y.0 in
      subst Fails (sym is) (y.1, sym (same y.0) ∙ ap spared (sym y.2) ∙ f.1, λ holds. f.2 (subst (λ (p : Placed). Holds s p.fact) (sym y.2) ((holds_outward side s y.0 real (upright y.0 y.1)).0 holds)))

  to : (x : Placed) → Contains (map (inward side) (filter (is_of side) failed)) x → Fails x
  to x c =
      let m = contains_mapped (inward side) (filter (is_of side) failed) x c in
      let k = filter-sound (is_of side) failed m.0 m.1 in
      subst Fails (sym m.2) (fails_there m.0 ((failing.each m.0).0 k.0) k.1)

  from : (x : Placed) → Fails x → Contains (map (inward side) (filter (is_of side) failed)) x
  from x h =
      let k = (failing.each (outward side x)).1 (out x h.0, same x ∙ h.1, λ holds. h.2 ((holds_outward side s x real (upright x h.0)).1 holds)) in
      subst (Contains (map (inward side) (filter (is_of side) failed))) (out_and_in side x)
      (contains_map (inward side) (filter (is_of side) failed) (outward side x) (filter-complete (is_of side) failed (outward side x) k (outward_of side x)))

  pub sorted_failing : ListsFailing mine spared_there (seen_from side s) (map (inward side) (filter (is_of side) failed))
  sorted_failing = record {
    once = distinct_mapped_on (inward side) (filter (is_of side) failed)
        (λ q r a b e. sym (in_and_out side q (filter-sound (is_of side) failed q a).1) ∙ ap (outward side) e ∙ in_and_out side r (filter-sound (is_of side) failed r b).1)
        (distinct_filter (is_of side) failed failing.once);
    each = λ x. (to x, from x);
  }

-- ---- both trees
pub mapped_of : (side : Side) (xs : List Placed) (p : Placed) → Contains (map (outward side) xs) p → is_of side p ≡ true
mapped_of side xs p c = let m = contains_mapped (outward side) xs p c in ap (is_of side) m.2 ∙ outward_of side m.0

module _ (upper lower : List Placed) where
  pub upper_out : (x : Placed) → Contains upper x → Contains (map (outward Upper) upper ++ map (outward Lower) lower) (outward Upper x)
  upper_out x c = Contains-append_left (map (outward Upper) upper) (map (outward Lower) lower) (outward Upper x) (contains_map (outward Upper) upper x c)

  pub lower_out : (x : Placed) → Contains lower x → Contains (map (outward Upper) upper ++ map (outward Lower) lower) (outward Lower x)
  lower_out x c = Contains-append_right (map (outward Upper) upper) (map (outward Lower) lower) (outward Lower x) (contains_map (outward Lower) lower x c)

  pub upper_back : (p : Placed) → Contains (map (outward Upper) upper ++ map (outward Lower) lower) p → is_of Upper p ≡ true → (x : Placed) × Contains upper x × (p ≡ outward Upper x)
  upper_back p c h = at (Contains-append_cases (map (outward Upper) upper) (map (outward Lower) lower) p c)
    where
      at : Contains (map (outward Upper) upper) p ⊎ Contains (map (outward Lower) lower) p → (x : Placed) × Contains upper x × (p ≡ outward Upper x)
      at (inl k) = contains_mapped (outward Upper) upper p k
      at (inr k) = absurd (not_of_both p h (mapped_of Lower lower p k))

  pub lower_back : (p : Placed) → Contains (map (outward Upper) upper ++ map (outward Lower) lower) p → is_of Lower p ≡ true → (x : Placed) × Contains lower x × (p ≡ outward Lower x)
  lower_back p c h = at (Contains-append_cases (map (outward Upper) upper) (map (outward Lower) lower) p c)
    where
      at : Contains (map (outward Upper) upper) p ⊎ Contains (map (outward Lower) lower) p → (x : Placed) × Contains lower x × (p ≡ outward Lower x)
      at (inl k) = absurd (not_of_both p (mapped_of Upper upper p k) h)
      at (inr k) = contains_mapped (outward Lower) lower p k
