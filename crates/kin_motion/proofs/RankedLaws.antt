-- The theorems on ranked items.
use Rattle.std.proofs.Common.{◌≡◌, refl, sym, ap, ◌∙◌, subst, List, [], ◌∷◌, ℕ, ℤ, Some}
use Rattle.std.specs.Prelude.{Contains}
use Rattle.kin_motion.specs.declared.fact.Placed.{Placed}
use Rattle.kin_motion.specs.Orders as points
use Rattle.kin_motion.specs.Scene.{Scene}
use Rattle.kin_motion.specs.Sets.{AreDistinct, ListsExactly}
use Rattle.kin_motion.proofs.Members.{in_from_contains}
use Rattle.kin_motion.proofs.SetLaws.{apart_from_once}
use Rattle.kin_motion.proofs.Sorting.{sorted-in_order, sorted-members, sorted-once}
use Rattle.kin_motion.specs.Directions.{along}
use Rattle.kin_motion.proofs.RankedFacts.{neighbour_from, order_facts_determined, live_elsewhere}
use Rattle.kin_motion.specs.Rankings.{IsStrict}
use Rattle.kin_motion.proofs.RankedOrders.{one_order, turned_before}
use Rattle.kin_motion.specs.Numbers.{IsOnce}
use Rattle.kin_motion.specs.Ranks.{Ranks, AreLive, IsOrder, IsOrderFact, is_before, order_of, order_facts, neighbour_fact, neighbour_facts}
use Rattle.kin_motion.specs.RankTheorems.{OneRankedOrder, RankedOrderAgrees, RankedFactsAgree, RankedOrderIsDetermined, OrderIsThatOfPoints}

module _ (s : Scene) (r : Ranks) (laws : IsStrict s r) (set : List ℕ) (live : AreLive s r set) where
  pub one_of_set : (xs ys : List ℕ) → IsOrder s r set xs → IsOrder s r set ys → xs ≡ ys
  one_of_set xs ys a b =
      one_order s r laws xs ys (λ i h. live i (sym (a.all.same i) ∙ h)) a.all.once b.all.once a.chain b.chain (λ i. a.all.same i ∙ sym (b.all.same i))

  module _ (once : IsOnce set) where
    pub computed_order : IsOrder s r set (order_of s r set)
    computed_order =
        let lt = is_before s r in
        record {
          all = record { once = sorted-once lt set once; same = sorted-members lt set };
          chain = sorted-in_order lt set (apart_from_once set once)
              (λ x y a b n e. turned_before s r laws x y (live x (in_from_contains set x a)) (live y (in_from_contains set y b)) n e);
        }

    -- the part and the form of a fact name its left item, so the fact of two neighbours is there once
    pub computed_facts : ((i j : ℕ) → r.left (r.part i j) (r.form i j) ≡ i) → ListsExactly (order_facts s r set) (IsOrderFact s r set)
    computed_facts left =
        let xs = order_of s r set in
        let order = computed_order in
        record {
          once = facts_once (apart_from_once xs order.all.once);
          each = λ p. (
            (λ h. record { order = xs; ordered = order; listed = h }),
            (λ f. subst (λ ys. Contains (neighbour_facts s r ys) p) (one_of_set f.order xs f.ordered order) f.listed),
          );
        }
      where
        facts_once : AreDistinct (order_of s r set) → AreDistinct (neighbour_facts s r (order_of s r set))
        facts_once apart k l p a b =
            let xs = order_of s r set in
            let m = neighbour_from s r xs k p a in
            let n = neighbour_from s r xs l p b in
            let same : m.0 ≡ n.0 = sym (left m.0 m.1) ∙ ap (λ (q : Placed). r.left q.part q.fact.form) (sym m.4 ∙ n.4) ∙ left n.0 n.1 in
            apart k l n.0 (m.2 ∙ ap (λ (i : ℕ). Some i) same) n.2

pub order_is_one : OneRankedOrder
order_is_one s r set xs ys real law live a b = one_of_set s r (law.strict s real) set live xs ys a b

pub order_agrees : RankedOrderAgrees
order_agrees s r set real law live once = computed_order s r (law.strict s real) set live once

pub order_facts_agree : RankedFactsAgree
order_facts_agree s r set real law live once = computed_facts s r (law.strict s real) set live once law.left

pub order_determined : RankedOrderIsDetermined
order_determined v w r xs facts real real' law same live order exact hold =
    order_facts_determined v w r xs facts (law.strict v real) (law.strict w real') live (live_elsewhere v w r xs same live) order exact hold

-- ---- points
points_facts : (s : Scene) (slots : ℕ) (dx dy : ℤ) (xs : List ℕ) → neighbour_facts s (along slots dx dy) xs ≡ points.neighbour_facts s dx dy 0 xs
points_facts s slots dx dy [] = refl
points_facts s slots dx dy (i ∷ []) = refl
points_facts s slots dx dy (i ∷ j ∷ xs) = ap (λ (fs : List Placed). neighbour_fact s (along slots dx dy) i j ∷ fs) (points_facts s slots dx dy (j ∷ xs))

pub points_order : OrderIsThatOfPoints
points_order s slots dx dy = (
  (λ xs. ((λ o. record { all = o.all; chain = o.chain }), (λ o. record { all = o.all; chain = o.chain }))),
  (λ p. (
    (λ f. record {
      order = f.order;
      ordered = record { all = f.ordered.all; chain = f.ordered.chain };
      listed = subst (λ fs. Contains fs p) (points_facts s slots dx dy f.order) f.listed;
    }),
    (λ f. record {
      order = f.order;
      ordered = record { all = f.ordered.all; chain = f.ordered.chain };
      listed = subst (λ fs. Contains fs p) (sym (points_facts s slots dx dy f.order)) f.listed;
    }),
  )),
)
