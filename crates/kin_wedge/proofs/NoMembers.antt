-- Without members the octants are settled wherever no number is live.
use Rattle.std.proofs.Common.{◌≡◌, refl, sym, ap, ◌∙◌, subst, List, [], ◌∷◌, ℕ, ◌+◌, ◌*◌, ◌^◌, ℤ, true, false}
use Rattle.std.specs.Prelude.{None, Contains, slice_index_or, replicate}
use Rattle.kin_algebra.proofs.Members.{contains_none}
use Rattle.kin_algebra.proofs.Places.{get_or-replicate_any}
use Rattle.kin_motion.specs.declared.fact.Placed.{Placed}
use Rattle.kin_motion.specs.ClosestFacts.{IsWedgeFact}
use Rattle.kin_motion.specs.Numbers.{is_in, IsIn, Lists}
use Rattle.kin_motion.specs.Orders.{IsOrder, neighbour_facts}
use Rattle.kin_motion.specs.Scene.{Scene}
use Rattle.kin_motion.specs.Sets.{ListsExactly}
use Rattle.kin_motion.proofs.Members.{in_head}
use Rattle.kin_motion.proofs.SetLaws.{exactly_none}
use Rattle.kin_wedge.specs.Rows.{AreOrders}
use Rattle.kin_wedge.specs.Wedging.{Wedging, candidate_told, IsSettledWedging}

-- the eight orders have no members
pub record HasNoMembers (k : Wedging) : Type 0 where
  pub orders : k.orders ≡ replicate 8 []
  pub facts : k.facts ≡ []
  pub candidates : k.candidates ≡ replicate (8 * 2 ^ k.size) None

module _ (k : Wedging) (are : HasNoMembers k) (s : Scene) (none : s.live ≡ []) where
  no_live : (i : ℕ) → ¬ (IsIn i s.live)
  no_live i h = let clash : false ≡ true = sym (ap (is_in i) none) ∙ h in cc

  empty_order : (dx dy : ℤ) → IsOrder s dx dy []
  empty_order dx dy = record { all = record { once = tt; same = λ i. sym (ap (is_in i) none) }; chain = tt }

  ordered : AreOrders s k.orders
  ordered = subst (AreOrders s) (sym are.orders) (record { count = refl; order = λ part low. subst (IsOrder s _ _) (sym (get_or-replicate_any 8 part [])) (empty_order _ _) })

  no_neighbours : (dx dy : ℤ) (part : ℕ) (xs : List ℕ) (p : Placed) → Lists xs [] → ¬ (Contains (neighbour_facts s dx dy part xs) p)
  no_neighbours dx dy part [] p l h = contains_none p h
  no_neighbours dx dy part (x ∷ xs) p l h = let clash : true ≡ false = sym (in_head x xs) ∙ l.same x in cc

  pub no_wedge_fact : (p : Placed) → ¬ (IsWedgeFact s p)
  no_wedge_fact p w = no_neighbours w.way.dx w.way.dy p.part w.fact.order p (subst (Lists w.fact.order) none w.fact.ordered.all) w.fact.listed

  pub candidate_none : (p w : ℕ) → candidate_told k p w ≡ None
  candidate_none p w = ap (λ c. slice_index_or c (8 * p + w) None) are.candidates ∙ get_or-replicate_any (8 * 2 ^ k.size) (8 * p + w) None

  pub settled_without : IsSettledWedging k s
  settled_without = record {
    ordered = ordered;
    wedges = record {
      candidates = record { of_live = λ p w o l e. absurd (no_live p l); of_others = λ p w h l n. candidate_none p w };
      exact = subst (λ fs. ListsExactly fs (IsWedgeFact s)) (sym are.facts) (exactly_none _ no_wedge_fact);
    };
  }
