-- Both lists have settled.
use Rattle.std.proofs.Common.{◌≡◌, ◌⊎◌, inl, inr, refl, sym, ap, ◌∙◌, subst, arith, List, [], ◌∷◌, ◌++◌, ℕ, zero, suc, ◌+◌, ℤ, pos, length, map, filter}
use Rattle.std.specs.Prelude.{Contains, IsTrue}
use Rattle.std.proofs.lemmas.List.{append-nil}
use Rattle.std.proofs.lemmas.Option.{same_Some}
use Rattle.kin_motion.specs.declared.fact.Placed.{Placed}
use Rattle.kin_motion.specs.Records.{moved_pairs}
use Rattle.kin_motion.specs.Contents.{IsSettledList, IsSettledRange}
use Rattle.kin_motion.specs.Deltas.{Change}
use Rattle.kin_motion.specs.Kinetics.{ListsFailing, HasChanged}
use Rattle.kin_motion.specs.Numbers.{HasEntered}
use Rattle.kin_motion.specs.Orders.{IsOrderFact}
use Rattle.kin_motion.specs.Parts.{moved_by}
use Rattle.kin_motion.specs.Scene.{Scene}
use Rattle.kin_motion.specs.Sets.{ListsExactly}
use Rattle.kin_motion.proofs.ChangeLaws.{both_changed}
use Rattle.kin_motion.proofs.ClosestFactLaws.{part_of_order}
use Rattle.kin_motion.proofs.PartLaws.{moved_order_facts}
use Rattle.kin_motion.proofs.SetLaws.{exactly_both}
use Rattle.kin_list.specs.declared.mark.Mark.{Mark}
use Rattle.kin_list.specs.declared.mark.Mark.TheVariants.{Leaves}
use Rattle.kin_list.specs.Keeping.{LeadsTo}
use Rattle.kin_list.specs.Listing.{Listing, HasMarked, AreHalvings, AreFewTests, IsReadyListing, IsSettledListing, names_leaving}
use Rattle.kin_list.proofs.LeavingLaws.{list_left}
use Rattle.kin_list.proofs.VacantLaws.{empty_settled}
use Rattle.kin_wedge.specs.Costs.{moved_below, AreFewBelow}
use Rattle.kin_wedge.specs.Parts.{facts_from, is_of_part, AreAtNought, IsResettled}
use Rattle.kin_wedge.proofs.Parting.{AllAtNought, failing_of_part, moved_out}
use Rattle.kin_wedge.proofs.Posted.{nought_settled}
use Rattle.kin_wedge.proofs.Readiness.{marked_alike}
use Rattle.kin_range.specs.Ranging.{Ranging, IsSettledRanging, IsRangingAtRest, HasMembers, FollowsRanging, AreJoined, vacant_along, vacant_range}

-- a list that is along this direction
along : (l : Listing) (s : Scene) (dx dy : ℤ) → l.dx ≡ dx → l.dy ≡ dy → IsSettledListing l s → IsSettledList s dx dy l.items l.facts
along l s dx dy e f h = subst (λ (d : ℤ). IsSettledList s dx d l.items l.facts) f (subst (λ (d : ℤ). IsSettledList s d l.dy l.items l.facts) e h)

-- the orders along x and y, with their facts, are a settled range
pub from_lists : (s : Scene) (x y : Listing) → IsSettledList s (pos 1) (pos 0) x.items x.facts → IsSettledList s (pos 0) (pos 1) y.items y.facts → IsSettledRange s x.items y.items (facts_from 0 (x ∷ y ∷ []))
from_lists s x y x_list y_list = record {
  x_order = x_list.order;
  y_order = y_list.order;
  exact =
      exactly_both (map (moved_by 0) x.facts) (map (moved_by 1) y.facts ++ []) (IsOrderFact s (pos 1) (pos 0) 0) (IsOrderFact s (pos 0) (pos 1) 1) x_facts y_facts
      (λ p f g. let a = part_of_order s (pos 1) (pos 0) 0 p f in let b = part_of_order s (pos 0) (pos 1) 1 p g in omega (arith, a, b));
}
  where
    x_facts : ListsExactly (map (moved_by 0) x.facts) (IsOrderFact s (pos 1) (pos 0) 0)
    x_facts = moved_order_facts s (pos 1) (pos 0) 0 x.facts x_list.exact

    y_facts : ListsExactly (map (moved_by 1) y.facts ++ []) (IsOrderFact s (pos 0) (pos 1) 1)
    y_facts = subst (λ fs. ListsExactly fs (IsOrderFact s (pos 0) (pos 1) 1)) (sym (append-nil (map (moved_by 1) y.facts))) (moved_order_facts s (pos 0) (pos 1) 1 y.facts y_list.exact)

-- without members it is settled wherever no number is live
pub vacant_settled : (size : ℕ) (s : Scene) → s.live ≡ [] → IsSettledRanging (vacant_range size) s
vacant_settled size s none = from_lists s (vacant_along (pos 1) (pos 0) size) (vacant_along (pos 0) (pos 1) size) (empty_settled s (pos 1) (pos 0) none) (empty_settled s (pos 0) (pos 1) none)

module _ (x y : Listing) (known : AreJoined x y) where
  both_nought : AllAtNought (x ∷ y ∷ [])
  both_nought zero l e = subst (λ (k : Listing). AreAtNought k.facts) (same_Some x l e) known.x_nought
  both_nought (suc zero) l e = subst (λ (k : Listing). AreAtNought k.facts) (same_Some y l e) known.y_nought
  both_nought (suc (suc part)) l e = absurd cc

  -- the list along y may settle where the one along x may
  pub y_ready : (s : Scene) → IsReadyListing x s → IsReadyListing y s
  y_ready s h = subst (λ (mark : Mark). HasMarked mark y.items s.live) (sym known.mark) (marked_alike x.mark x.items y.items s.live known.once known.same h)

  module _ (s : Scene) (failed : List Placed) (failing : ListsFailing (facts_from 0 (x ∷ y ∷ [])) (names_leaving x.mark) s failed) where
    pub x_told : ListsFailing (map (moved_by 0) x.facts) (names_leaving x.mark) s (filter (is_of_part 0) failed)
    x_told = failing_of_part (x ∷ y ∷ []) 0 x (names_leaving x.mark) s failed both_nought refl failing

    pub y_told : ListsFailing (map (moved_by 1) y.facts) (names_leaving y.mark) s (filter (is_of_part 1) failed)
    y_told =
        subst (λ (mark : Mark). ListsFailing (map (moved_by 1) y.facts) (names_leaving mark) s (filter (is_of_part 1) failed)) (sym known.mark)
        (failing_of_part (x ∷ y ∷ []) 1 y (names_leaving x.mark) s failed both_nought refl failing)

  module _ (x' y' : Listing) (s : Scene) (first : IsResettled s x x') (second : IsResettled s y y') where
    x_list : IsSettledList s (pos 1) (pos 0) x'.items x'.facts
    x_list = along x' s (pos 1) (pos 0) (first.same.0 ∙ known.x_way.0) (first.same.1 ∙ known.x_way.1) first.settled

    y_list : IsSettledList s (pos 0) (pos 1) y'.items y'.facts
    y_list = along y' s (pos 0) (pos 1) (second.same.0 ∙ known.y_way.0) (second.same.1 ∙ known.y_way.1) second.settled

    -- so the range is settled
    pub settled_now : IsSettledRange s x'.items y'.items (facts_from 0 (x' ∷ y' ∷ []))
    settled_now = from_lists s x' y' x_list y_list

    pub joined_now : AreJoined x' y'
    joined_now = record {
      x_way = (first.same.0 ∙ known.x_way.0, first.same.1 ∙ known.x_way.1);
      y_way = (second.same.0 ∙ known.y_way.0, second.same.1 ∙ known.y_way.1);
      room = second.same.2 ∙ known.room ∙ sym first.same.2;
      mark = second.rest ∙ sym first.rest;
      same = λ i. y_list.order.all.same i ∙ sym (x_list.order.all.same i);
      once = y_list.order.all.once;
      x_nought = nought_settled x' s first.settled;
      y_nought = nought_settled y' s second.settled;
    }

    -- the reports of both lists are that of the range
    module _ (out mid out' : Change) (x_changed : HasChanged (map (moved_by 0) x.facts) (map (moved_by 0) x'.facts) out mid) (y_changed : HasChanged (map (moved_by 1) y.facts) (map (moved_by 1) y'.facts) mid out') where
      in_part_0 : (p : Placed) → Contains (map (moved_by 0) x.facts) p ⊎ Contains (map (moved_by 0) x'.facts) p → p.part ≡ 0
      in_part_0 p (inl c) = (moved_out 0 x.facts p known.x_nought c).0
      in_part_0 p (inr c) = (moved_out 0 x'.facts p (nought_settled x' s first.settled) c).0

      in_part_1 : (p : Placed) → Contains (map (moved_by 1) y.facts) p ⊎ Contains (map (moved_by 1) y'.facts) p → p.part ≡ 1
      in_part_1 p (inl c) = (moved_out 1 y.facts p known.y_nought c).0
      in_part_1 p (inr c) = (moved_out 1 y'.facts p (nought_settled y' s second.settled) c).0

      none_behind : (l : Listing) → map (moved_by 1) l.facts ≡ map (moved_by 1) l.facts ++ []
      none_behind l = sym (append-nil (map (moved_by 1) l.facts))

      pub range_changed : HasChanged (facts_from 0 (x ∷ y ∷ [])) (facts_from 0 (x' ∷ y' ∷ [])) out out'
      range_changed =
          subst (λ fs. HasChanged (map (moved_by 0) x.facts ++ fs) (facts_from 0 (x' ∷ y' ∷ [])) out out') (none_behind y)
          (subst (λ fs. HasChanged (map (moved_by 0) x.facts ++ map (moved_by 1) y.facts) (map (moved_by 0) x'.facts ++ fs) out out') (none_behind y')
          (both_changed (map (moved_by 0) x.facts) (map (moved_by 0) x'.facts) (map (moved_by 1) y.facts) (map (moved_by 1) y'.facts) out mid out'
          (λ p f g. let a = in_part_0 p f in let b = in_part_1 p g in omega (arith, a, b)) x_changed y_changed))

  -- the tests of both lists are those of the range
  pub few_tests : (x' y' : Listing) (out mid out' : Change) (before between after : ℕ) → AreFewTests x.mark x.items x'.items out mid before between → AreFewTests y.mark y.items y'.items mid out' between after
      → AreFewBelow 2 x.mark (x.items ∷ y.items ∷ []) (x'.items ∷ y'.items ∷ []) out out' before after
  few_tests x' y' out mid out' before between after t u =
      let b = t.bound in
      let c = u.bound in
      let moved : moved_below 2 (x.items ∷ y.items ∷ []) (x'.items ∷ y'.items ∷ []) ≡ moved_pairs x.items x'.items + moved_pairs y.items y'.items = omega arith in
      record {
        halvings = t.halvings + u.halvings;
        allowed = (t.halvings, u.halvings, (0, t.halvings, refl, t.allowed, omega arith), subst (λ (mark : Mark). AreHalvings mark (length y.items) u.halvings) known.mark u.allowed, refl);
        bound = omega (arith, b, c, moved);
      }

-- both lists have got this mark
pub joined_marked : (mark : Mark) (x y x' y' : Listing) → AreJoined x y → x' ≡ record x { mark = mark } → y' ≡ record y { mark = mark } → AreJoined x' y'
joined_marked mark x y x' y' known e f =
    subst (λ (l : Listing). AreJoined l y') (sym e)
    (subst (λ (l : Listing). AreJoined (record x { mark = mark }) l) (sym f)
    (record { x_way = known.x_way; y_way = known.y_way; room = known.room; mark = refl; same = known.same; once = known.once; x_nought = known.x_nought; y_nought = known.y_nought }))

-- the members without one that leaves
pub range_left : (who : ℕ) (r new : Ranging) (before after : List ℕ) → IsRangingAtRest r → new ≡ record r { by_x = record r.by_x { mark = Leaves who }; by_y = record r.by_y { mark = Leaves who } }
    → HasMembers r before → HasEntered who after before → HasMembers new after
range_left who r new before after rest marked has left = record {
  members = list_left who r.by_x new.by_x before after rest.rest (ap (λ (k : Ranging). k.by_x) marked) has.members left;
  whole = subst (λ (k : Ranging). IsTrue k.whole) (sym marked) has.whole;
}

-- a range that has been marked follows the scene in which it was settled
pub range_follows : (mark : Mark) (r new : Ranging) (s : Scene) (after : List ℕ) → new ≡ record r { by_x = record r.by_x { mark = mark }; by_y = record r.by_y { mark = mark } } → IsSettledRanging r s → LeadsTo mark s.live after → FollowsRanging new s after
range_follows mark r new s after marked settled leads = subst (λ (k : Ranging). FollowsRanging k s after) (sym marked) (record { settled = settled; led = leads })
