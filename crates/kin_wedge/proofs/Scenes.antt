-- Where the lists are the orders of a scene, what stands first in them is the candidate.
use Rattle.std.proofs.Common.{◌≡◌, ◌≢◌, refl, sym, ap, ◌∙◌, subst, List, ℕ, ◌<◌, Bool, true, false, cond, Some, None, Option, inl, inr, ◌⊎◌}
use Rattle.std.specs.Prelude.{slice_get}
use Rattle.std.proofs.lemmas.Bool.{cases_eq, and_parts, and_from}
use Rattle.kin_motion.specs.Numbers.{is_in, IsIn}
use Rattle.kin_motion.specs.Scene.{Scene}
use Rattle.kin_motion.specs.Records.{stands_before}
use Rattle.kin_motion.specs.Orders.{is_before}
use Rattle.kin_motion.specs.Octants.{Octant, Reading, octants, direction_of, comes_after, is_in_octant, octant_members, IsCandidateAnswer}
use Rattle.kin_motion.specs.Laws.{HasLineLaws}
use Rattle.kin_motion.proofs.AgreementLaws.{kept-members}
use Rattle.kin_motion.proofs.CandidateLaws.{never_after_itself}
use Rattle.kin_motion.specs.Sets.{AreDistinct}
use Rattle.kin_motion.proofs.SetLaws.{apart_from_once}
use Rattle.kin_list.proofs.OrderingLaws.{stands_in_order}
use Rattle.kin_wedge.specs.Seen.{IsOfEight}
use Rattle.kin_wedge.specs.EightLaws.{of_eight}
use Rattle.kin_wedge.specs.Rows.{row_of, stands_after, is_in_wedge, IsFirstAnswer, AreOrders}
use Rattle.kin_wedge.proofs.Places.{first_is_in, second_is_in, never_before_self, one_before}
use Rattle.kin_wedge.proofs.ThirdAfter.{third_after}

module _ (s : Scene) (laws : HasLineLaws s) (rows : List (List ℕ)) (orders : AreOrders s rows) where
  -- the lists have the live numbers
  member_live : (part i : ℕ) → part < 8 → is_in i (row_of rows part) ≡ true → is_in i s.live ≡ true
  member_live part i h e = sym ((orders.order part h).all.same i) ∙ e

  live_member : (part i : ℕ) → part < 8 → is_in i s.live ≡ true → is_in i (row_of rows part) ≡ true
  live_member part i h e = (orders.order part h).all.same i ∙ e

  pub row_apart : (part : ℕ) → part < 8 → AreDistinct (row_of rows part)
  row_apart part h = apart_from_once (row_of rows part) (orders.order part h).all.once

  -- the order of two live numbers in the lists is that of the scene
  pub as_read : (r : Reading) (p q : ℕ) → r.part < 8 → p ≢ q → is_in p s.live ≡ true → is_in q s.live ≡ true → stands_after rows r p q ≡ comes_after s r p q
  as_read r p q h n a b = at r.from_end
    where
      forth : stands_before (row_of rows r.part) p q ≡ is_before s (direction_of r.part).dx (direction_of r.part).dy p q
      forth = stands_in_order s laws (direction_of r.part).dx (direction_of r.part).dy (row_of rows r.part) q p (orders.order r.part h).chain (orders.order r.part h).all.once n (live_member r.part q h b) (live_member r.part p h a)

      back : stands_before (row_of rows r.part) q p ≡ is_before s (direction_of r.part).dx (direction_of r.part).dy q p
      back = stands_in_order s laws (direction_of r.part).dx (direction_of r.part).dy (row_of rows r.part) p q (orders.order r.part h).chain (orders.order r.part h).all.once (λ e. n (sym e)) (live_member r.part p h a) (live_member r.part q h b)

      at : (e : Bool) → cond e (stands_before (row_of rows r.part) q p) (stands_before (row_of rows r.part) p q) ≡ cond e (is_before s (direction_of r.part).dx (direction_of r.part).dy q p) (is_before s (direction_of r.part).dx (direction_of r.part).dy p q)
      at true = back
      at false = forth

  -- who stands after another is live, and so is the other, and they differ
  pub after_live : (r : Reading) (p q : ℕ) → r.part < 8 → stands_after rows r p q ≡ true → (is_in p s.live ≡ true) × (is_in q s.live ≡ true) × (p ≢ q)
  after_live r p q h = at r.from_end
    where
      at : (e : Bool) → cond e (stands_before (row_of rows r.part) q p) (stands_before (row_of rows r.part) p q) ≡ true → (is_in p s.live ≡ true) × (is_in q s.live ≡ true) × (p ≢ q)
      at true t = (
        member_live r.part p h (second_is_in _ q p t),
        member_live r.part q h (first_is_in _ q p t),
        λ e. never_before_self _ (row_apart r.part h) q (subst (λ (x : ℕ). stands_before (row_of rows r.part) q x ≡ true) e t),
      )
      at false t = (
        member_live r.part p h (first_is_in _ p q t),
        member_live r.part q h (second_is_in _ p q t),
        λ e. never_before_self _ (row_apart r.part h) q (subst (λ (x : ℕ). stands_before (row_of rows r.part) x q ≡ true) e t),
      )

  module _ (w : ℕ) (o : Octant) (here : slice_get octants w ≡ Some o) where
    known : IsOfEight o
    known = of_eight w o here

    -- in the octant by the lists is in the octant of the scene
    pub in_octant : (p q : ℕ) → is_in_wedge rows o p q ≡ true → (is_in p s.live ≡ true) × (is_in q s.live ≡ true) × (p ≢ q) × (is_in_octant s o p q ≡ true)
    in_octant p q h =
        let b = and_parts _ _ h in
        let l = after_live o.first p q known.first b.0 in (
          l.0,
          l.1,
          l.2,
          and_from _ _ (sym (as_read o.first p q known.first l.2 l.0 l.1) ∙ b.0) (sym (as_read o.second p q known.second l.2 l.0 l.1) ∙ b.1),
        )

    pub in_wedge : (p q : ℕ) → is_in p s.live ≡ true → is_in q s.live ≡ true → is_in_octant s o p q ≡ true → is_in_wedge rows o p q ≡ true
    in_wedge p q a b h = at (cases_eq p q)
      where
        k : (comes_after s o.first p q ≡ true) × (comes_after s o.second p q ≡ true)
        k = and_parts _ _ h

        at : (p ≡ q) ⊎ (p ≢ q) → is_in_wedge rows o p q ≡ true
        at (inl e) = absurd (never_after_itself s laws o.first p (ap (comes_after s o.first p) e ∙ k.0))
        at (inr n) = and_from _ _ (as_read o.first p q known.first n a b ∙ k.0) (as_read o.second p q known.second n a b ∙ k.1)

    -- a member of the octant stands behind the apex in the third list
    pub third_behind : (p q : ℕ) → is_in_wedge rows o p q ≡ true → stands_after rows o.third p q ≡ true
    third_behind p q h = let l = in_octant p q h in as_read o.third p q known.third l.2 l.0 l.1 ∙ third_after s laws w o p q here l.2 l.3

    -- of two members one stands before the other in the third list
    pub ranked : (p a b : ℕ) → is_in_wedge rows o p a ≡ true → is_in_wedge rows o p b ≡ true → (a ≡ b) ⊎ ((stands_after rows o.third a b ≡ true) ⊎ (stands_after rows o.third b a ≡ true))
    ranked p a b h k = at (one_before (row_of rows o.third.part) (row_apart o.third.part known.third) a b (live_member o.third.part a known.third (in_octant p a h).1) (live_member o.third.part b known.third (in_octant p b k).1)) o.third.from_end
      where
        at : (a ≡ b) ⊎ ((stands_before (row_of rows o.third.part) a b ≡ true) ⊎ (stands_before (row_of rows o.third.part) b a ≡ true)) → (e : Bool) → (a ≡ b) ⊎ ((cond e (stands_before (row_of rows o.third.part) b a) (stands_before (row_of rows o.third.part) a b) ≡ true) ⊎ (cond e (stands_before (row_of rows o.third.part) a b) (stands_before (row_of rows o.third.part) b a) ≡ true))
        at (inl e) f = inl e
        at (inr (inl l)) true = inr (inr l)
        at (inr (inl l)) false = inr (inl l)
        at (inr (inr l)) true = inr (inl l)
        at (inr (inr l)) false = inr (inr l)

    in_members : (p q : ℕ) → is_in p s.live ≡ true → IsIn q (octant_members s o p) → is_in_wedge rows o p q ≡ true
    in_members p q a h = let b = and_parts _ _ (sym (kept-members (is_in_octant s o p) s.live q) ∙ h) in in_wedge p q a b.0 b.1

    -- the first by the lists is the candidate
    pub candidate : (p : ℕ) (answer : Option ℕ) → is_in p s.live ≡ true → IsFirstAnswer rows o p answer → IsCandidateAnswer s o p answer
    candidate p None a h = λ c k. let e = in_members p c a k.member in absurd (let f : true ≡ false = sym e ∙ h c in cc)
    candidate p (Some c) a h =
        let l = in_octant p c h.member in
        record {
          member = kept-members (is_in_octant s o p) s.live c ∙ and_from _ _ l.1 l.3;
          first = λ q k. other q (in_members p q a k) (h.first q (in_members p q a k));
        }
      where
        other : (q : ℕ) → is_in_wedge rows o p q ≡ true → (q ≡ c) ⊎ (stands_after rows o.third c q ≡ true) → (q ≡ c) ⊎ (comes_after s o.third c q ≡ true)
        other q m (inl e) = inl e
        other q m (inr t) = let l = after_live o.third c q known.third t in inr (sym (as_read o.third c q known.third l.2 l.0 l.1) ∙ t)

    -- a number that is not live has no candidate
    pub none_of_others : (p : ℕ) (answer : Option ℕ) → ¬ (is_in p s.live ≡ true) → IsFirstAnswer rows o p answer → answer ≡ None
    none_of_others p None n h = refl
    none_of_others p (Some c) n h = absurd (n (in_octant p c h.member).0)
