-- What a kept list asks is within the bound of its keep.
use Rattle.std.proofs.Common.{◌≡◌, inl, inr, sym, ap, ap₂, ◌∙◌, subst, arith, List, [], ◌∷◌, ℕ, ◌+◌, ◌*◌, ◌≤◌, ℤ, pos, length}
use Rattle.std.specs.Prelude.{sum_by}
use Rattle.kin_motion.specs.declared.fact.Placed.{Placed}
use Rattle.kin_motion.specs.declared.keep.Keep.{Keep}
use Rattle.kin_motion.specs.declared.keep.Keep.TheVariants as kept
use Rattle.kin_motion.specs.Records.{moved_pairs}
use Rattle.kin_motion.specs.Contents.{IsSettledList}
use Rattle.kin_motion.specs.Deltas.{Change}
use Rattle.kin_motion.specs.Kinetics.{ListsFailing, HasChanged}
use Rattle.kin_motion.specs.Numbers.{Lists}
use Rattle.kin_motion.specs.Octants.{Direction, direction}
use Rattle.kin_motion.specs.Orders.{IsOrder, IsOrderFact}
use Rattle.kin_motion.specs.Scene.{Scene, IsReal}
use Rattle.kin_motion.specs.Sets.{ListsExactly}
use Rattle.kin_motion.specs.Spending.{AreInStep, IsFactAlong, HasRisenWithin, MayAsk, moved_along}
use Rattle.kin_motion.specs.Spending as spending
use Rattle.kin_motion.proofs.Members.{in_from_contains, contains_from_in}
use Rattle.kin_motion.proofs.SetLaws.{apart_from_once, exactly_in_words}
use Rattle.kin_motion.proofs.SetSizes.{no_longer}
use Rattle.kin_motion.proofs.SpendingLaws.{order_computed, reported, sum_of_one, fact_along}
use Rattle.kin_list.specs.declared.mark.Mark.{Mark}
use Rattle.kin_list.specs.declared.mark.Mark.TheVariants.{Rest, Enters, Leaves, Broken}
use Rattle.kin_list.specs.Keeping.{IsListFor, HasMembers, SpendsList, LeadsTo, FollowsList}
use Rattle.kin_list.specs.Listing.{Listing, IsAtRest, IsSettledListing, AreHalvings, names_leaving}

pub list_follows_scene : (k : Listing) (s : Scene) (live : List ℕ) → IsAtRest k → HasMembers k s.live → IsSettledListing k s → s.live ≡ live → FollowsList k s live
list_follows_scene k s live rest members settled same = record { settled = settled; marked = subst (λ (mark : Mark). LeadsTo mark s.live live) (sym rest) same }

-- halvings are allowed only where the mark leads to one number more
halvings_allowed : (mark : Mark) (n : ℕ) (v w : Scene) (k : ℕ) → n ≤ length v.live → LeadsTo mark v.live w.live → AreHalvings mark n k → spending.MayBisect v w k
halvings_allowed Rest n v w k few leads halved = inl halved
halvings_allowed (Enters i) n v w k few leads halved = inr (i, leads, omega arith)
halvings_allowed (Leaves i) n v w k few leads halved = inl halved
halvings_allowed Broken n v w k few leads halved = absurd leads

pub few_members : (xs live : List ℕ) → Lists xs live → length xs ≤ length live
few_members xs live lists = no_longer xs live (apart_from_once xs lists.once) (λ i h. contains_from_in live i (sym (lists.same i) ∙ in_from_contains xs i h))

-- the parts of a kept direction
dx_of : Keep → ℤ
dx_of (kept.Order dx dy) = dx
dx_of _ = pos 0

dy_of : Keep → ℤ
dy_of (kept.Order dx dy) = dy
dy_of _ = pos 0

one_dx : (keep : Keep) (dx dy dx' dy' : ℤ) → keep ≡ kept.Order dx dy → keep ≡ kept.Order dx' dy' → dx' ≡ dx
unfolding dx_of
one_dx keep dx dy dx' dy' e f = ap dx_of (sym f ∙ e)

one_dy : (keep : Keep) (dx dy dx' dy' : ℤ) → keep ≡ kept.Order dx dy → keep ≡ kept.Order dx' dy' → dy' ≡ dy
unfolding dy_of
one_dy keep dx dy dx' dy' e f = ap dy_of (sym f ∙ e)

-- the pairs that changed places between two lists that are the orders
moved_items : (v w : Scene) (d : Direction) (xs ys : List ℕ) → IsReal v → IsReal w → IsOrder v d.dx d.dy xs → IsOrder w d.dx d.dy ys → sum_by (moved_along v w) (d ∷ []) ≡ moved_pairs xs ys
moved_items v w d xs ys real real' was is = sum_of_one (moved_along v w) d ∙ sym (ap₂ moved_pairs (order_computed v d.dx d.dy xs real was) (order_computed w d.dx d.dy ys real' is))

module _ (old new : Listing) (size : ℕ) (v w : Scene) (failed : List Placed) (out out' : Change) (before after : ℕ) where
  abbrev ways : List Direction
  ways = direction old.dx old.dy ∷ []

  within : AreInStep size (kept.Order old.dx old.dy) v w → FollowsList old v w.live → IsOrder w old.dx old.dy new.items → ListsExactly new.facts (IsOrderFact w old.dx old.dy 0)
      → HasChanged old.facts new.facts out out' → SpendsList old new failed out out' before after → HasRisenWithin (MayAsk size (kept.Order old.dx old.dy) v w) before after
  within step follows order exact changed spent =
      let d = direction old.dx old.dy in
      let told = reported old.facts new.facts (IsFactAlong ways v) (IsFactAlong ways w) out out'
      (exactly_in_words old.facts _ _ (fact_along d v) follows.settled.exact) (exactly_in_words new.facts _ _ (fact_along d w) exact) changed in
      let moved = moved_items v w d old.items new.items step.old_real step.new_real follows.settled.order order in
      let bound = spent.bound in
      let dropped = told.dropped in
      let born = told.born in (
        8 * (length told.change.dropped + length told.change.born + sum_by (moved_along v w) ways) + length ways * spent.halvings,
        record {
          change = told.change;
          changed = told.changed;
          halvings = spent.halvings;
          allowed = halvings_allowed old.mark (length old.items) v w spent.halvings (few_members old.items v.live follows.settled.order.all) follows.marked spent.allowed;
          bound = omega arith;
        },
        omega (arith, moved, bound, dropped, born),
      )

pub list_frugal : (old new : Listing) (size : ℕ) (keep : Keep) (v w : Scene) (failed : List Placed) (out out' : Change) (before after : ℕ) → IsListFor old size keep → IsListFor new size keep → AreInStep size keep v w
    → FollowsList old v w.live → HasMembers new w.live → IsSettledListing new w → ListsFailing old.facts (names_leaving old.mark) w failed → HasChanged old.facts new.facts out out' → SpendsList old new failed out out' before after
    → HasRisenWithin (MayAsk size keep v w) before after
list_frugal old new size keep v w failed out out' before after kind kind' step follows members settled failing changed spent =
    let same : IsSettledList w old.dx old.dy new.items new.facts =
    subst (λ (dy : ℤ). IsSettledList w old.dx dy new.items new.facts) (one_dy keep old.dx old.dy new.dx new.dy kind.0 kind'.0)
    (subst (λ (dx : ℤ). IsSettledList w dx new.dy new.items new.facts) (one_dx keep old.dx old.dy new.dx new.dy kind.0 kind'.0) settled) in
    subst (λ (q : Keep). HasRisenWithin (MayAsk size q v w) before after) (sym kind.0)
    (within old new size v w failed out out' before after (subst (λ (q : Keep). AreInStep size q v w) kind.0 step) follows same.order same.exact changed spent)
