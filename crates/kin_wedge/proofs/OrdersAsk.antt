-- What several orders ask is within the bound of a keep, where the tests of their lists are few.
use Rattle.std.proofs.Common.{◌≡◌, ◌⊎◌, inl, inr, refl, ap, ap₂, ◌∙◌, subst, arith, List, [], ◌∷◌, ℕ, zero, suc, ◌+◌, ◌*◌, ◌<◌, ◌≤◌, length}
use Rattle.std.specs.Prelude.{Some, slice_get, sum_by}
use Rattle.std.proofs.lemmas.List.Sums.{sum_by-cons}
use Rattle.std.proofs.lemmas.Nat.{mul-le}
use Rattle.kin_motion.specs.declared.fact.Placed.{Placed}
use Rattle.kin_motion.specs.Records.{moved_pairs}
use Rattle.kin_motion.specs.Deltas.{Change}
use Rattle.kin_motion.specs.Kinetics.{HasChanged}
use Rattle.kin_motion.specs.Octants.{Direction}
use Rattle.kin_motion.specs.Orders.{IsOrder, is_before}
use Rattle.kin_motion.specs.Scene.{Scene, IsReal}
use Rattle.kin_motion.specs.Sets.{ListsExactly}
use Rattle.kin_motion.specs.Spending.{IsFactAlong, HasRisenWithin, MayOrdersAsk, moved_along, MayBisect}
use Rattle.kin_motion.proofs.OrderCounts.{sorted-length}
use Rattle.kin_motion.proofs.SpendingLaws.{order_computed, reported}
use Rattle.kin_list.specs.declared.mark.Mark.{Mark}
use Rattle.kin_list.specs.declared.mark.Mark.TheVariants.{Rest, Enters, Leaves, Broken}
use Rattle.kin_list.specs.Keeping.{LeadsTo}
use Rattle.kin_list.specs.Listing.{AreHalvings}
use Rattle.kin_wedge.specs.Costs.{moved_below, AreHalvingsBelow, AreFewBelow}
use Rattle.kin_wedge.specs.Rows.{row_of}

-- the lists are the orders along these directions
abbrev pub AreOrdersAlong : List Direction → Scene → List (List ℕ) → Type 0
AreOrdersAlong ways s rows = (k : ℕ) (d : Direction) → slice_get ways k ≡ Some d → IsOrder s d.dx d.dy (row_of rows k)

-- those from the n-th on are
abbrev AreOrdersFrom : ℕ → List Direction → Scene → List (List ℕ) → Type 0
AreOrdersFrom n ways s rows = (k : ℕ) (d : Direction) → slice_get ways k ≡ Some d → IsOrder s d.dx d.dy (row_of rows (n + k))

next_orders : (n : ℕ) (d : Direction) (ds : List Direction) (s : Scene) (rows : List (List ℕ)) → AreOrdersFrom n (d ∷ ds) s rows → AreOrdersFrom (suc n) ds s rows
next_orders n d ds s rows ordered k e known =
    let next : n + suc k ≡ suc n + k = omega arith in
    subst (λ m. IsOrder s e.dx e.dy (row_of rows m)) next (ordered (suc k) e known)

from_first : (ways : List Direction) (s : Scene) (rows : List (List ℕ)) → AreOrdersAlong ways s rows → AreOrdersFrom 0 ways s rows
from_first ways s rows ordered k d known =
    let same : k ≡ 0 + k = omega arith in
    subst (λ m. IsOrder s d.dx d.dy (row_of rows m)) same (ordered k d known)

way_at : (ways : List Direction) (k : ℕ) → k < length ways → (d : Direction) × (slice_get ways k ≡ Some d)
way_at [] k low = absurd (omega (arith, low))
way_at (d ∷ ds) zero low = (d, refl)
way_at (d ∷ ds) (suc k) low = way_at ds k (omega (arith, low))

-- ---- halvings
none_allowed : (mark : Mark) (m : ℕ) → AreHalvings mark m 0
none_allowed Rest m = refl
none_allowed (Enters i) m = omega arith
none_allowed (Leaves i) m = refl
none_allowed Broken m = refl

-- those of n lists with m members each are at most n times those of one
record HalveAtMost (n : ℕ) (mark : Mark) (m total : ℕ) : Type 0 where
  each : ℕ
  allowed : AreHalvings mark m each
  bound : total ≤ n * each

halve_at_most : (n : ℕ) (mark : Mark) (rows : List (List ℕ)) (m total : ℕ) → ((k : ℕ) → k < n → length (row_of rows k) ≡ m) → AreHalvingsBelow n mark rows total → HalveAtMost n mark m total
halve_at_most zero mark rows m total long h = record { each = 0; allowed = none_allowed mark m; bound = omega (arith, h) }
halve_at_most (suc n) mark rows m total long (before, own, h, k, e) =
    at (halve_at_most n mark rows m before (λ i low. long i (omega (arith, low))) h) (subst (λ j. AreHalvings mark j own) (long n (omega arith)) k)
  where
    greater : (b : HalveAtMost n mark m before) → AreHalvings mark m own → (b.each ≤ own) ⊎ (own ≤ b.each) → HalveAtMost (suc n) mark m total
    greater b here (inl l) =
        let c = b.bound in
        let g = mul-le n b.each n own (omega arith) l in
        record { each = own; allowed = here; bound = omega (arith, c, g, e) }
    greater b here (inr l) = let c = b.bound in record { each = b.each; allowed = b.allowed; bound = omega (arith, c, l, e) }

    at : HalveAtMost n mark m before → AreHalvings mark m own → HalveAtMost (suc n) mark m total
    at b here = greater b here (grind arith)

module _ (v w : Scene) (real : IsReal v) (real' : IsReal w) where
  -- the halvings of a mark are those of the number that enters
  halvings_as : (mark : Mark) (k : ℕ) → LeadsTo mark v.live w.live → AreHalvings mark (length v.live) k → MayBisect v w k
  halvings_as Rest k leads h = inl h
  halvings_as (Enters i) k leads h = inr (i, leads, h)
  halvings_as (Leaves i) k leads h = inl h
  halvings_as Broken k leads h = inl h

  -- ---- pairs that change places
  moved_as : (d : Direction) (xs ys : List ℕ) → IsOrder v d.dx d.dy xs → IsOrder w d.dx d.dy ys → moved_pairs xs ys ≡ moved_along v w d
  moved_as d xs ys old new = ap₂ moved_pairs (order_computed v d.dx d.dy xs real old) (order_computed w d.dx d.dy ys real' new)

  moved_from : (n : ℕ) (ways : List Direction) (old new : List (List ℕ)) → AreOrdersFrom n ways v old → AreOrdersFrom n ways w new
      → moved_below (n + length ways) old new ≡ moved_below n old new + sum_by (moved_along v w) ways
  moved_from n [] old new were are =
      let all : n + 0 ≡ n = omega arith in
      let same = ap (λ m. moved_below m old new) all in
      omega (arith, same)
  moved_from n (d ∷ ds) old new were are =
      let first : n + 0 ≡ n = omega arith in
      let one : n + suc (length ds) ≡ suc n + length ds = omega arith in
      let same = ap (λ m. moved_below m old new) one in
      let here = moved_as d (row_of old n) (row_of new n) (subst (λ m. IsOrder v d.dx d.dy (row_of old m)) first (were 0 d refl)) (subst (λ m. IsOrder w d.dx d.dy (row_of new m)) first (are 0 d refl)) in
      let rest = moved_from (suc n) ds old new (next_orders n d ds v old were) (next_orders n d ds w new are) in
      let both = sum_by-cons (moved_along v w) d ds in
      omega (arith, same, here, rest, both)

  -- ---- members
  as_long : (d : Direction) (xs : List ℕ) → IsOrder v d.dx d.dy xs → length xs ≡ length v.live
  as_long d xs order = ap length (order_computed v d.dx d.dy xs real order) ∙ sorted-length (is_before v d.dx d.dy) v.live

  module _ (ways : List Direction) (old new : List (List ℕ)) (were : AreOrdersAlong ways v old) (are : AreOrdersAlong ways w new) where
    row_long : (k : ℕ) → k < length ways → length (row_of old k) ≡ length v.live
    row_long k low = let d = way_at ways k low in as_long d.0 (row_of old k) (were k d.0 d.1)

    moved_all : moved_below (length ways) old new ≡ sum_by (moved_along v w) ways
    moved_all =
        let all : 0 + length ways ≡ length ways = omega arith in
        let same = ap (λ m. moved_below m old new) all in
        let moved = moved_from 0 ways old new (from_first ways v old were) (from_first ways w new are) in
        omega (arith, same, moved)

    -- where a mark has led from the one scene to the other
    pub orders_ask : (mark : Mark) (facts facts' : List Placed) (out out' : Change) (before after : ℕ) → LeadsTo mark v.live w.live
        → ListsExactly facts (IsFactAlong ways v) → ListsExactly facts' (IsFactAlong ways w) → HasChanged facts facts' out out' → AreFewBelow (length ways) mark old new out out' before after
        → HasRisenWithin (MayOrdersAsk ways v w) before after
    orders_ask mark facts facts' out out' before after leads had has changed few =
        let report = reported facts facts' (IsFactAlong ways v) (IsFactAlong ways w) out out' had has changed in
        let halve = halve_at_most (length ways) mark old (length v.live) few.halvings row_long few.allowed in
        let moved = moved_all in
        let dropped = report.dropped in
        let born = report.born in
        let bound = few.bound in
        let most = halve.bound in (
          8 * (length report.change.dropped + length report.change.born + sum_by (moved_along v w) ways) + length ways * halve.each,
          record { change = report.change; changed = report.changed; halvings = halve.each; allowed = halvings_as mark halve.each leads halve.allowed; bound = omega arith },
          omega (arith, moved, dropped, born, bound, most),
        )
