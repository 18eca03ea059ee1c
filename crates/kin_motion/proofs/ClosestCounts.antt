-- The facts of a closest pair are those of eight orders, and of a tournament of which each live number has eight slots at most.
use Rattle.std.proofs.Common.{◌≡◌, refl, ap, ◌∙◌, subst, arith, List, [], ◌∷◌, ℕ, zero, suc, ◌+◌, ◌*◌, ◌-◌, ◌/◌, ◌%◌, ◌<◌, ◌≤◌, length, map}
use Rattle.std.specs.Prelude.{Some, Contains, flat_map, slice_get}
use Rattle.std.proofs.lemmas.List.{length-append, length-map}
use Rattle.kin_algebra.proofs.Members.{contains_head, contains_tail}
use Rattle.kin_motion.specs.Numbers.{numbers_from}
use Rattle.kin_motion.specs.Scene.{Scene, IsReal}
use Rattle.kin_motion.specs.Orders.{order_facts}
use Rattle.kin_motion.specs.Parts.{moved_by}
use Rattle.kin_motion.specs.Tournaments.{item_in, tournament_facts}
use Rattle.kin_motion.specs.Octants.{Direction, eight_directions}
use Rattle.kin_motion.specs.ClosestPairs.{Near, distance_key}
use Rattle.kin_motion.specs.ClosestFacts.{near_slots, wedge_facts_from, wedge_facts, closest_facts}
use Rattle.kin_motion.proofs.Members.{contains_from_in}
use Rattle.kin_motion.proofs.SetSizes.{contains_joined, length_joined}
use Rattle.kin_motion.proofs.NodeLaws.{held_slot}
use Rattle.kin_motion.proofs.NearLaws.{octant_at, near_agrees}
use Rattle.kin_motion.proofs.OrderCounts.{order_count}
use Rattle.kin_motion.proofs.TournamentCounts.{tournament_count}

-- ---- the orders
ways_count : (s : Scene) (part : ℕ) (ds : List Direction) (n : ℕ) → length s.live - 1 ≡ n → length (wedge_facts_from s part ds) ≡ length ds * n
ways_count s part [] n e = omega arith
ways_count s part (d ∷ ds) n e =
    let both = length-append (order_facts s d.dx d.dy part) (wedge_facts_from s (part + 1) ds) in
    let first = order_count s d.dx d.dy part in
    let rest = ways_count s (part + 1) ds n e in
    omega (arith, both, first, rest, e)

pub wedge_count : (s : Scene) → length (wedge_facts s) ≡ 8 * (length s.live - 1)
wedge_count s = ways_count s 0 eight_directions (length s.live - 1) refl

-- ---- the tournament
in_turn : (a k i : ℕ) → i < k → Contains (numbers_from a k) (a + i)
in_turn a zero i low = absurd (omega (arith, low))
in_turn a (suc k) zero low = let same : a ≡ a + 0 = omega arith in subst (λ v. Contains (numbers_from a (suc k)) v) same (contains_head a (numbers_from (a + 1) k))
in_turn a (suc k) (suc i) low =
    let same : a + 1 + i ≡ a + suc i = omega arith in
    contains_tail a (a + suc i) (numbers_from (a + 1) k) (subst (λ v. Contains (numbers_from (a + 1) k) v) same (in_turn (a + 1) k i (omega (arith, low))))

-- the slots of a point
eight_from : ℕ → List ℕ
eight_from p = numbers_from (8 * p) 8

module _ (size : ℕ) (s : Scene) (real : IsReal s) where
  -- only slots of live numbers hold something
  slot_of_live : (i : ℕ) (n : Near) → item_in (near_slots size s) i ≡ Some n → Contains (flat_map eight_from s.live) i
  unfolding eight_from
  slot_of_live i n e =
      let o = octant_at (i % 8) (omega arith) in
      let place : 8 * (i / 8) + i % 8 ≡ i = omega arith in
      let held = (near_agrees s real size).each (i / 8) (i % 8) o.0 (Some n) o.1 (ap (slice_get (near_slots size s)) place ∙ held_slot (near_slots size s) i n e) in
      subst (λ v. Contains (flat_map eight_from s.live) v) place
      (contains_joined eight_from s.live (i / 8) (8 * (i / 8) + i % 8) (contains_from_in s.live (i / 8) held.1) (in_turn (8 * (i / 8)) 8 (i % 8) (omega arith)))

  pair_count : length (tournament_facts s distance_key (size + 3) (near_slots size s)) ≤ 8 * length s.live - 1
  unfolding eight_from
  pair_count =
      let slots = (near_agrees s real size).count in
      let few = tournament_count s distance_key (size + 3) (near_slots size s) (omega (arith, slots)) (flat_map eight_from s.live) slot_of_live in
      let places = length_joined eight_from 8 s.live (λ p c. omega arith) in
      omega (arith, few, places)

  pub closest_count : length (closest_facts size s) ≤ 8 * (length s.live - 1) + (8 * length s.live - 1)
  closest_count =
      let both = length-append (wedge_facts s) (map (moved_by 8) (tournament_facts s distance_key (size + 3) (near_slots size s))) in
      let orders = wedge_count s in
      let moved = length-map (tournament_facts s distance_key (size + 3) (near_slots size s)) (moved_by 8) in
      let pairs = pair_count in
      omega (arith, both, orders, moved, pairs)
