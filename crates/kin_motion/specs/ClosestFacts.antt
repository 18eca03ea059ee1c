-- The tournament of pairs, and the facts of the closest pair.
use Rattle.std.specs.Prelude.{◌≡◌, ℕ, ◌+◌, ◌*◌, ◌^◌, cond, List, [], ◌∷◌, ◌++◌, map, flat_map, Option, Some, None, MatchOption, slice_get, length, min, max, ◌⊎◌}
use Rattle.kin_motion.specs.declared.fact.Placed.{Placed}
use Rattle.kin_motion.specs.Numbers.{IsIn, is_in, numbers_from}
use Rattle.kin_motion.specs.Scene.{Scene}
use Rattle.kin_motion.specs.Orders.{IsOrderFact, order_facts}
use Rattle.kin_motion.specs.Tournaments.{IsNodeFact, tournament_facts}
use Rattle.kin_motion.specs.Parts.{moved_by}
use Rattle.kin_motion.specs.Octants.{Octant, octants, IsCandidate, candidate_of, Direction, eight_directions}
use Rattle.kin_motion.specs.ClosestPairs.{Near, distance_key}

-- the pair of a point and its candidate, the lesser number first
abbrev pub near : ℕ → ℕ → ℕ → Near
near slot p c = record { i = min p c; j = max p c; slot = slot }

-- what the slot of p and an octant holds: p and its candidate, where p is live and has one
abbrev pub HoldsNear : Scene → Octant → ℕ → ℕ → Option Near → Type 0
HoldsNear s o p slot held = MatchOption held ((c : ℕ) → IsIn p s.live → ¬ (IsCandidate s o p c)) (λ n. (c : ℕ) × IsIn p s.live × IsCandidate s o p c × (n ≡ near slot p c))

-- slot 8p + w is that of p and octant w
pub record AreNearSlots (size : ℕ) (s : Scene) (slots : List (Option Near)) : Type 0 where
  pub count : length slots ≡ 2 ^ (size + 3)
  pub each : (p w : ℕ) (o : Octant) (held : Option Near) → slice_get octants w ≡ Some o → slice_get slots (8 * p + w) ≡ Some held → HoldsNear s o p (8 * p + w) held

-- the same by computation
abbrev pub near_of : ℕ → ℕ → Option ℕ → Option Near
near_of slot p None = None
near_of slot p (Some c) = Some (near slot p c)

-- the slots of p for these octants, from a slot on
abbrev pub near_slots_of_point : Scene → ℕ → ℕ → List Octant → List (Option Near)
near_slots_of_point s p slot [] = []
near_slots_of_point s p slot (o ∷ os) = cond (is_in p s.live) (near_of slot p (candidate_of s o p)) None ∷ near_slots_of_point s p (slot + 1) os

-- all slots by computation
abbrev pub near_slots : ℕ → Scene → List (Option Near)
near_slots size s = flat_map (λ p. near_slots_of_point s p (8 * p) octants) (numbers_from 0 (2 ^ size))

-- a fact of one of the eight orders
pub record IsWedgeFact (s : Scene) (p : Placed) : Type 0 where
  pub way : Direction
  pub known : slice_get eight_directions p.part ≡ Some way
  pub fact : IsOrderFact s way.dx way.dy p.part p

-- a fact of the tournament of pairs
pub record IsPairFact (size : ℕ) (s : Scene) (p : Placed) : Type 0 where
  pub slots : List (Option Near)
  pub filled : AreNearSlots size s slots
  pub node : Placed
  pub fact : IsNodeFact s distance_key (size + 3) slots node
  pub placed : p ≡ moved_by 8 node

-- a fact of the eight orders, or of the tournament of pairs
abbrev pub IsClosestFact : ℕ → Scene → Placed → Type 0
IsClosestFact size s p = IsWedgeFact s p ⊎ IsPairFact size s p

-- the same by computation
abbrev pub wedge_facts_from : Scene → ℕ → List Direction → List Placed
wedge_facts_from s part [] = []
wedge_facts_from s part (d ∷ ds) = order_facts s d.dx d.dy part ++ wedge_facts_from s (part + 1) ds

-- all facts of the eight orders by computation
abbrev pub wedge_facts : Scene → List Placed
wedge_facts s = wedge_facts_from s 0 eight_directions

-- all facts of the closest pair by computation
abbrev pub closest_facts : ℕ → Scene → List Placed
closest_facts size s =
    wedge_facts s
    ++ map (moved_by 8) (tournament_facts s distance_key (size + 3) (near_slots size s))
