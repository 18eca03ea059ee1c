-- What a kinetic closest pair means to its callers.
use Rattle.std.specs.Prelude.{◌≡◌, ℕ, ◌+◌, ◌*◌, ◌^◌, ◌<◌, ◌≤◌, ◌++◌, List, length, filter, map, Bool, true, Option, IsTrue}
use Rattle.kin_motion.specs.declared.fact.Placed.{Placed}
use Rattle.kin_motion.specs.declared.keep.Keep.{Keep}
use Rattle.kin_motion.specs.declared.keep.Keep.TheVariants as keep
use Rattle.kin_motion.specs.Agreements.{FitsSize}
use Rattle.kin_motion.specs.Contents.{IsSettledClosest}
use Rattle.kin_motion.specs.ClosestPairs.{Near, distance_key, pair_in}
use Rattle.kin_motion.specs.Deltas.{Change}
use Rattle.kin_motion.specs.Kinetics.{HasChanged}
use Rattle.kin_motion.specs.Octants.{ListsChanged}
use Rattle.kin_motion.specs.Parts.{moved_by}
use Rattle.kin_motion.specs.Scene.{Scene}
use Rattle.kin_list.specs.declared.mark.Mark.TheVariants.{Enters}
use Rattle.kin_list.specs.Keeping.{LeadsTo}
use Rattle.kin_list.specs.Listing.{HasMarked}
use Rattle.kin_tourney.specs.Tournament.{Tournament, IsAtRest, IsSettled, winner_at}
use Rattle.kin_wedge.specs.Costs.{AreFewBelow}
use Rattle.kin_wedge.specs.Wedging.{Wedging, candidate_told, members_of, IsReadyWedging, IsWedgingAtRest, IsSettledWedging}
use Rattle.kin_pairs.specs.declared.distance.Distance.{Distance}
use Rattle.kin_near.specs.BestPairs.{HoldCandidates}
use Rattle.kin_pairs.specs.PairKeys.{pair_names}
use Rattle.kin_pairs.specs.Sorting.{is_beyond}

-- the eight orders with their candidates, the tournament of pairs, and false after want of memory
pub record Closing : Type 0 where
  pub wedges : Wedging
  pub pairs : Tournament Distance Near
  pub whole : Bool

-- the facts of the orders, and after them those of the tournament
abbrev pub facts_of : Closing → List Placed
facts_of k = k.wedges.facts ++ map (moved_by 8) k.pairs.facts

-- the best pair of all slots
abbrev pub pair_told : Closing → Option (ℕ × ℕ)
pair_told k = pair_in (winner_at k.pairs 1)

-- the closest pair and the facts are the definition's, and so is what they are found by: the octants, the pairs in the slots and their tournament
pub record IsSettledClosing (k : Closing) (s : Scene) : Type 0 where
  pub closest : IsSettledClosest s k.wedges.size (pair_told k) (facts_of k)
  pub fits : FitsSize k.wedges.size s
  pub octants : IsSettledWedging k.wedges s
  pub size : k.pairs.size ≡ k.wedges.size + 3
  pub held : HoldCandidates k.wedges.size (candidate_told k.wedges) k.pairs.slots
  pub pairs : IsSettled pair_names distance_key k.pairs s

-- no mark waits
pub record IsClosingAtRest (k : Closing) : Type 0 where
  pub rest : IsWedgingAtRest k.wedges
  pub whole : IsTrue k.whole

-- the members as they will be are the live numbers
pub record IsReadyClosing (k : Closing) (s : Scene) : Type 0 where
  pub members : IsReadyWedging k.wedges s
  pub whole : IsTrue k.whole

-- what is true between two calls: it was settled in some scene, and since then at most one number was marked
pub record AreJoined (wedges : Wedging) (pairs : Tournament Distance Near) : Type 0 where
  pub seen : Scene
  pub settled : IsSettledClosing (record { wedges = wedges; pairs = pairs; whole = true }) seen
  pub rest : IsAtRest pairs
  pub room : length pairs.marked ≡ 2 ^ pairs.size
  pub entering : (i : ℕ) → wedges.mark ≡ Enters i → i < 2 ^ wedges.size
  pub small : wedges.size ≤ 12

-- the tests of the orders are few; `changed` lists the slots that have another candidate; and the tournament asks at most one sign a level for each of these and for each of its failed facts
pub record AreFewTests (old new : Closing) (failed : List Placed) (out : Change) (before after : ℕ) : Type 0 where
  pub mid : ℕ
  pub orders_out : Change
  pub reported : HasChanged old.wedges.facts new.wedges.facts out orders_out
  pub orders : AreFewBelow 8 old.wedges.mark old.wedges.orders new.wedges.orders out orders_out before mid
  pub changed : ListsChanged old.wedges.size (candidate_told old.wedges) (candidate_told new.wedges) new.wedges.changed
  pub pairs : after ≤ mid + (old.wedges.size + 3) * (length new.wedges.changed + length (filter (is_beyond 8) failed))

-- ---- as the structure of a keep
-- the closest pair is kept
abbrev pub IsClosestKeep : Keep → Type 0
IsClosestKeep keep.Closest = Unit {0}
IsClosestKeep _ = ⊥

-- it is for the numbers below 2^size
abbrev pub IsClosingFor : Closing → ℕ → Keep → Type 0
IsClosingFor k size kept = (kept ≡ keep.Closest) × (k.wedges.size ≡ size)

-- its members are these numbers, once its mark is carried out
pub record HasMembers (k : Closing) (set : List ℕ) : Type 0 where
  pub members : HasMarked k.wedges.mark (members_of k.wedges) set
  pub whole : IsTrue k.whole

-- it is for as many numbers
abbrev pub StaysClosing : Closing → Closing → Type 0
StaysClosing old new = new.wedges.size ≡ old.wedges.size

-- it was settled in this scene, and its mark leads from the live numbers there to these
pub record FollowsClosing (k : Closing) (s : Scene) (live : List ℕ) : Type 0 where
  pub settled : IsSettledClosing k s
  pub led : LeadsTo k.wedges.mark s.live live
