-- A tournament as its callers see it.
use Rattle.std.specs.Prelude.{◌≡◌, ℕ, ◌+◌, ◌^◌, Bool, false, ◌&&◌, ◌||◌, List, [], ◌∷◌, length, Option, Some, None, slice_index_or, Contains, IsTrue, IsFalse}
use Rattle.std.specs.List.{count_by}
use Rattle.kin_motion.specs.declared.fact.Placed.{Placed}
use Rattle.kin_motion.specs.Forms.{IsAskable}
use Rattle.kin_motion.specs.Scene.{Scene, Holds}
use Rattle.kin_motion.specs.Tournaments.{Key, item_in, is_under}
use Rattle.kin_motion.specs.Contents.{IsSettledTournament}
use Rattle.kin_tourney.specs.Names.{HoldLive}

-- what each slot holds and whether it is marked; the winner of each node; the facts, each in the part of its node; false where a settle was cut off
pub record Tournament (K Item : Type 0) : Type 0 where
  pub key : K
  pub size : ℕ
  pub slots : List (Option Item)
  pub marked : List Bool
  pub winners : List (Option Item)
  pub facts : List Placed
  pub whole : Bool

-- the winner of a node
abbrev pub winner_at : {K Item : Type 0} → Tournament K Item → ℕ → Option Item
winner_at t v = slice_index_or t.winners v None

-- whether a slot is marked
abbrev pub mark_in : List Bool → ℕ → Bool
mark_in marked i = slice_index_or marked i false

-- how many slots are marked
abbrev pub mark_count : List Bool → ℕ
mark_count marked = count_by (λ m. m) marked

-- whether one of these slots, from slot i on, is marked and is under a node
abbrev pub is_above_mark_from : ℕ → ℕ → ℕ → List Bool → Bool
is_above_mark_from size v i [] = false
is_above_mark_from size v i (m ∷ ms) = (m && is_under size v i) || is_above_mark_from size v (i + 1) ms

-- whether a node is above a marked slot
abbrev pub is_above_mark : ℕ → List Bool → ℕ → Bool
is_above_mark size marked v = is_above_mark_from size v 0 marked

-- no slot is marked
pub record IsAtRest {K Item : Type 0} (t : Tournament K Item) : Type 0 where
  pub whole : IsTrue t.whole
  pub unmarked : (i : ℕ) → mark_in t.marked i ≡ false

-- different slots hold different items, which name live numbers alone
pub record IsReady {K Item : Type 0} (names : Item → List ℕ) (t : Tournament K Item) (s : Scene) : Type 0 where
  pub whole : IsTrue t.whole
  pub apart : (i j : ℕ) (a : Item) → item_in t.slots i ≡ Some a → item_in t.slots j ≡ Some a → i ≡ j
  pub live : HoldLive names s.live t.slots

-- the winner of each node is the best of its slots, and the facts are those of the nodes
pub record IsSettled {K Item : Type 0} (names : Item → List ℕ) (key : Key Item) (t : Tournament K Item) (s : Scene) : Type 0 where
  pub room : length t.slots ≡ 2 ^ t.size
  pub ready : IsReady names t s
  pub tournament : IsSettledTournament s key t.size t.slots (winner_at t) t.facts

-- the list has facts alone, and of those that may be asked for, as they name live numbers alone, all that don't hold
pub record CoversAskable (facts : List Placed) (s : Scene) (failed : List Placed) : Type 0 where
  pub only : (p : Placed) → Contains failed p → Contains facts p
  pub all : (p : Placed) → Contains facts p → IsAskable s.live p.fact.form → ¬ (Holds s p.fact) → Contains failed p

-- the list has facts alone, and of those that aren't spared all that don't hold
pub record CoversFailing (facts : List Placed) (is_spared : Placed → Bool) (s : Scene) (failed : List Placed) : Type 0 where
  pub only : (p : Placed) → Contains failed p → Contains facts p
  pub all : (p : Placed) → Contains facts p → IsFalse (is_spared p) → ¬ (Holds s p.fact) → Contains failed p
