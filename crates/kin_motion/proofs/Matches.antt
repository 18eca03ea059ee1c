-- A tournament, node by node.
use Rattle.std.specs.Prelude.{◌≡◌, ℕ, ◌+◌, ◌*◌, ◌^◌, ◌<◌, cond, List, Option, Some, None, Contains}
use Rattle.kin_motion.specs.declared.fact.Placed.{Placed}
use Rattle.kin_motion.specs.Scene.{Scene, placed_at}
use Rattle.kin_motion.specs.Kinetics.{AreDistinct}
use Rattle.kin_motion.specs.Tournaments.{Key, beats, item_in}

-- no fact is in this part
abbrev pub HasNoFact : List Placed → ℕ → Type 0
HasNoFact facts v = (p : Placed) → Contains facts p → p.part ≡ v → ⊥

-- the winner and the fact of a node, from the winners of its halves
abbrev pub IsMatch : {Item : Type 0} → Scene → Key Item → List Placed → ℕ → Option Item → Option Item → Option Item → Type 0
IsMatch s key facts v winner None None = (winner ≡ None) × HasNoFact facts v
IsMatch s key facts v winner (Some a) None = (winner ≡ Some a) × HasNoFact facts v
IsMatch s key facts v winner None (Some b) = (winner ≡ Some b) × HasNoFact facts v
IsMatch s key facts v winner (Some a) (Some b) = (winner ≡ Some (cond (beats s key a b) a b)) × Contains facts (placed_at s v (key.form a b))

-- each leaf is its slot, each inner node is the match of its halves, and each inner node has one fact at most
pub record IsPlayed {Item : Type 0} (s : Scene) (key : Key Item) (size : ℕ) (slots : List (Option Item)) (winner : ℕ → Option Item) (facts : List Placed) : Type 0 where
  pub leaves : (i : ℕ) → i < 2 ^ size → winner (2 ^ size + i) ≡ item_in slots i
  pub matches : (v : ℕ) → 0 < v → v < 2 ^ size → IsMatch s key facts v (winner v) (winner (2 * v)) (winner (2 * v + 1))
  pub once : AreDistinct facts
  pub one_fact : (p q : Placed) → Contains facts p → Contains facts q → p.part ≡ q.part → p ≡ q
  pub inner : (p : Placed) → Contains facts p → (0 < p.part) × (p.part < 2 ^ size)
