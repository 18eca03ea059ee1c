-- What a tournament requires of the items in its slots.
use Rattle.std.specs.Prelude.{◌≡◌, ◌≢◌, ℕ, true, not, List, Option, Some}
use Rattle.kin_motion.specs.Scene.{Scene}
use Rattle.kin_motion.specs.Tournaments.{Key, beats, item_in}

-- of the items of two slots exactly one beats the other, and "beats" is transitive over the items of the slots
pub record IsFair {Item : Type 0} (s : Scene) (key : Key Item) (slots : List (Option Item)) : Type 0 where
  pub total : (i j : ℕ) (a b : Item) → i ≢ j → item_in slots i ≡ Some a → item_in slots j ≡ Some b → beats s key b a ≡ not (beats s key a b)
  pub through : (i j k : ℕ) (a b c : Item) → item_in slots i ≡ Some a → item_in slots j ≡ Some b → item_in slots k ≡ Some c → beats s key a b ≡ true → beats s key b c ≡ true → beats s key a c ≡ true
