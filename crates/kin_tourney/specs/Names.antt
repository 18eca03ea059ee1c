-- The numbers that items name, and what holds of items that name live numbers alone.
use Rattle.std.specs.Prelude.{◌≡◌, ◌≢◌, ℕ, true, not, List, Option, Some}
use Rattle.std.specs.List.{All}
use Rattle.kin_motion.specs.Numbers.{IsIn}
use Rattle.kin_motion.specs.Scene.{Scene, IsReal}
use Rattle.kin_motion.specs.Tournaments.{Key, beats, item_in}

-- each number is live
abbrev pub AreLive : List ℕ → List ℕ → Type 0
AreLive live xs = All (λ i. IsIn i live) xs

-- each item in a slot names live numbers
abbrev pub HoldLive : {Item : Type 0} → (Item → List ℕ) → List ℕ → List (Option Item) → Type 0
HoldLive {Item} names live slots = (i : ℕ) (a : Item) → item_in slots i ≡ Some a → AreLive live (names a)

-- of two different items exactly one beats the other
abbrev pub IsTotal : {Item : Type 0} → (Item → List ℕ) → Key Item → Type 0
IsTotal {Item} names key = (s : Scene) (x y : Item) → IsReal s → AreLive s.live (names x) → AreLive s.live (names y) → x ≢ y → beats s key y x ≡ not (beats s key x y)

-- "beats" is transitive
abbrev pub IsTransitive : {Item : Type 0} → (Item → List ℕ) → Key Item → Type 0
IsTransitive {Item} names key = (s : Scene) (x y z : Item) → IsReal s → AreLive s.live (names x) → AreLive s.live (names y) → AreLive s.live (names z) → beats s key x y ≡ true → beats s key y z ≡ true → beats s key x z ≡ true
