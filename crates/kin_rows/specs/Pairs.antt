-- Two numbers in order along x and along y, with the signs of their facts.
use Rattle.std.specs.Prelude.{ℕ, ℤ, pos, List, [], ◌∷◌}
use Rattle.kin_motion.specs.declared.fact.Placed.{Placed}
use Rattle.kin_motion.specs.declared.form.Form.TheVariants.{Line}
use Rattle.kin_motion.specs.Numbers.{Lists}
use Rattle.kin_motion.specs.Scene.{Scene}
use Rattle.kin_motion.specs.Contents.{IsSettledRange}
use Rattle.kin_rows.specs.declared.pair.Row.{Row}
use Rattle.kin_rows.specs.declared.pair.Pair.{Pair}

-- the two numbers in their order
abbrev pub items_of : Row → List ℕ
items_of r = r.first ∷ r.second ∷ []

-- the fact of the two neighbours along a direction
abbrev pub fact_of : ℤ → ℤ → ℕ → Row → Placed
fact_of dx dy part r = record { part = part; fact = record { form = Line dx dy (pos 0) r.first r.second; sign = r.sign } }

-- one fact along x in part 0, and one along y in part 1
abbrev pub pair_facts : Pair → List Placed
pair_facts k = fact_of (pos 1) (pos 0) 0 k.by_x ∷ fact_of (pos 0) (pos 1) 1 k.by_y ∷ []

-- its numbers are exactly the live ones
pub record IsReady (k : Pair) (s : Scene) : Type 0 where
  pub x_numbers : Lists (items_of k.by_x) s.live
  pub y_numbers : Lists (items_of k.by_y) s.live

-- both rows are the orders, and the facts are theirs
abbrev pub IsSettled : Pair → Scene → Type 0
IsSettled k s = IsSettledRange s (items_of k.by_x) (items_of k.by_y) (pair_facts k)
