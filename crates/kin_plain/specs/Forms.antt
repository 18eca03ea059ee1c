-- Facts of several forms, and those of a range.
use Rattle.std.specs.Prelude.{ℕ, pos, List, ◌++◌, map}
use Rattle.kin_motion.specs.declared.fact.Placed.{Placed}
use Rattle.kin_motion.specs.declared.form.Form.{Form}
use Rattle.kin_motion.specs.Orders.{order_facts}
use Rattle.kin_motion.specs.Scene.{Scene, placed_at}

-- each form with its sign, all in one part
abbrev pub all_placed : Scene → ℕ → List Form → List Placed
all_placed s part forms = map (placed_at s part) forms

-- the facts of the orders along x and along y
abbrev pub range_facts : Scene → List Placed
range_facts s = order_facts s (pos 1) (pos 0) 0 ++ order_facts s (pos 0) (pos 1) 1
