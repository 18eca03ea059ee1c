-- The facts of both trees among those of the hull.
use Rattle.std.specs.Prelude.{◌+◌, ◌*◌, ◌/◌, ◌%◌, Bool, not, nat_eq}
use Rattle.kin_motion.specs.declared.fact.Placed.{Placed}
use Rattle.kin_motion.specs.Scene.{Scene, reflected}
use Rattle.kin_motion.specs.ReflectedFacts.{reflected_fact}
use Rattle.kin_hull.specs.declared.side.Side.{Side}
use Rattle.kin_hull.specs.declared.side.Side.TheVariants.{Upper, Lower}

-- the scene in which a tree keeps upper chains
abbrev pub seen_from : Side → Scene → Scene
seen_from Upper s = s
seen_from Lower s = reflected s

-- a fact of a tree among those of the hull: node v of the upper tree has part 2v, and node v of the lower tree part 2v + 1, with the real sign
abbrev pub outward : Side → Placed → Placed
outward Upper p = record { part = 2 * p.part; fact = p.fact }
outward Lower p = record { part = 2 * p.part + 1; fact = reflected_fact p.fact }

-- whether a fact of the hull is of that tree
abbrev pub is_of : Side → Placed → Bool
is_of Upper p = nat_eq (p.part % 2) 0
is_of Lower p = not (nat_eq (p.part % 2) 0)

-- such a fact as it is in the tree
abbrev pub inward : Side → Placed → Placed
inward Upper p = record { part = p.part / 2; fact = p.fact }
inward Lower p = record { part = p.part / 2; fact = reflected_fact p.fact }

-- of what there is for both trees, that of one
abbrev pub items_of : {A : Type 0} → Side → A → A → A
items_of Upper above below = above
items_of Lower above below = below
