-- Boxes that overlap: the intersecting pairs of axis-parallel boxes, as computational geometry and collision detection report them.
-- Each live point is the lower left corner of a closed box; all boxes have one width and one height.
use Rattle.std.specs.Prelude.{◌↔◌, ℕ, ◌<◌, Bool, ◌&&◌, ◌||◌, nat_lt, nat_eq, ℤ, pos, List, [], ◌∷◌, ◌++◌, map, filter, Contains, IsTrue}
use Rattle.kin_motion.specs.declared.form.Form.TheVariants.{Line}
use Rattle.kin_motion.specs.Boxes.{is_not_minus}
use Rattle.kin_motion.specs.Numbers.{IsIn, IsChain}
use Rattle.kin_motion.specs.Scene.{Scene}

-- along (dx, dy) the high end of the box of j, `size` farther than j, isn't before the low end of the box of i
abbrev pub reaches : Scene → ℤ → ℤ → ℤ → ℕ → ℕ → Bool
reaches s dx dy size i j = is_not_minus (s.sign (Line dx dy size i j))

-- along (dx, dy) each reaches the other
abbrev pub meet_along : Scene → ℤ → ℤ → ℤ → ℕ → ℕ → Bool
meet_along s dx dy size i j = reaches s dx dy size i j && reaches s dx dy size j i

-- the closed boxes have a point in common: they meet along x and along y
abbrev pub overlap : Scene → ℤ → ℤ → ℕ → ℕ → Bool
overlap s width height i j = meet_along s (pos 1) (pos 0) width i j && meet_along s (pos 0) (pos 1) height i j

-- two live points, the lesser first, whose boxes overlap
pub record IsOverlap (s : Scene) (width height : ℤ) (p : ℕ × ℕ) : Type 0 where
  pub first_live : IsIn p.0 s.live
  pub second_live : IsIn p.1 s.live
  pub rising : p.0 < p.1
  pub overlapping : IsTrue (overlap s width height p.0 p.1)

-- by the first number, then by the second
abbrev pub pair_before : ℕ × ℕ → ℕ × ℕ → Bool
pair_before p q = nat_lt p.0 q.0 || (nat_eq p.0 q.0 && nat_lt p.1 q.1)

-- all pairs whose boxes overlap, rising
pub record ListsOverlaps (s : Scene) (width height : ℤ) (pairs : List (ℕ × ℕ)) : Type 0 where
  pub rising : IsChain pair_before pairs
  pub each : (p : ℕ × ℕ) → Contains pairs p ↔ IsOverlap s width height p

-- each member with each later one
abbrev pub pairs_of : List ℕ → List (ℕ × ℕ)
pairs_of [] = []
pairs_of (i ∷ is) = map (λ j. (i, j)) is ++ pairs_of is

-- the same by computation
abbrev pub overlaps_of : Scene → ℤ → ℤ → List (ℕ × ℕ)
overlaps_of s width height = filter (λ p. overlap s width height p.0 p.1) (pairs_of s.live)
