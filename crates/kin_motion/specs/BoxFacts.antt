-- The ends of boxes in their order along each axis, as sweep and prune keeps them, and the facts of the neighbours: the certificates
-- of a kinetic sorted list of the ends.
use Rattle.std.specs.Prelude.{◌≡◌, ◌⊎◌, ℕ, ◌+◌, ◌*◌, ◌/◌, ◌%◌, nat_lt, nat_eq, Bool, true, false, ◌||◌, ◌&&◌, ℤ, pos, ◌*ℤ◌, ◌-ℤ◌, List, [], ◌∷◌, ◌++◌, flat_map, Contains}
use Rattle.kin_algebra.specs.declared.sign.Sign.{Sign}
use Rattle.kin_algebra.specs.declared.sign.Sign.TheVariants.{Minus, Zero, Plus}
use Rattle.kin_motion.specs.declared.form.Form.{Form}
use Rattle.kin_motion.specs.declared.form.Form.TheVariants.{Line}
use Rattle.kin_motion.specs.declared.fact.Placed.{Placed}
use Rattle.kin_motion.specs.Numbers.{is_in, IsOnce, IsChain, sorted_by}
use Rattle.kin_motion.specs.Scene.{Scene, placed_at}
use Rattle.kin_motion.specs.Sets.{ListsExactly}

-- the ends are numbered: the low end of the box of i, and its high end
abbrev pub low_end : ℕ → ℕ
low_end i = 2 * i

abbrev pub high_end : ℕ → ℕ
high_end i = 2 * i + 1

-- 0 for a low end, 1 for a high one
abbrev pub kind : ℕ → ℕ
kind e = e % 2

-- the point whose box has the end
abbrev pub point : ℕ → ℕ
point e = e / 2

-- how much farther the end b lies from its point than the end a from its own, where each box is `size` long
abbrev pub offset : ℤ → ℕ → ℕ → ℤ
offset size a b = (pos (kind b) -ℤ pos (kind a)) *ℤ size

-- how far the value of the end b is beyond that of the end a along (dx, dy)
abbrev pub end_form : ℤ → ℤ → ℤ → ℕ → ℕ → Form
end_form dx dy size a b = Line dx dy (offset size a b) (point a) (point b)

-- which of two ends comes first at equal values, by their kinds and points: a low end before a high one, and then the lesser point
abbrev pub ties : ℕ → ℕ → ℕ → ℕ → Bool
ties kind point kind' point' = nat_lt kind kind' || (nat_eq kind kind' && nat_lt point point')

-- whether the end a comes before the end b at this sign of their form
abbrev pub end_leads : Sign → ℕ → ℕ → Bool
end_leads Minus a b = false
end_leads Zero a b = ties (kind a) (point a) (kind b) (point b)
end_leads Plus a b = true

-- whether the end a is before the end b
abbrev pub end_before : Scene → ℤ → ℤ → ℤ → ℕ → ℕ → Bool
end_before s dx dy size a b = end_leads (s.sign (end_form dx dy size a b)) a b

-- both ends of the box of each live point, each once, each before the next
pub record IsEndOrder (s : Scene) (dx dy size : ℤ) (xs : List ℕ) : Type 0 where
  pub once : IsOnce xs
  pub all : (e : ℕ) → is_in e xs ≡ is_in (point e) s.live
  pub chain : IsChain (end_before s dx dy size) xs

-- the fact of two neighbours, in the part of their kinds, counted from the first part of the axis on
abbrev pub end_fact : Scene → ℤ → ℤ → ℤ → ℕ → ℕ → ℕ → Placed
end_fact s dx dy size first a b = placed_at s (first + (2 * kind a + kind b)) (end_form dx dy size a b)

-- the facts of each two neighbours
abbrev pub end_facts : Scene → ℤ → ℤ → ℤ → ℕ → List ℕ → List Placed
end_facts s dx dy size first [] = []
end_facts s dx dy size first (a ∷ []) = []
end_facts s dx dy size first (a ∷ b ∷ xs) = end_fact s dx dy size first a b ∷ end_facts s dx dy size first (b ∷ xs)

-- a fact of the order: that of two neighbours
pub record IsEndFact (s : Scene) (dx dy size : ℤ) (first : ℕ) (p : Placed) : Type 0 where
  pub order : List ℕ
  pub ordered : IsEndOrder s dx dy size order
  pub listed : Contains (end_facts s dx dy size first order) p

-- a fact of boxes: one of the order along x in parts 0 to 3, or of the order along y in parts 4 to 7
abbrev pub IsBoxFact : Scene → ℤ → ℤ → Placed → Type 0
IsBoxFact s width height p = IsEndFact s (pos 1) (pos 0) width 0 p ⊎ IsEndFact s (pos 0) (pos 1) height 4 p

-- the orders along x and along y, and exactly the facts of boxes
pub record AreBoxes (s : Scene) (width height : ℤ) (by_x by_y : List ℕ) (facts : List Placed) : Type 0 where
  pub x_order : IsEndOrder s (pos 1) (pos 0) width by_x
  pub y_order : IsEndOrder s (pos 0) (pos 1) height by_y
  pub exact : ListsExactly facts (IsBoxFact s width height)

-- ---- by computation
-- both ends of the box of each point
abbrev pub ends_of : List ℕ → List ℕ
ends_of live = flat_map (λ i. low_end i ∷ high_end i ∷ []) live

abbrev pub end_order_of : Scene → ℤ → ℤ → ℤ → List ℕ
end_order_of s dx dy size = sorted_by (end_before s dx dy size) (ends_of s.live)

abbrev pub boxes_facts : Scene → ℤ → ℤ → List Placed
boxes_facts s width height =
    end_facts s (pos 1) (pos 0) width 0 (end_order_of s (pos 1) (pos 0) width) ++ end_facts s (pos 0) (pos 1) height 4 (end_order_of s (pos 0) (pos 1) height)
