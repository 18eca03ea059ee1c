-- How the two sets of a merge lie at the ends of its cells, as statements.
use Rattle.std.specs.Prelude.{◌≡◌, ℕ, true, List, ◌∷◌, ◌++◌, Contains}
use Rattle.kin_motion.specs.Numbers.{IsIn}
use Rattle.kin_motion.specs.Scene.{Scene, IsReal}
use Rattle.kin_motion.specs.Merges.{Half, Half.{A, B}, Breakpoint, IsBreakpointList, IsCurrent, other, point_of}
use Rattle.kin_motion.specs.Cells.{Cell, cells_of}
use Rattle.kin_chain.specs.Merging.{AreTold}
use Rattle.kin_chain.specs.Upper.{IsAsHigh}

-- of two lists, one of A and one of B, that of the half
abbrev pub list_of : Half → List ℕ → List ℕ → List ℕ
list_of A as' bs = as'
list_of B as' bs = bs

-- a merge of two chains with the first points a and b, and a place of its breakpoint list
pub record IsPlace (s : Scene) (left right : List ℕ) (a : ℕ) (as' : List ℕ) (b : ℕ) (bs : List ℕ) (before : List Breakpoint) (e : Breakpoint) (behind : List Breakpoint) : Type 0 where
  pub real : IsReal s
  pub told : AreTold s left right (a ∷ as') (b ∷ bs)
  pub list : IsBreakpointList s (a ∷ as') (b ∷ bs) (before ++ e ∷ behind)

-- support: at each breakpoint the current point of either half is at least as high along it as every point of its set
abbrev pub Support : Type 0
Support = (s : Scene) (left right : List ℕ) (a : ℕ) (as' : List ℕ) (b : ℕ) (bs : List ℕ) (before : List Breakpoint) (e : Breakpoint) (behind : List Breakpoint) (h : Half) (k q : ℕ)
    → IsPlace s left right a as' b bs before e behind → IsCurrent h (point_of h a b) before k → IsIn q (list_of h left right) → IsAsHigh s e.left e.right k q

-- outermost: at each breakpoint the current point of the other chain is at least as high along it as every point of that chain
abbrev pub Outermost : Type 0
Outermost = (s : Scene) (left right : List ℕ) (a : ℕ) (as' : List ℕ) (b : ℕ) (bs : List ℕ) (before : List Breakpoint) (e : Breakpoint) (behind : List Breakpoint) (k l : ℕ)
    → IsPlace s left right a as' b bs before e behind → IsCurrent (other e.half) (point_of (other e.half) a b) before k → IsIn l (list_of (other e.half) (a ∷ as') (b ∷ bs)) → IsAsHigh s e.left e.right k l

-- ties agree: both ends of a narrow cell have the same half above, or neither
abbrev pub TiesAgree : Type 0
TiesAgree = (s : Scene) (left right : List ℕ) (a : ℕ) (as' : List ℕ) (b : ℕ) (bs : List ℕ) (es : List Breakpoint) (c : Cell)
    → IsReal s → AreTold s left right (a ∷ as') (b ∷ bs) → IsBreakpointList s (a ∷ as') (b ∷ bs) es → Contains (cells_of s a b es) c → c.narrow ≡ true → c.left ≡ c.right
