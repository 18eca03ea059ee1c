-- The merge of the upper chains A and B of two sets, and the trees of merges of the hull.
use Rattle.std.specs.Prelude.{◌≡◌, ℕ, ◌+◌, ◌*◌, ◌^◌, ◌-◌, Bool, true, false, ◌&&◌, cond, pos, List, [], ◌∷◌, ◌++◌, map, filter, flat_map, Contains, ◌⊎◌}
use Rattle.kin_algebra.specs.declared.sign.Sign.{Sign}
use Rattle.kin_algebra.specs.declared.sign.Sign.TheVariants.{Minus, Zero, Plus}
use Rattle.kin_motion.specs.declared.form.Form.{Form}
use Rattle.kin_motion.specs.declared.form.Form.TheVariants.{Line, Turn, Slope}
use Rattle.kin_motion.specs.declared.fact.Placed.{Placed}
use Rattle.kin_motion.specs.Numbers.{IsChain, numbers_from}
use Rattle.kin_motion.specs.Scene.{Scene, x_sign, placed_at, reflected}
use Rattle.kin_motion.specs.Chains.{is_zero, IsUpperChain, upper_chain_of}
use Rattle.kin_motion.specs.Tournaments.{is_under}

-- the two halves of a node: every number of A is less than every number of B
pub data Half : Type 0 where
  A : Half
  B : Half

-- whether it is of that half
abbrev pub is_of : Half → Half → Bool
is_of A A = true
is_of A B = false
is_of B A = false
is_of B B = true

-- two neighbours of one of the chains
pub record Breakpoint : Type 0 where
  pub half : Half
  pub left : ℕ
  pub right : ℕ

-- the breakpoints of a chain from left to right
abbrev pub breakpoints_of : Half → List ℕ → List Breakpoint
breakpoints_of h [] = []
breakpoints_of h (i ∷ []) = []
breakpoints_of h (i ∷ j ∷ ps) = record { half = h; left = i; right = j } ∷ breakpoints_of h (j ∷ ps)

-- the form that compares two breakpoints by slope
abbrev pub slope_form : Breakpoint → Breakpoint → Form
slope_form e f = Slope e.left e.right f.left f.right

-- the first is steeper, or equally steep and alone of A
abbrev pub goes_first : Sign → Half → Half → Bool
goes_first Plus g h = true
goes_first Zero g h = is_of A g && is_of B h
goes_first Minus g h = false

-- whether e is placed before f: by falling slope, and where slopes are equal that of A before that of B
abbrev pub is_placed_before : Scene → Breakpoint → Breakpoint → Bool
is_placed_before s e f = goes_first (s.sign (slope_form e f)) e.half f.half

-- the breakpoints of one half, in their order
abbrev pub own_of : Half → List Breakpoint → List Breakpoint
own_of h es = filter (λ e. is_of h e.half) es

-- the breakpoints of both chains in one list, each chain's in its order
pub record IsInterleaving (a b : List ℕ) (es : List Breakpoint) : Type 0 where
  pub of_a : own_of A es ≡ breakpoints_of A a
  pub of_b : own_of B es ≡ breakpoints_of B b

-- the breakpoints of both chains in one list, by falling slope, with those of A first where slopes are equal
pub record IsBreakpointList (s : Scene) (a b : List ℕ) (es : List Breakpoint) : Type 0 where
  pub of_a : own_of A es ≡ breakpoints_of A a
  pub of_b : own_of B es ≡ breakpoints_of B b
  pub falling : IsChain (is_placed_before s) es

-- the list fs with e put before the first that it is placed before
abbrev pub put_before : Scene → Breakpoint → List Breakpoint → List Breakpoint
put_before s e [] = e ∷ []
put_before s e (f ∷ fs) = cond (is_placed_before s e f) (e ∷ f ∷ fs) (f ∷ put_before s e fs)

-- the list es put into fs
abbrev pub merged : Scene → List Breakpoint → List Breakpoint → List Breakpoint
merged s [] fs = fs
merged s (e ∷ es) fs = put_before s e (merged s es fs)

-- the list of breakpoints by computation
abbrev pub breakpoint_list : Scene → List ℕ → List ℕ → List Breakpoint
breakpoint_list s a b = merged s (breakpoints_of A a) (breakpoints_of B b)

-- p is the current point of a half after these breakpoints: the first point of its chain where none of them is of that half, otherwise the right point of the
-- last one that is
abbrev pub IsCurrent : Half → ℕ → List Breakpoint → ℕ → Type 0
IsCurrent h first es p = ((own_of h es ≡ []) × (p ≡ first)) ⊎ ((ds : List Breakpoint) × (e : Breakpoint) × (own_of h es ≡ ds ++ e ∷ []) × (p ≡ e.right))

-- the other half
abbrev pub other : Half → Half
other A = B
other B = A

-- of two points, a of A and b of B, that of the half
abbrev pub point_of : Half → ℕ → ℕ → ℕ
point_of A a b = a
point_of B a b = b

-- (Y) at a breakpoint the turn to the current point of the other half; a and b are the first points of the chains
pub record IsTurnForm (a b : ℕ) (es : List Breakpoint) (f : Form) : Type 0 where
  pub before : List Breakpoint
  pub place : Breakpoint
  pub behind : List Breakpoint
  pub point : ℕ
  pub split : es ≡ before ++ place ∷ behind
  pub current : IsCurrent (other place.half) (point_of (other place.half) a b) before point
  pub form : f ≡ Turn place.left place.right point

-- (X) the slope of each two neighbours of different halves
abbrev pub slope_between : Breakpoint → Breakpoint → List Form
slope_between e f = cond (is_of e.half f.half) [] (slope_form e f ∷ [])

-- all slopes along a list of breakpoints
abbrev pub slopes_from : List Breakpoint → List Form
slopes_from [] = []
slopes_from (e ∷ []) = []
slopes_from (e ∷ f ∷ es) = slope_between e f ++ slopes_from (f ∷ es)

-- (E) at an outer end with the points a and b: by x, and where x is equal also by y
abbrev pub end_forms : Scene → ℕ → ℕ → List Form
end_forms s a b = Line (pos 1) (pos 0) (pos 0) a b ∷ cond (is_zero (x_sign s a b)) (Line (pos 0) (pos 1) (pos 0) a b ∷ []) []

-- the last point of a chain that begins with p
abbrev pub last_of : ℕ → List ℕ → ℕ
last_of p [] = p
last_of p (q ∷ qs) = last_of q qs

-- both outer ends; they are one where each chain has one point
abbrev pub forms_of_ends : Scene → ℕ → List ℕ → ℕ → List ℕ → List Form
forms_of_ends s a [] b [] = end_forms s a b
forms_of_ends s a as' b bs = end_forms s a b ++ end_forms s (last_of a as') (last_of b bs)

-- a form of a merge by its breakpoint list; none where a chain is empty
abbrev pub IsListedForm : Scene → List ℕ → List ℕ → List Breakpoint → Form → Type 0
IsListedForm s [] b es f = ⊥
IsListedForm s (a ∷ as') [] es f = ⊥
IsListedForm s (a ∷ as') (b ∷ bs) es f = IsTurnForm a b es f ⊎ (Contains (slopes_from es) f ⊎ Contains (forms_of_ends s a as' b bs) f)

-- a form of the merge of the upper chains of two sets
pub record IsMergeForm (s : Scene) (left right : List ℕ) (f : Form) : Type 0 where
  pub a : List ℕ
  pub b : List ℕ
  pub breakpoints : List Breakpoint
  pub a_chain : IsUpperChain s left a
  pub b_chain : IsUpperChain s right b
  pub sorted : IsBreakpointList s a b breakpoints
  pub listed : IsListedForm s a b breakpoints f

-- the current point of a half after one more breakpoint
abbrev pub current_after : Half → Breakpoint → ℕ → ℕ
current_after h e p = cond (is_of h e.half) e.right p

-- of the current points a of A and b of B, that of the other half
abbrev pub other_current : Half → ℕ → ℕ → ℕ
other_current h a b = point_of (other h) a b

-- the turns by computation; a and b are current before the first breakpoint
abbrev pub turns_from : ℕ → ℕ → List Breakpoint → List Form
turns_from a b [] = []
turns_from a b (e ∷ es) = Turn e.left e.right (other_current e.half a b) ∷ turns_from (current_after A e a) (current_after B e b) es

-- all forms of a merge by computation
abbrev pub forms_of_merge : Scene → List ℕ → List ℕ → List Breakpoint → List Form
forms_of_merge s [] b es = []
forms_of_merge s (a ∷ as') [] es = []
forms_of_merge s (a ∷ as') (b ∷ bs) es = turns_from a b es ++ slopes_from es ++ forms_of_ends s a as' b bs

-- and from the chains alone
abbrev pub forms_of_chains : Scene → List ℕ → List ℕ → List Form
forms_of_chains s a b = forms_of_merge s a b (breakpoint_list s a b)

-- the forms of the merge of two sets by computation
abbrev pub merge_forms : Scene → List ℕ → List ℕ → List Form
merge_forms s left right = forms_of_chains s (upper_chain_of s left) (upper_chain_of s right)

-- the live numbers in the slots under a node
abbrev pub points_under : ℕ → Scene → ℕ → List ℕ
points_under size s v = filter (is_under size v) s.live

-- a form at a node of the tree over slots
abbrev pub IsNodeForm : ℕ → Scene → ℕ → Form → Type 0
IsNodeForm size s v f = IsMergeForm s (points_under size s (2 * v)) (points_under size s (2 * v + 1)) f

-- the forms at a node by computation
abbrev pub node_forms : ℕ → Scene → ℕ → List Form
node_forms size s v = merge_forms s (points_under size s (2 * v)) (points_under size s (2 * v + 1))

-- a fact of the tree of upper chains, in the part of its node
pub record IsTreeFact (size : ℕ) (s : Scene) (p : Placed) : Type 0 where
  pub form : Form
  pub merge : IsNodeForm size s p.part form
  pub fact : p ≡ placed_at s p.part form

-- a fact of one merge, of two sets or of two chains
pub record IsMergeFact (s : Scene) (a b : List ℕ) (part : ℕ) (p : Placed) : Type 0 where
  pub form : Form
  pub merge : IsMergeForm s a b form
  pub fact : p ≡ placed_at s part form

-- a fact of the upper tree
pub record IsUpperFact (size : ℕ) (s : Scene) (p : Placed) : Type 0 where
  pub node : ℕ
  pub form : Form
  pub merge : IsNodeForm size s node form
  pub fact : p ≡ placed_at s (2 * node) form

-- a fact of the lower tree: its forms are those after y is turned round, and its signs are the real ones
pub record IsLowerFact (size : ℕ) (s : Scene) (p : Placed) : Type 0 where
  pub node : ℕ
  pub form : Form
  pub merge : IsNodeForm size (reflected s) node form
  pub fact : p ≡ placed_at s (2 * node + 1) form

-- a fact of the upper tree or of the lower tree
abbrev pub IsHullFact : ℕ → Scene → Placed → Type 0
IsHullFact size s p = IsUpperFact size s p ⊎ IsLowerFact size s p

-- the same by computation
abbrev pub hull_facts_of_node : ℕ → Scene → ℕ → List Placed
hull_facts_of_node size s v = map (placed_at s (2 * v)) (node_forms size s v) ++ map (placed_at s (2 * v + 1)) (node_forms size (reflected s) v)

-- all facts of the hull by computation
abbrev pub hull_facts : ℕ → Scene → List Placed
hull_facts size s = flat_map (hull_facts_of_node size s) (numbers_from 1 (2 ^ size - 1))
