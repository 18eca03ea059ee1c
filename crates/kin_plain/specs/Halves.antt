-- The two chains of a merge.
use Rattle.std.specs.Prelude.{ℕ, ◌+◌, ◌*◌, List, [], ◌∷◌, map, Bool, true, false}
use Rattle.kin_motion.specs.declared.fact.Placed.{Placed}
use Rattle.kin_motion.specs.declared.form.Form.{Form}
use Rattle.kin_motion.specs.Chains.{upper_chain_of}
use Rattle.kin_motion.specs.Merges.{Half, Breakpoint, breakpoint_list, forms_of_ends, forms_of_merge, points_under}
use Rattle.kin_motion.specs.Numbers.{IsIn}
use Rattle.kin_motion.specs.Scene.{Scene, placed_at}

-- A for the first chain, and B for the second
abbrev pub half_of : Bool → Half
half_of true = Half.A
half_of false = Half.B

-- both points of a breakpoint are live
pub record AreEndsLive (live : List ℕ) (e : Breakpoint) : Type 0 where
  pub left_live : IsIn e.left live
  pub right_live : IsIn e.right live

-- the forms of both outer ends of two chains; none where a chain is empty
abbrev pub ends_of : Scene → List ℕ → List ℕ → List Form
ends_of s [] bs = []
ends_of s (a ∷ as') [] = []
ends_of s (a ∷ as') (b ∷ bs) = forms_of_ends s a as' b bs

-- the forms of a merge from the chains that are seen in a view
abbrev pub forms_between : Scene → Scene → List ℕ → List ℕ → List Form
forms_between view s a b = forms_of_merge s a b (breakpoint_list view a b)

-- their facts, all in one part
abbrev pub facts_between : Scene → Scene → ℕ → List ℕ → List ℕ → List Placed
facts_between view s part a b = map (placed_at s part) (forms_between view s a b)

-- the upper chain of the live numbers under a node
abbrev pub chain_at : Scene → ℕ → ℕ → List ℕ
chain_at view size v = upper_chain_of view (points_under size view v)

-- the forms at a node from the chains that are seen in a view
abbrev pub forms_seen : Scene → Scene → ℕ → ℕ → List Form
forms_seen view s size v = forms_between view s (chain_at view size (2 * v)) (chain_at view size (2 * v + 1))
