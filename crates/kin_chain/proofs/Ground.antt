-- The merge of two chains in terms of places: what is known, and the state of a walk along the breakpoint list.
use Rattle.std.proofs.Common.{◌≡◌, ◌⊎◌, inl, inr, refl, sym, ap, ◌∙◌, subst, ◌<◌, List, ◌∷◌, ◌++◌, ℕ, Bool, true, false, not, ◌&&◌}
use Rattle.std.specs.Prelude.{Contains, Option, Some, None}
use Rattle.kin_algebra.proofs.Members.{contains_head, contains_cases}
use Rattle.kin_algebra.specs.declared.sign.Sign.{Sign}
use Rattle.kin_algebra.specs.declared.sign.Sign.TheVariants.{Minus, Zero, Plus}
use Rattle.kin_algebra.specs.Signs.{opposite_of}
use Rattle.kin_algebra.proofs.Signs.{AtLeast}
use Rattle.kin_algebra.proofs.OrderedRings.{OrderedRing}
use Rattle.kin_motion.specs.Numbers.{IsChain, IsIn}
use Rattle.kin_motion.specs.Scene.{Scene}
use Rattle.kin_motion.specs.Chains.{is_zero}
use Rattle.kin_motion.specs.Laws.{HasSlopeLaws}
use Rattle.kin_motion.specs.Merges.{Half, Half.{A, B}, Breakpoint, is_of, slope_form, goes_first, point_of, IsBreakpointList}
use Rattle.kin_motion.specs.Cells.{is_narrow}
use Rattle.kin_motion.proofs.ListChains.{chain_first}
use Rattle.kin_motion.proofs.BreakpointLaws.{comes, right_signs, comes_through}
use Rattle.kin_chain.proofs.Comparisons.{way, AtMost, Below, Level, below_most, level_most, level_turned}
use Rattle.kin_algebra.proofs.Vectors.{cross, anti}
use Rattle.kin_chain.proofs.Planes.{Places, Shows, step, height, fall}
use Rattle.kin_chain.proofs.Geometry.{Direction, Steep, Steeper, up, along, steep_along, falls_steeper, level_ends}
use Rattle.kin_chain.proofs.Outer.{Outer}
use Rattle.kin_chain.proofs.Sides.{ChainOf, Falls, Side}

module _ {R : Type 0} (o : OrderedRing R) (ps : Places o) (s : Scene) where
  -- two sets, their upper chains, and the list of breakpoints
  pub record Merging : Type 0 where
    pub shows : Shows o s ps
    pub slopes : HasSlopeLaws s
    pub left : List ℕ
    pub right : List ℕ
    pub a : ℕ
    pub as' : List ℕ
    pub b : ℕ
    pub bs : List ℕ
    pub a_known : ChainOf o ps left (a ∷ as')
    pub b_known : ChainOf o ps right (b ∷ bs)
    pub less : (i j : ℕ) → IsIn i left → IsIn j right → i < j
    pub breakpoints : List Breakpoint
    pub list : IsBreakpointList s (a ∷ as') (b ∷ bs) breakpoints
    pub rights : (f : Breakpoint) → Contains breakpoints f → Below o ps.x f.left f.right
    pub ends : (f : Breakpoint) → Contains breakpoints f → IsIn f.left (left ++ right) × IsIn f.right (left ++ right)
    pub sorted : IsChain (comes s slopes) breakpoints
    pub outer : Outer o ps (left ++ right)

  not_minus : {t : Sign} (g h : Half) → goes_first t g h ≡ true → AtLeast t
  not_minus {t} g h e = at t e
    where
      at : (t : Sign) → goes_first t g h ≡ true → AtLeast t
      at Minus e = absurd cc
      at Zero e = inr refl
      at Plus e = inl refl

  not_narrow : (t : Sign) (g h : Half) → goes_first t g h ≡ true → not (is_of g h) && is_zero t ≡ false → t ≡ Plus
  not_narrow Plus g h e f = refl
  not_narrow Minus g h e f = absurd cc
  not_narrow Zero A A e f = absurd cc
  not_narrow Zero A B e f = absurd cc
  not_narrow Zero B h e f = absurd cc

  narrow_zero : (t : Sign) (b : Bool) → b && is_zero t ≡ true → t ≡ Zero
  narrow_zero Zero b e = refl
  narrow_zero Plus true e = absurd cc
  narrow_zero Plus false e = absurd cc
  narrow_zero Minus true e = absurd cc
  narrow_zero Minus false e = absurd cc

  module _ (m : Merging) where
    abbrev pub both : List ℕ
    both = m.left ++ m.right

    -- a cell begins at a breakpoint d: the direction is that of d, and its right point is current
    pub record Behind (l : Direction o) (d : Breakpoint) (a b : ℕ) (es : List Breakpoint) : Type 0 where
      pub right : Below o ps.x d.left d.right
      pub vector : l.vector ≡ step o ps d.left d.right
      pub inside : IsIn d.left both
      pub placed : IsChain (comes s m.slopes) (d ∷ es)
      pub point : point_of d.half a b ≡ d.right

    -- a cell begins at the left outer end, where everything falls, or at a breakpoint
    abbrev pub Start : Direction o → Option Breakpoint → ℕ → ℕ → List Breakpoint → Type 0
    Start l None a b es = (f : Breakpoint) → Contains es f → Below o (up o ps l) f.right f.left
    Start l (Some d) a b es = Behind l d a b es

    -- the walk stands before the breakpoints es, behind an end of direction l, with the current points a and b
    pub record At (l : Direction o) (before : Option Breakpoint) (a : ℕ) (as' : List ℕ) (b : ℕ) (bs : List ℕ) (es : List Breakpoint) : Type 0 where
      pub a_side : Side o ps (m.a ∷ m.as') A l a as' es
      pub b_side : Side o ps (m.b ∷ m.bs) B l b bs es
      pub rights : (f : Breakpoint) → Contains es f → Below o ps.x f.left f.right
      pub sorted : IsChain (comes s m.slopes) es
      pub to_end : Steeper o l m.outer.right
      pub start : Start l before a b es

    -- ---- what comes falls
    placed_falls : (d f : Breakpoint) → comes s m.slopes d f ≡ true → AtMost o (height o ps (step o ps d.left d.right)) f.right f.left
    placed_falls d f c = record { is = subst AtLeast (m.shows.slopes d.left d.right f.left f.right) (not_minus d.half f.half (right_signs s m.slopes d f c).2) }

    behind_falls : (d : Breakpoint) (es : List Breakpoint) → IsChain (comes s m.slopes) (d ∷ es) → (f : Breakpoint) → Contains es f → AtMost o (height o ps (step o ps d.left d.right)) f.right f.left
    behind_falls d es placed f k = placed_falls d f (chain_first (comes s m.slopes) (comes_through s m.slopes) d es placed f k)

    pub own_falls : (e : Breakpoint) (es : List Breakpoint) (r : Below o ps.x e.left e.right) → IsChain (comes s m.slopes) (e ∷ es) → Falls o ps (along o ps e.left e.right r) (e ∷ es)
    own_falls e es r placed f k = at (contains_cases e f es k)
      where
        at : (e ≡ f) ⊎ Contains es f → AtMost o (height o ps (step o ps e.left e.right)) f.right f.left
        at (inl q) = subst (λ (g : Breakpoint). AtMost o (height o ps (step o ps e.left e.right)) g.right g.left) q (level_most o (level_turned o (level_ends o ps e.left e.right)))
        at (inr h) = behind_falls e es placed f h

    start_falls : (l : Direction o) (before : Option Breakpoint) (a b : ℕ) (es : List Breakpoint) → Start l before a b es → Falls o ps l es
    start_falls l None a b es start f k = below_most o (start f k)
    start_falls l (Some d) a b es start f k = subst (λ v. AtMost o (height o ps v) f.right f.left) (sym start.vector) (behind_falls d es start.placed f k)

    module _ {l : Direction o} {before : Option Breakpoint} {a : ℕ} {as' : List ℕ} {b : ℕ} {bs : List ℕ} {es : List Breakpoint} (at : At l before a as' b bs es) where
      pub falls : Falls o ps l es
      falls = start_falls l before a b es at.start

    -- ---- the first breakpoint that comes
    module _ {l : Direction o} {before : Option Breakpoint} {a : ℕ} {as' : List ℕ} {b : ℕ} {bs : List ℕ} (e : Breakpoint) {es : List Breakpoint} (at : At l before a as' b bs (e ∷ es)) where
      pub goes_right : Below o ps.x e.left e.right
      goes_right = at.rights e (contains_head e es)

      pub steep_next : Steep o l (along o ps e.left e.right goes_right)
      steep_next = steep_along o ps goes_right (falls at e (contains_head e es))

      slope_is : (d : Breakpoint) → Behind l d a b (e ∷ es) → s.sign (slope_form d e) ≡ o.sign (way o (up o ps l) e.right e.left)
      slope_is d h = m.shows.slopes d.left d.right e.left e.right ∙ ap (λ v. o.sign (way o (height o ps v) e.right e.left)) (sym h.vector)

      -- a wide cell has a steeper left end
      pub wide_steeper : is_narrow s before e ≡ false → Steeper o l (along o ps e.left e.right goes_right)
      wide_steeper n = falls_steeper o ps goes_right (by_end before at.start n)
        where
          by_end : (before : Option Breakpoint) → Start l before a b (e ∷ es) → is_narrow s before e ≡ false → Below o (up o ps l) e.right e.left
          by_end None start n = start e (contains_head e es)
          by_end (Some d) start n = record { is = sym (slope_is d start) ∙ not_narrow (s.sign (slope_form d e)) d.half e.half (right_signs s m.slopes d e start.placed.0).2 n }

      -- the ends of a narrow cell are level
      pub narrow_level : is_narrow s before e ≡ true → Level o (up o ps l) e.right e.left
      narrow_level n = by_end before at.start n
        where
          by_end : (before : Option Breakpoint) → Start l before a b (e ∷ es) → is_narrow s before e ≡ true → Level o (up o ps l) e.right e.left
          by_end None start n = absurd cc
          by_end (Some d) start n = record { is = sym (slope_is d start) ∙ narrow_zero (s.sign (slope_form d e)) (not (is_of d.half e.half)) n }

      pub narrow_parallel : is_narrow s before e ≡ true → o.sign (cross o l.vector (along o ps e.left e.right goes_right).vector) ≡ Zero
      narrow_parallel n =
          ap o.sign (anti o (step o ps e.left e.right) l.vector) ∙ o.sign_negative (cross o (step o ps e.left e.right) l.vector)
          ∙ ap opposite_of (ap o.sign (sym (fall o ps l.vector e.left e.right)) ∙ (narrow_level n).is)
