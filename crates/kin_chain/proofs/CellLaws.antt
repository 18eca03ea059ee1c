-- Every cell of a merge is supported at both ends, and its signs say which current point is higher there.
use Rattle.std.proofs.Common.{◌≡◌, inl, refl, sym, ◌∙◌, subst, List, [], ◌∷◌, ℕ, Bool, true, false}
use Rattle.std.specs.Prelude.{Option, Some, None}
use Rattle.kin_algebra.proofs.Members.{contains_none}
use Rattle.kin_algebra.specs.declared.sign.Sign.{Sign}
use Rattle.kin_algebra.proofs.OrderedRings.{OrderedRing}
use Rattle.kin_motion.specs.Scene.{Scene}
use Rattle.kin_motion.specs.Merges.{Half.{B}, Breakpoint, current_after}
use Rattle.kin_motion.specs.Cells.{Cell, above_at, above_left, above_right, is_narrow, cells_from, cells_of}
use Rattle.kin_motion.specs.Numbers.{IsIn}
use Rattle.kin_motion.proofs.Members.{in_head}
use Rattle.kin_chain.proofs.Comparisons.{AtMost}
use Rattle.kin_chain.proofs.Planes.{Places}
use Rattle.kin_chain.proofs.Geometry.{Direction, Steep, Steeper, steeper_steep, up, parallel}
use Rattle.kin_chain.proofs.Outer.{own_steep}
use Rattle.kin_chain.proofs.Sides.{Falls, own_in_chain, support}
use Rattle.kin_chain.proofs.Stays.{Comes}
use Rattle.kin_chain.proofs.Ground.{Merging, At, falls, own_falls, goes_right, steep_next, wide_steeper, narrow_parallel}
use Rattle.kin_chain.proofs.Steps.{a_inside, b_inside, at_start, higher, above_left_is, above_right_is}
use Rattle.kin_chain.proofs.Nexts.{ahead, next}

module _ {R : Type 0} (o : OrderedRing R) (ps : Places o) (s : Scene) (m : Merging o ps s) where
  -- between ends of the directions l and r both current points are supported, and the signs say which is higher
  pub record Sound (l r : Direction o) (c : Cell) : Type 0 where
    pub a_in : IsIn c.a (m.a ∷ m.as')
    pub b_in : IsIn c.b (m.b ∷ m.bs)
    pub a_left : (q : ℕ) → IsIn q m.left → AtMost o (up o ps l) q c.a
    pub a_right : (q : ℕ) → IsIn q m.left → AtMost o (up o ps r) q c.a
    pub b_left : (q : ℕ) → IsIn q m.right → AtMost o (up o ps l) q c.b
    pub b_right : (q : ℕ) → IsIn q m.right → AtMost o (up o ps r) q c.b
    pub steep : Steep o l r
    pub left_sign : c.left ≡ higher o ps s m (up o ps l) c.a c.b
    pub right_sign : c.right ≡ higher o ps s m (up o ps r) c.a c.b
    pub wide : c.narrow ≡ false → Steeper o l r
    pub narrow : c.narrow ≡ true → c.left ≡ c.right

  -- cells that follow each other from an end of direction l and sign t, behind which a and b are current
  abbrev pub Linked : Direction o → Sign → ℕ → ℕ → List Cell → Type 0
  Linked l t a b [] = Unit {0}
  Linked l t a b (c ∷ cs) = (c.left ≡ t) × (c.a ≡ a) × (c.b ≡ b) × ((r : Direction o) × Sound l r c × ((a' : ℕ) × (b' : ℕ) × Comes o ps a a' × Comes o ps b b' × Linked r c.right a' b' cs))

  -- a cell between l and a direction r that comes
  sound : {l : Direction o} {before : Option Breakpoint} {a : ℕ} {as' : List ℕ} {b : ℕ} {bs : List ℕ} {es : List Breakpoint} (at : At o ps s m l before a as' b bs es) (r : Direction o) → Steep o l r → Falls o ps r es
      → (t u : Sign) → t ≡ higher o ps s m (up o ps l) a b → u ≡ higher o ps s m (up o ps r) a b → (n : Bool) → (n ≡ false → Steeper o l r) → (n ≡ true → t ≡ u) → Sound l r (record { a = a; b = b; left = t; right = u; narrow = n })
  sound {l} {before} {a} {as'} {b} {bs} {es} at r steep coming t u e f n wide narrow = record {
    a_in = own_in_chain o ps m.a_known at.a_side;
    b_in = own_in_chain o ps m.b_known at.b_side;
    a_left = support o ps m.a_known at.a_side l (own_steep o l) (falls o ps s m at);
    a_right = support o ps m.a_known at.a_side r steep coming;
    b_left = support o ps m.b_known at.b_side l (own_steep o l) (falls o ps s m at);
    b_right = support o ps m.b_known at.b_side r steep coming;
    steep = steep;
    left_sign = e;
    right_sign = f;
    wide = wide;
    narrow = narrow;
  }

  -- the last cell, which ends at the right outer end
  last_cell : (l : Direction o) (before : Option Breakpoint) (a : ℕ) (as' : List ℕ) (b : ℕ) (bs : List ℕ) (t : Sign) → At o ps s m l before a as' b bs [] → t ≡ higher o ps s m (up o ps l) a b → Linked l t a b (cells_from s before t a b [])
  last_cell l before a as' b bs t at e = (
    refl,
    refl,
    refl,
    (
      m.outer.right,
      sound at m.outer.right (steeper_steep o at.to_end) (λ f k. absurd (contains_none f k)) t (above_right s a b) e
          (above_right_is o ps s m a b (a_inside o ps s m a (own_in_chain o ps m.a_known at.a_side)) (b_inside o ps s m b (own_in_chain o ps m.b_known at.b_side))) false (λ n. at.to_end) (λ n. absurd cc),
      (a, b, inl refl, inl refl, tt),
    ),
  )

  -- what is to be shown of the rest of the walk
  abbrev Rest : List Breakpoint → Type 0
  Rest es = (l : Direction o) (before : Option Breakpoint) (a : ℕ) (as' : List ℕ) (b : ℕ) (bs : List ℕ) (t : Sign) → At o ps s m l before a as' b bs es → t ≡ higher o ps s m (up o ps l) a b → Linked l t a b (cells_from s before t a b es)

  pub linked : (es : List Breakpoint) → Rest es
  linked [] l before a as' b bs t at e = last_cell l before a as' b bs t at e
  linked (d ∷ es) l before a as' b bs t at e =
      let n = next o ps s m d at in (
        refl,
        refl,
        refl,
        (
          ahead o ps s m d at,
          sound at (ahead o ps s m d at) (steep_next o ps s m d at) (own_falls o ps s m d es (goes_right o ps s m d at) at.sorted) t (above_at s a b d) e n.above (is_narrow s before d) (wide_steeper o ps s m d at)
              (λ k. e ∙ parallel o ps l (ahead o ps s m d at) b a (narrow_parallel o ps s m d at k) ∙ sym n.above),
          (
            n.now.a,
            n.now.b,
            n.comes_a,
            n.comes_b,
            subst (λ x. Linked (ahead o ps s m d at) (above_at s a b d) n.now.a n.now.b (cells_from s (Some d) (above_at s a b d) x (current_after B d b) es)) n.a_is
                (subst (λ y. Linked (ahead o ps s m d at) (above_at s a b d) n.now.a n.now.b (cells_from s (Some d) (above_at s a b d) n.now.a y es)) n.b_is
                (linked es (ahead o ps s m d at) (Some d) n.now.a n.now.as' n.now.b n.now.bs (above_at s a b d) n.at n.above_now)),
          ),
        ),
      )

  -- the cells of the merge
  pub cells_linked : Linked m.outer.left (above_left s m.a m.b) m.a m.b (cells_of s m.a m.b m.breakpoints)
  cells_linked =
      linked m.breakpoints m.outer.left None m.a m.as' m.b m.bs (above_left s m.a m.b) (at_start o ps s m)
      (above_left_is o ps s m m.a m.b (a_inside o ps s m m.a (in_head m.a m.as')) (b_inside o ps s m m.b (in_head m.b m.bs)))
