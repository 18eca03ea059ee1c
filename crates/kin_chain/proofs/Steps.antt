-- The steps of the walk: where it starts, what a breakpoint of either half leads to, and the signs of its ends.
use Rattle.std.proofs.Common.{◌≡◌, inl, refl, sym, ap, ◌∙◌, List, ◌∷◌, ℕ}
use Rattle.std.specs.Prelude.{Option, Some, None}
use Rattle.kin_algebra.proofs.Members.{contains_tail}
use Rattle.kin_algebra.specs.declared.sign.Sign.{Sign}
use Rattle.kin_algebra.specs.Signs.{opposite_of}
use Rattle.kin_algebra.proofs.OrderedRings.{OrderedRing}
use Rattle.kin_motion.specs.Numbers.{IsIn}
use Rattle.kin_motion.specs.Scene.{Scene}
use Rattle.kin_motion.specs.Merges.{Half.{A, B}, Breakpoint, point_of}
use Rattle.kin_motion.specs.Cells.{above_at, above_left, above_right}
use Rattle.kin_motion.proofs.BreakpointLaws.{comes}
use Rattle.kin_motion.proofs.Members.{in_head, in_tail, in_left, in_right}
use Rattle.kin_motion.proofs.ListChains.{chain_tail}
use Rattle.kin_chain.proofs.Comparisons.{way, turned, level_behind, level_before}
use Rattle.kin_chain.proofs.Planes.{Places, step, height}
use Rattle.kin_chain.proofs.Geometry.{Direction, up, along, rises_steeper, level_ends}
use Rattle.kin_chain.proofs.OuterSigns.{left_sign, right_sign}
use Rattle.kin_chain.proofs.Sides.{Side, pass_own, pass_other}
use Rattle.kin_chain.proofs.Ground.{Merging, both, At, goes_right, steep_next}

module _ {R : Type 0} (o : OrderedRing R) (ps : Places o) (s : Scene) (m : Merging o ps s) where
  pub a_inside : (c : ℕ) → IsIn c (m.a ∷ m.as') → IsIn c (both o ps s m)
  a_inside c i = in_left c m.left m.right (m.a_known.inside c i)

  pub b_inside : (c : ℕ) → IsIn c (m.b ∷ m.bs) → IsIn c (both o ps s m)
  b_inside c i = in_right c m.left m.right (m.b_known.inside c i)

  -- ---- the left outer end
  pub at_start : At o ps s m m.outer.left None m.a m.as' m.b m.bs m.breakpoints
  at_start = record {
    a_side = record { own = m.list.of_a; part = λ c i. i; passed = λ c i. inl i };
    b_side = record { own = m.list.of_b; part = λ c i. i; passed = λ c i. inl i };
    rights = m.rights;
    sorted = m.sorted;
    to_end = m.outer.steeper;
    start = λ f k. m.outer.by_left f.left f.right (m.ends f k).0 (m.ends f k).1 (m.rights f k);
  }

  -- ---- behind a breakpoint
  -- what both halves have in common there
  behind : {l : Direction o} {before : Option Breakpoint} {a : ℕ} {as' : List ℕ} {b : ℕ} {bs : List ℕ} (e : Breakpoint) {es : List Breakpoint} (at : At o ps s m l before a as' b bs (e ∷ es)) → IsIn e.left (both o ps s m) → IsIn e.right (both o ps s m)
      → {a' : ℕ} {as'' : List ℕ} {b' : ℕ} {bs' : List ℕ} → Side o ps (m.a ∷ m.as') A (along o ps e.left e.right (goes_right o ps s m e at)) a' as'' es → Side o ps (m.b ∷ m.bs) B (along o ps e.left e.right (goes_right o ps s m e at)) b' bs' es → point_of e.half a' b' ≡ e.right
      → At o ps s m (along o ps e.left e.right (goes_right o ps s m e at)) (Some e) a' as'' b' bs' es
  behind e {es} at from to a_side b_side point = record {
    a_side = a_side;
    b_side = b_side;
    rights = λ f k. at.rights f (contains_tail e f es k);
    sorted = chain_tail (comes s m.slopes) e es at.sorted;
    to_end = rises_steeper o ps (goes_right o ps s m e at) (m.outer.by_right e.left e.right from to (goes_right o ps s m e at));
    start = record { right = goes_right o ps s m e at; vector = refl; inside = from; placed = at.sorted; point = point };
  }

  module _ {l : Direction o} {before : Option Breakpoint} {a j : ℕ} {as' : List ℕ} {b : ℕ} {bs : List ℕ} {es : List Breakpoint} where
    pub behind_a : (at : At o ps s m l before a (j ∷ as') b bs (record { half = A; left = a; right = j } ∷ es))
        → At o ps s m (along o ps a j (goes_right o ps s m (record { half = A; left = a; right = j }) at)) (Some (record { half = A; left = a; right = j })) j as' b bs es
    behind_a at =
        behind e at (a_inside a (at.a_side.part a (in_head a (j ∷ as')))) (a_inside j (at.a_side.part j (in_tail j a (j ∷ as') (in_head j as'))))
        (pass_own o ps (goes_right o ps s m e at) at.a_side (steep_next o ps s m e at)) (pass_other o ps e (along o ps a j (goes_right o ps s m e at)) at.b_side refl (steep_next o ps s m e at)) refl
      where
        e : Breakpoint
        e = record { half = A; left = a; right = j }

  module _ {l : Direction o} {before : Option Breakpoint} {a : ℕ} {as' : List ℕ} {b j : ℕ} {bs : List ℕ} {es : List Breakpoint} where
    pub behind_b : (at : At o ps s m l before a as' b (j ∷ bs) (record { half = B; left = b; right = j } ∷ es))
        → At o ps s m (along o ps b j (goes_right o ps s m (record { half = B; left = b; right = j }) at)) (Some (record { half = B; left = b; right = j })) a as' j bs es
    behind_b at =
        behind e at (b_inside b (at.b_side.part b (in_head b (j ∷ bs)))) (b_inside j (at.b_side.part j (in_tail j b (j ∷ bs) (in_head j bs))))
        (pass_other o ps e (along o ps b j (goes_right o ps s m e at)) at.a_side refl (steep_next o ps s m e at)) (pass_own o ps (goes_right o ps s m e at) at.b_side (steep_next o ps s m e at)) refl
      where
        e : Breakpoint
        e = record { half = B; left = b; right = j }

  -- ---- signs of ends: which of a and b is higher along the end's direction
  -- + where a is higher than b
  abbrev pub higher : (ℕ → R) → ℕ → ℕ → Sign
  higher v a b = o.sign (way o v b a)

  pub above_at_a : (a j b : ℕ) → above_at s a b (record { half = A; left = a; right = j }) ≡ higher (height o ps (step o ps a j)) a b
  above_at_a a j b = ap opposite_of (m.shows.turns a j b) ∙ sym (turned o (height o ps (step o ps a j)) a b)

  pub above_at_b : (a b j : ℕ) → above_at s a b (record { half = B; left = b; right = j }) ≡ higher (height o ps (step o ps b j)) a b
  above_at_b a b j = m.shows.turns b j a

  -- the sign is the same behind the breakpoint
  pub above_behind_a : (a j b : ℕ) → above_at s a b (record { half = A; left = a; right = j }) ≡ higher (height o ps (step o ps a j)) j b
  above_behind_a a j b = above_at_a a j b ∙ level_behind o b (level_ends o ps a j)

  pub above_behind_b : (a b j : ℕ) → above_at s a b (record { half = B; left = b; right = j }) ≡ higher (height o ps (step o ps b j)) a j
  above_behind_b a b j = above_at_b a b j ∙ level_before o a (level_ends o ps b j)

  pub above_left_is : (a b : ℕ) → IsIn a (both o ps s m) → IsIn b (both o ps s m) → above_left s a b ≡ higher (up o ps m.outer.left) a b
  above_left_is a b i j = left_sign o ps s m.shows m.outer a b i j

  pub above_right_is : (a b : ℕ) → IsIn a (both o ps s m) → IsIn b (both o ps s m) → above_right s a b ≡ higher (up o ps m.outer.right) a b
  above_right_is a b i j = right_sign o ps s m.shows m.outer a b i j
