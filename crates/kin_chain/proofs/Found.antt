-- What a cell gives, and that a point that stays is given by a cell between ends at which it enters and leaves.
use Rattle.std.proofs.Common.{◌≡◌, ◌⊎◌, inl, inr, refl, sym, ap, ◌∙◌, subst, arith, List, [], ◌∷◌, ◌++◌, ℕ, Bool, true, false, not, ◌&&◌, cond, nat_eq}
use Rattle.std.specs.Prelude.{Option, Some, None}
use Rattle.std.proofs.lemmas.Bool.Decides.{nat_tests}
use Rattle.kin_algebra.specs.declared.sign.Sign.{Sign}
use Rattle.kin_algebra.specs.declared.sign.Sign.TheVariants.{Minus, Zero, Plus}
use Rattle.kin_algebra.specs.Signs.{opposite_of}
use Rattle.kin_algebra.proofs.OrderedRings.{OrderedRing}
use Rattle.kin_motion.specs.Scene.{Scene}
use Rattle.kin_motion.specs.Chains.{is_zero}
use Rattle.kin_motion.specs.Merges.{Half, Half.{A, B}, Breakpoint, is_of, other, breakpoints_of, goes_first, point_of, slope_form}
use Rattle.kin_motion.specs.Cells.{above_of, is_narrow, given_by}
use Rattle.kin_motion.proofs.BreakpointLaws.{right_signs}
use Rattle.kin_motion.specs.Numbers.{IsIn}
use Rattle.kin_motion.proofs.Members.{in_head, in_cases, in_left, in_right}
use Rattle.kin_chain.proofs.Comparisons.{AtMost, Below, Level, turned, then_below, most_most, level_most, level_turned, most_or_below}
use Rattle.kin_chain.proofs.Planes.{Places, height}
use Rattle.kin_chain.proofs.Geometry.{Direction, up, straight, under, level_ends}
use Rattle.kin_chain.proofs.Stays.{Stays}
use Rattle.kin_chain.proofs.Sides.{own_in_chain}
use Rattle.kin_chain.proofs.Ground.{Merging, both, Behind, Start, At, goes_right, narrow_level}
use Rattle.kin_chain.proofs.Steps.{a_inside, b_inside, higher}
use Rattle.kin_chain.proofs.Meets.{Enters, Leaves, Together}

-- ---- what a cell gives, by its signs
pub gives_left : (t u : Sign) (n : Bool) (a b p : ℕ) → IsIn p (above_of t a b) → IsIn p (given_by (record { a = a; b = b; left = t; right = u; narrow = n }))
gives_left t u n a b p i = in_left p (above_of t a b ++ above_of u a b) (cond (is_zero t && is_zero u && not n) (a ∷ []) []) (in_left p (above_of t a b) (above_of u a b) i)

pub gives_right : (t u : Sign) (n : Bool) (a b p : ℕ) → IsIn p (above_of u a b) → IsIn p (given_by (record { a = a; b = b; left = t; right = u; narrow = n }))
gives_right t u n a b p i = in_left p (above_of t a b ++ above_of u a b) (cond (is_zero t && is_zero u && not n) (a ∷ []) []) (in_right p (above_of t a b) (above_of u a b) i)

gives_level : (t u : Sign) (n : Bool) (a b : ℕ) → t ≡ Zero → u ≡ Zero → n ≡ false → IsIn a (given_by (record { a = a; b = b; left = t; right = u; narrow = n }))
gives_level t u n a b e f g =
    in_right a (above_of t a b ++ above_of u a b) (cond (is_zero t && is_zero u && not n) (a ∷ []) [])
    (subst (λ v. IsIn a (cond (is_zero v && is_zero u && not n) (a ∷ []) [])) (sym e) (subst (λ v. IsIn a (cond (is_zero v && not n) (a ∷ []) [])) (sym f) (subst (λ v. IsIn a (cond (not v) (a ∷ []) [])) (sym g) (in_head a []))))

-- why a point that is at the place of the other current point is given: one of A by a wide cell; one of B never is there
abbrev pub Spared : Half → Bool → Type 0
Spared A n = n ≡ false
Spared B n = ⊥

module _ {R : Type 0} (o : OrderedRing R) (ps : Places o) (s : Scene) (m : Merging o ps s) where
  level_sign : (d : Direction o) (a b : ℕ) → Together o ps a b → higher o ps s m (up o ps d) a b ≡ Zero
  level_sign d a b t = (level_turned o {v = up o ps d} {i = a} {j = b} (record { is = straight o ps d t.0 ∙ t.1.is })).is

  -- ---- narrow cells
  -- the ends of a narrow cell are breakpoints of A, then of B; a point of A that stays and is at the place of the point of B isn't between them
  module _ {l : Direction o} {before : Option Breakpoint} {a : ℕ} {as' : List ℕ} {b : ℕ} {bs : List ℕ} (e : Breakpoint) {es : List Breakpoint} (at : At o ps s m l before a as' b bs (e ∷ es)) (stays : Stays o ps (both o ps s m) a) (together : Together o ps a b) where
    never_between : (d : Breakpoint) → Behind o ps s m l d a b (e ∷ es) → d.right ≡ a → e.left ≡ b → IsIn e.right (both o ps s m) → Level o (up o ps l) e.right e.left → ⊥
    never_between d start to from inside level =
        stays.no_segment d.left e.right start.inside inside
        (subst (λ n. Below o ps.x d.left n) to start.right)
        (then_below o (level_most o together.0) (subst (λ n. Below o ps.x n e.right) from (goes_right o ps s m e at)))
        (under o ps l (subst (λ n. Below o ps.x d.left n) to start.right) (then_below o (level_most o together.0) (subst (λ n. Below o ps.x n e.right) from (goes_right o ps s m e at)))
        (subst (λ n. AtMost o (up o ps l) n d.left) to (subst (λ v. AtMost o (height o ps v) d.right d.left) (sym start.vector) (level_most o (level_turned o (level_ends o ps d.left d.right)))))
        (most_most o (level_most o (record { is = straight o ps l together.0 ∙ together.1.is })) (subst (λ n. AtMost o (up o ps l) n e.right) from (level_most o (level_turned o level)))))

    pub is_wide : (e.half ≡ B → (e.left ≡ b) × IsIn e.right (both o ps s m)) → is_narrow s before e ≡ false
    is_wide of_b = by_end before at.start (is_narrow s before e) refl (narrow_level o ps s m e at)
      where
        by_halves : (d : Breakpoint) → Behind o ps s m l d a b (e ∷ es) → (g h : Half) → d.half ≡ g → e.half ≡ h → not (is_of g h) && is_zero (s.sign (slope_form d e)) ≡ true → goes_first (s.sign (slope_form d e)) g h ≡ true → Level o (up o ps l) e.right e.left → ⊥
        by_halves d start A A p q n f level = absurd cc
        by_halves d start B B p q n f level = absurd cc
        by_halves d start A B p q n f level = never_between d start (sym start.point ∙ ap (λ h. point_of h a b) p) (of_b q).0 (of_b q).1 level
        by_halves d start B A p q n f level = tie (s.sign (slope_form d e)) n f
          where
            tie : (t : Sign) → is_zero t ≡ true → goes_first t B A ≡ true → ⊥
            tie Plus n f = absurd cc
            tie Zero n f = absurd cc
            tie Minus n f = absurd cc

        by_end : (before : Option Breakpoint) → Start o ps s m l before a b (e ∷ es) → (t : Bool) → is_narrow s before e ≡ t → (is_narrow s before e ≡ true → Level o (up o ps l) e.right e.left) → is_narrow s before e ≡ false
        by_end before start false n level = n
        by_end None start true n level = refl
        by_end (Some d) start true n level = absurd (by_halves d start d.half e.half refl refl n (right_signs s m.slopes d e start.placed.0).2 (level n))

  -- ---- a cell of a point of either half
  -- the point that is the higher one at an end is given there
  higher_given : (h : Half) (v : ℕ → R) (t : Sign) (a b : ℕ) → t ≡ higher o ps s m v a b → Below o v (point_of (other h) a b) (point_of h a b) → IsIn (point_of h a b) (above_of t a b)
  higher_given A v t a b e k = subst (λ u. IsIn a (above_of u a b)) (sym (e ∙ k.is)) (in_head a [])
  higher_given B v t a b e k = subst (λ u. IsIn b (above_of u a b)) (sym (e ∙ turned o v a b ∙ ap opposite_of k.is)) (in_head b [])

  -- it is given where it is the higher one at an end, or at the place of the other and spared
  pub give : (h : Half) (l r : Direction o) (t u : Sign) (n : Bool) (a b : ℕ) (later : List ℕ) → t ≡ higher o ps s m (up o ps l) a b → u ≡ higher o ps s m (up o ps r) a b
      → (Together o ps (point_of h a b) (point_of (other h) a b) → Spared h n)
      → (Below o (up o ps l) (point_of (other h) a b) (point_of h a b) ⊎ Below o (up o ps r) (point_of (other h) a b) (point_of h a b)) ⊎ Together o ps (point_of h a b) (point_of (other h) a b)
      → IsIn (point_of h a b) (given_by (record { a = a; b = b; left = t; right = u; narrow = n }) ++ later)
  give h l r t u n a b later e f spare k = in_left (point_of h a b) (given_by (record { a = a; b = b; left = t; right = u; narrow = n })) later (at k)
    where
      at_place : (g : Half) → Together o ps (point_of g a b) (point_of (other g) a b) → Spared g n → IsIn (point_of g a b) (given_by (record { a = a; b = b; left = t; right = u; narrow = n }))
      at_place A k wide = gives_level t u n a b (e ∙ level_sign l a b k) (f ∙ level_sign r a b k) wide
      at_place B k never = absurd never

      at : (Below o (up o ps l) (point_of (other h) a b) (point_of h a b) ⊎ Below o (up o ps r) (point_of (other h) a b) (point_of h a b)) ⊎ Together o ps (point_of h a b) (point_of (other h) a b)
          → IsIn (point_of h a b) (given_by (record { a = a; b = b; left = t; right = u; narrow = n }))
      at (inl (inl k)) = gives_left t u n a b (point_of h a b) (higher_given h (up o ps l) t a b e k)
      at (inl (inr k)) = gives_right t u n a b (point_of h a b) (higher_given h (up o ps r) u a b f k)
      at (inr k) = at_place h k (spare k)

  pub leaves_outer : (p q : ℕ) → IsIn p (both o ps s m) → IsIn q (both o ps s m) → Leaves o ps m.outer.right p q
  leaves_outer p q i j = at (most_or_below o ps.x p q)
    where
      at : AtMost o ps.x p q ⊎ Below o ps.x q p → Leaves o ps m.outer.right p q
      at (inl k) = inl k
      at (inr k) = inr (m.outer.by_right q p j i k)

  pub enters_outer : (p q : ℕ) → IsIn p (both o ps s m) → IsIn q (both o ps s m) → Enters o ps m.outer.left p q
  enters_outer p q i j = at (most_or_below o ps.x q p)
    where
      at : AtMost o ps.x q p ⊎ Below o ps.x p q → Enters o ps m.outer.left p q
      at (inl k) = inl k
      at (inr k) = inr (m.outer.by_left p q i j k)

  module _ {l : Direction o} {before : Option Breakpoint} {a : ℕ} {as' : List ℕ} {b : ℕ} {bs : List ℕ} {es : List Breakpoint} (at : At o ps s m l before a as' b bs es) where
    pub inside_a : IsIn a (both o ps s m)
    inside_a = a_inside o ps s m a (own_in_chain o ps m.a_known at.a_side)

    pub inside_b : IsIn b (both o ps s m)
    inside_b = b_inside o ps s m b (own_in_chain o ps m.b_known at.b_side)

-- the current point, or one that comes
pub is_current : (p a : ℕ) (as' : List ℕ) → IsIn p (a ∷ as') → (p ≡ a) ⊎ ((p ≡ a → ⊥) × IsIn p as')
is_current p a as' i = at (nat_eq p a) refl (in_cases p a as' i)
  where
    at : (b : Bool) → nat_eq p a ≡ b → (p ≡ a) ⊎ IsIn p as' → (p ≡ a) ⊎ ((p ≡ a → ⊥) × IsIn p as')
    at true e h = inl (grind (arith, nat_tests, e))
    at false e (inl k) = inl k
    at false e (inr k) = inr ((λ q. let f : nat_eq p a ≡ true = grind (arith, nat_tests, q) in let g : true ≡ false = sym f ∙ e in cc), k)

pub none_comes : (h : Half) (p a : ℕ) (as' : List ℕ) → [] ≡ breakpoints_of h (a ∷ as') → IsIn p as' → ⊥
none_comes h p a [] e i = absurd cc
none_comes h p a (j ∷ as') e i = absurd cc
