-- The forms of a sweep, and of the tournament of its cells, name live numbers.
use Rattle.std.proofs.Common.{◌≡◌, ◌⊎◌, inl, inr, refl, sym, ap, subst, List, [], ◌∷◌, ℕ, ◌+◌, ◌*◌, Bool, true, false, cond, reverse}
use Rattle.std.specs.Prelude.{Contains, Some}
use Rattle.kin_algebra.proofs.Members.{contains_none, contains_head, contains_tail, contains_cases}
use Rattle.kin_motion.specs.declared.form.Form.TheVariants.{Dist}
use Rattle.kin_motion.specs.declared.fact.Placed.{Placed}
use Rattle.kin_motion.specs.ClosestFacts.{near}
use Rattle.kin_motion.specs.ClosestPairs.{Near}
use Rattle.kin_motion.specs.DiameterFacts.{IsDiameterFact}
use Rattle.kin_motion.specs.Farthest.{farness_key}
use Rattle.kin_motion.specs.Forms.{IsAskable}
use Rattle.kin_motion.specs.Merges.{Half, Half.{A, B}, Breakpoint, is_of}
use Rattle.kin_motion.specs.Numbers.{IsIn}
use Rattle.kin_motion.specs.Scene.{Scene, reflected}
use Rattle.kin_motion.specs.Sweeps.{breakpoints_back, IsSwept, cell_pairs_from, cell_pairs}
use Rattle.kin_motion.specs.Tournaments.{item_in}
use Rattle.kin_motion.proofs.AskableMerges.{AllLive, AreLive, first_live, rest_live, breakpoints_live, slopes_askable, chain_live}
use Rattle.kin_motion.proofs.AskableNodes.{AreTwoLive, near_live, node_fact_askable}
use Rattle.kin_motion.proofs.BreakpointLaws.{own_has}
use Rattle.kin_motion.proofs.Members.{in_reverse}
use Rattle.kin_motion.proofs.NodeLaws.{held_slot}

-- what is in a list is its first, or in one of two lists
first_or_either : {X : Type 0} {P : Type 0} (x z : X) (b : Bool) (xs ys : List X) → Contains (x ∷ cond b xs ys) z → (x ≡ z → P) → (Contains xs z → P) → (Contains ys z → P) → P
first_or_either {X} {P} x z b xs ys c first one other = at (contains_cases x z (cond b xs ys) c)
  where
    of : (t : Bool) → Contains (cond t xs ys) z → P
    of true k = one k
    of false k = other k

    at : (x ≡ z) ⊎ Contains (cond b xs ys) z → P
    at (inl e) = first e
    at (inr k) = of b k

module _ (live : List ℕ) where
  back_live : (xs : List ℕ) → AllLive live xs → (e : Breakpoint) → Contains (breakpoints_back xs) e → AreLive live e
  back_live [] known e c = absurd (contains_none e c)
  back_live (j ∷ []) known e c = absurd (contains_none e c)
  back_live (j ∷ i ∷ ps) known e c =
      at (contains_cases (record { half = B; left = i; right = j }) e (breakpoints_back (i ∷ ps)) c) (back_live (i ∷ ps) (rest_live live j (i ∷ ps) known) e)
    where
      at : (record { half = B; left = i; right = j } ≡ e) ⊎ Contains (breakpoints_back (i ∷ ps)) e → (Contains (breakpoints_back (i ∷ ps)) e → AreLive live e) → AreLive live e
      at (inl q) rest = subst (λ (x : Breakpoint). AreLive live x) q (first_live live i ps (rest_live live j (i ∷ ps) known), first_live live j (i ∷ ps) known)
      at (inr k) rest = rest k

  -- the points that are current in cells, where all breakpoints have live points
  from_live : (slot p q : ℕ) → IsIn p live → IsIn q live → (es : List Breakpoint) → ((e : Breakpoint) → Contains es e → AreLive live e)
      → (n : Near) → Contains (cell_pairs_from slot p q es) n → AreTwoLive live n
  from_live slot p q x y [] known n c = only (contains_cases (near slot p q) n [] c)
    where
      only : (near slot p q ≡ n) ⊎ Contains [] n → AreTwoLive live n
      only (inl e) = subst (λ (m : Near). AreTwoLive live m) e (near_live live slot p q x y)
      only (inr k) = absurd (contains_none n k)
  from_live slot p q x y (e ∷ es) known n c =
      first_or_either (near slot p q) n (is_of A e.half) (cell_pairs_from (2 * e.right) e.right q es) (cell_pairs_from (2 * e.left + 1) p e.left es) c
      (λ k. subst (λ (m : Near). AreTwoLive live m) k (near_live live slot p q x y))
      (from_live (2 * e.right) e.right q here.1 y es later n)
      (from_live (2 * e.left + 1) p e.left x here.0 es later n)
    where
      here : AreLive live e
      here = known e (contains_head e es)

      later : (f : Breakpoint) → Contains es f → AreLive live f
      later f h = known f (contains_tail e f es h)

  cells_live : (upper lower : List ℕ) (es : List Breakpoint) → AllLive live upper → AllLive live lower → ((e : Breakpoint) → Contains es e → AreLive live e)
      → (n : Near) → Contains (cell_pairs upper lower es) n → AreTwoLive live n
  cells_live [] lower es u l known n c = absurd (contains_none n c)
  cells_live (p ∷ ps) [] es u l known n c = absurd (contains_none n c)
  cells_live (p ∷ ps) (q ∷ qs) es u l known n c = from_live (2 * p) p q (first_live live p ps u) (first_live live q qs l) es known n c

module _ (s : Scene) (upper lower : List ℕ) (es : List Breakpoint) (swept : IsSwept s upper lower es) where
  upper_live : AllLive s.live upper
  upper_live = chain_live s.live s s.live upper swept.upper_chain (λ i e. e)

  lower_live : AllLive s.live (reverse lower)
  lower_live i e = chain_live s.live (reflected s) s.live lower swept.lower_chain (λ j h. h) i (in_reverse i lower e)

  breakpoint_live : (e : Breakpoint) → Contains es e → AreLive s.live e
  breakpoint_live e c = by_half e.half refl
    where
      by_half : (h : Half) → e.half ≡ h → AreLive s.live e
      by_half A q = breakpoints_live s.live A upper upper_live e (subst (λ (fs : List Breakpoint). Contains fs e) swept.sweep.of_upper (own_has A es e c q))
      by_half B q = back_live s.live (reverse lower) lower_live e (subst (λ (fs : List Breakpoint). Contains fs e) swept.sweep.of_lower (own_has B es e c q))

pub diameter_fact_askable : (size : ℕ) (s : Scene) (p : Placed) → IsDiameterFact size s p → IsAskable s.live p.fact.form
diameter_fact_askable size s p (inl f) =
    subst (IsAskable s.live) (sym (ap (λ (q : Placed). q.fact.form) f.fact))
    (slopes_askable s.live f.breakpoints (breakpoint_live s f.upper f.lower f.breakpoints f.swept) f.form f.listed)
diameter_fact_askable size s p (inr f) =
    subst (IsAskable s.live) (sym (ap (λ (q : Placed). q.fact.form) f.placed))
    (node_fact_askable s farness_key (size + 1) f.slots (λ i j a b x y. pairs a b (pair_live i a x) (pair_live j b y)) f.node f.fact)
  where
    pair_live : (i : ℕ) (a : Near) → item_in f.slots i ≡ Some a → AreTwoLive s.live a
    pair_live i a e =
        cells_live s.live f.upper (reverse f.lower) f.breakpoints (upper_live s f.upper f.lower f.breakpoints f.swept) (lower_live s f.upper f.lower f.breakpoints f.swept)
        (breakpoint_live s f.upper f.lower f.breakpoints f.swept) a (f.filled.each i (Some a) (held_slot f.slots i a e)).0

    pairs : (a b : Near) → AreTwoLive s.live a → AreTwoLive s.live b → IsAskable s.live (Dist a.i a.j b.i b.j)
    pairs a b x y = (x.0, x.1, y.0, y.1)
