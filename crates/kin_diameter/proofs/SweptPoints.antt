-- The points of the breakpoints of a sweep are those of its chains, and its cells begin at the first points of both.
use Rattle.std.proofs.Common.{◌≡◌, ◌⊎◌, inl, inr, refl, sym, ap, ap₂, ◌∙◌, subst, List, [], ◌∷◌, ◌++◌, ℕ, ◌*◌, ◌<◌, ◌^◌, map, reverse, length, get_or}
use Rattle.std.specs.Prelude.{Contains}
use Rattle.std.proofs.lemmas.List.{reverse-append}
use Rattle.std.proofs.lemmas.List.Elements.{Contains-get_or}
use Rattle.kin_algebra.proofs.Members.{contains_none, contains_cases}
use Rattle.kin_motion.specs.Merges.{Half, Half.{A, B}, Breakpoint, own_of, breakpoints_of}
use Rattle.kin_motion.specs.Numbers.{IsIn}
use Rattle.kin_motion.specs.Sweeps.{breakpoints_back, cell_pairs_from, cell_pairs}
use Rattle.kin_motion.proofs.BreakpointLaws.{own_has}
use Rattle.kin_motion.proofs.Members.{in_head, in_tail, in_reverse}
use Rattle.kin_motion.proofs.SetLaws.{contains_map}
use Rattle.kin_diameter.specs.declared.breakpoint.Breakpoint.{Breakpoint as Pair}
use Rattle.kin_diameter.specs.Merging.{AreLow}
use Rattle.kin_diameter.specs.Seen.{seen}

-- both points of a breakpoint are in the list
pub record HasBoth (e : Breakpoint) (xs : List ℕ) : Type 0 where
  pub left : IsIn e.left xs
  pub right : IsIn e.right xs

more : (e : Breakpoint) (i : ℕ) (xs : List ℕ) → HasBoth e xs → HasBoth e (i ∷ xs)
more e i xs b = record { left = in_tail e.left i xs b.left; right = in_tail e.right i xs b.right }

pub upper_points : (h : Half) (xs : List ℕ) (e : Breakpoint) → Contains (breakpoints_of h xs) e → HasBoth e xs
upper_points h [] e c = absurd (contains_none e c)
upper_points h (i ∷ []) e c = absurd (contains_none e c)
upper_points h (i ∷ j ∷ ps) e c = at (contains_cases (record { half = h; left = i; right = j }) e (breakpoints_of h (j ∷ ps)) c) (upper_points h (j ∷ ps) e)
  where
    at : (record { half = h; left = i; right = j } ≡ e) ⊎ Contains (breakpoints_of h (j ∷ ps)) e → (Contains (breakpoints_of h (j ∷ ps)) e → HasBoth e (j ∷ ps)) → HasBoth e (i ∷ j ∷ ps)
    at (inl q) rest = subst (λ (f : Breakpoint). HasBoth f (i ∷ j ∷ ps)) q (record { left = in_head i (j ∷ ps); right = in_tail j i (j ∷ ps) (in_head j ps) })
    at (inr k) rest = more e i (j ∷ ps) (rest k)

pub lower_points : (xs : List ℕ) (e : Breakpoint) → Contains (breakpoints_back xs) e → HasBoth e xs
lower_points [] e c = absurd (contains_none e c)
lower_points (j ∷ []) e c = absurd (contains_none e c)
lower_points (j ∷ i ∷ ps) e c = at (contains_cases (record { half = B; left = i; right = j }) e (breakpoints_back (i ∷ ps)) c) (lower_points (i ∷ ps) e)
  where
    at : (record { half = B; left = i; right = j } ≡ e) ⊎ Contains (breakpoints_back (i ∷ ps)) e → (Contains (breakpoints_back (i ∷ ps)) e → HasBoth e (i ∷ ps)) → HasBoth e (j ∷ i ∷ ps)
    at (inl q) rest = subst (λ (f : Breakpoint). HasBoth f (j ∷ i ∷ ps)) q (record { left = in_tail i j (i ∷ ps) (in_head i ps); right = in_head j (i ∷ ps) })
    at (inr k) rest = more e j (i ∷ ps) (rest k)

-- both points have slots
points_low : (upper lower : List ℕ) (es : List Breakpoint) → AreLow upper → AreLow lower → own_of A es ≡ breakpoints_of A upper → own_of B es ≡ breakpoints_back (reverse lower)
    → (e : Breakpoint) → Contains es e → (e.left < 2 ^ 12) × (e.right < 2 ^ 12)
points_low upper lower es u l of_upper of_lower e c = at e.half refl
  where
    at : (h : Half) → e.half ≡ h → (e.left < 2 ^ 12) × (e.right < 2 ^ 12)
    at A q = let b = upper_points A upper e (subst (λ (fs : List Breakpoint). Contains fs e) of_upper (own_has A es e c q)) in (u e.left b.left, u e.right b.right)
    at B q =
        let b = lower_points (reverse lower) e (subst (λ (fs : List Breakpoint). Contains fs e) of_lower (own_has B es e c q)) in
        (l e.left (in_reverse e.left lower b.left), l e.right (in_reverse e.right lower b.right))

pub point_low : (upper lower : List ℕ) (bs : List Pair) (n : ℕ) (d : Pair) → AreLow upper → AreLow lower → own_of A (map seen bs) ≡ breakpoints_of A upper → own_of B (map seen bs) ≡ breakpoints_back (reverse lower)
    → n < length bs → ((get_or bs n d).left < 2 ^ 12) × ((get_or bs n d).right < 2 ^ 12)
point_low upper lower bs n d u l of_upper of_lower room =
    points_low upper lower (map seen bs) u l of_upper of_lower (seen (get_or bs n d)) (contains_map seen bs (get_or bs n d) (Contains-get_or bs n d room))

-- the first cell
pub first_cell : (upper lower ps qs : List ℕ) (p q : ℕ) (es : List Breakpoint) → upper ≡ p ∷ ps → lower ≡ qs ++ q ∷ [] → cell_pairs_from (2 * p) p q es ≡ cell_pairs upper (reverse lower) es
first_cell upper lower ps qs p q es is_upper is_lower = sym (ap₂ (λ (xs ys : List ℕ). cell_pairs xs ys es) is_upper (ap reverse is_lower ∙ reverse-append qs (q ∷ [])))
