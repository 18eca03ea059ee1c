-- The merge of the breakpoints of two chains by falling slope, one after the other.
use Rattle.std.specs.Prelude.{◌≡◌, ℕ, ◌<◌, ◌^◌, true, cond, List, [], ◌∷◌, map, Option, Some, None, ◌⊎◌}
use Rattle.kin_algebra.specs.declared.sign.Sign.{Sign}
use Rattle.kin_algebra.specs.declared.sign.Sign.TheVariants.{Minus, Zero, Plus}
use Rattle.kin_motion.specs.declared.fact.Placed.{Placed}
use Rattle.kin_motion.specs.Merges.{Half, Half.{A, B}, Breakpoint, is_of, slope_form, slopes_from, goes_first}
use Rattle.kin_motion.specs.Numbers.{IsIn}
use Rattle.kin_motion.specs.Scene.{Scene, placed_at}
use Rattle.kin_diameter.specs.declared.breakpoint.Breakpoint.{Breakpoint as Pair}
use Rattle.kin_diameter.specs.declared.merge.Placing.{Placing}
use Rattle.kin_diameter.specs.declared.slope.Slope.{Slope as Kept}
use Rattle.kin_diameter.specs.Seen.{half_of, seen, compared, slope_fact}

-- every number of xs is in ys
abbrev pub AreAmong : List ℕ → List ℕ → Type 0
AreAmong xs ys = (i : ℕ) → IsIn i xs → IsIn i ys

-- every number has a slot, of 2^12 slots
abbrev pub AreLow : List ℕ → Type 0
AreLow xs = (i : ℕ) → IsIn i xs → i < 2 ^ 12

-- the first item, if there is one
abbrev pub first_of : {A : Type 0} → List A → Option A
first_of [] = None
first_of (x ∷ xs) = Some x

-- what comes after the first item
abbrev pub rest_of : {A : Type 0} → List A → List A
rest_of [] = []
rest_of (x ∷ xs) = xs

-- what is left of the breakpoints of half h after the next one of half g
abbrev pub left_of : Half → Half → List Breakpoint → List Breakpoint
left_of h g es = cond (is_of h g) (rest_of es) es

-- the breakpoint goes before that of the other half, if there is one, and their slope has this sign
abbrev pub IsAhead : Scene → Breakpoint → Sign → Option Breakpoint → Type 0
IsAhead s e t None = Unit {0}
IsAhead s e t (Some f) = (t ≡ s.sign (slope_form e f)) × (goes_first t e.half f.half ≡ true)

-- the breakpoint is the first of those of its half, and goes before the first of the others
pub record IsNextOf (h : Half) (s : Scene) (own others : List Breakpoint) (e : Breakpoint) (t : Sign) : Type 0 where
  pub half : e.half ≡ h
  pub first : first_of own ≡ Some e
  pub ahead : IsAhead s e t (first_of others)

-- it comes next, of those of the upper chain and those of the lower one
abbrev pub IsNext : Scene → List Breakpoint → List Breakpoint → Breakpoint → Sign → Type 0
IsNext s us ls e t = IsNextOf A s us ls e t ⊎ IsNextOf B s ls us e t

-- the one that comes first, of an upper and a lower breakpoint whose slope has this sign
abbrev pub first_placed : Pair → Pair → Sign → Placing
first_placed u l Minus = record { at = l; ahead = Plus }
first_placed u l Zero = record { at = u; ahead = Zero }
first_placed u l Plus = record { at = u; ahead = Plus }

-- the slope of the last breakpoint, if there is one, with the next where that is of the other chain
abbrev pub facts_between : Option Placing → Pair → List Placed
facts_between None f = []
facts_between (Some p) f = cond (is_of (half_of p.at.chain) (half_of f.chain)) [] (compared (seen p.at) (seen f) p.ahead ∷ [])

-- the kept slopes are those of neighbours of different chains, with their signs
abbrev pub AreSlopesOf : Scene → List Pair → List Kept → Type 0
AreSlopesOf s es kept = map slope_fact kept ≡ map (placed_at s 0) (slopes_from (map seen es))
