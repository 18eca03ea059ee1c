-- How what isn't known is asked.
use Rattle.std.specs.Prelude.{◌≡◌, ◌⊎◌, ℕ, ◌+◌, ◌-◌, List, [], ◌∷◌, ◌++◌, map, take, drop, cond, option_map, Option, Some, None}
use Rattle.kin_motion.specs.Merges.{Half.{A, B}, Half, Breakpoint, current_after, breakpoints_of, own_of}
use Rattle.kin_motion.specs.Numbers.{IsIn}
use Rattle.kin_motion.specs.Scene.{Scene}
use Rattle.kin_overlay.specs.declared.draft.Draft.{Draft}
use Rattle.kin_overlay.specs.declared.record.Record.{Record}
use Rattle.kin_overlay.specs.declared.record.Next.{Next}
use Rattle.kin_overlay.specs.declared.shared.Shared.{Shared}
use Rattle.kin_overlay.specs.Fingers.{AreNoted, seen_next, next_for}
use Rattle.kin_overlay.specs.Remembered.{place_of, breakpoints}
use Rattle.kin_overlay.specs.Sketches.{spot_of, spots, is_gap, gaps, missing_turns, AreFit}
use Rattle.kin_overlay.specs.Spans.{draft_by, back_part}

-- whether what comes next begins a gap, as a number
abbrev pub gap_to : Draft → List Draft → ℕ
gap_to d [] = 0
gap_to d (e ∷ es) = cond (is_gap d e) 1 0

-- the same, of what comes next alone
abbrev pub gap_before : Draft → Option Draft → ℕ
gap_before d None = 0
gap_before d (Some e) = cond (is_gap d e) 1 0

-- the left points
abbrev pub lefts : List Breakpoint → List ℕ
lefts es = map (λ (e : Breakpoint). e.left) es

-- what is filled in so far, where a and b are current before the rest
pub record IsFilled (s : Scene) (a0 b0 : ℕ) (all : List Draft) (a b : ℕ) (rest : List Draft) (rs : List Record) (before steps : ℕ) : Type 0 where
  pub whole : (qs : List Record) → breakpoints qs ≡ spots rest → AreNoted s a b qs → AreNoted s a0 b0 (rs ++ qs)
  pub places : breakpoints rs ++ spots rest ≡ spots all
  pub fit : AreFit s rest
  pub a_live : IsIn a s.live
  pub b_live : IsIn b s.live
  pub cost : steps + (missing_turns a b rest + gaps rest) ≡ before + (missing_turns a0 b0 all + gaps all)

-- ---- the records at both ends
-- the current points of A and of B after a breakpoint, as its record has them
abbrev pub a_behind : Record → ℕ
a_behind r = current_after A (place_of r) r.across

abbrev pub b_behind : Record → ℕ
b_behind r = current_after B (place_of r) r.across

-- the records in front are taken over, and the last of them gets what comes next now
pub record IsTurnedTo (s : Scene) (front : List Record) (next : Option Draft) (rs : List Record) (a b before steps : ℕ) : Type 0 where
  pub others : List Record
  pub last : Record
  pub seam : Option Next
  pub front_is : front ≡ others ++ last ∷ []
  pub records_are : rs ≡ others ++ (record last { next = seam }) ∷ []
  pub seam_is : option_map seen_next seam ≡ next_for s (place_of last) (option_map spot_of next)
  pub a_is : a ≡ a_behind last
  pub b_is : b ≡ b_behind last
  pub cost : steps ≡ before + gap_before (draft_by last) next

-- the same, or there are none
abbrev pub IsFronted : Scene → List Record → Option Draft → ℕ → ℕ → List Record → ℕ → ℕ → ℕ → ℕ → Type 0
IsFronted s front next a0 b0 rs a b before steps = ((front ≡ []) × (rs ≡ []) × (a ≡ a0) × (b ≡ b0) × (steps ≡ before)) ⊎ IsTurnedTo s front next rs a b before steps

-- the new list begins with all records in front but the last, and ends in those at the end
abbrev pub AreTakenOver : Shared → List Record → List Record → Type 0
AreTakenOver w old new = (between : List Record) × (new ≡ take (w.front - 1) old ++ (between ++ back_part w old))

-- the breakpoints of this half in the rest are those of what is left of its chain, which begins with this point
pub record IsAt (h : Half) (chain : List ℕ) (x : ℕ) (rest : List Draft) : Type 0 where
  pub passed : ℕ
  pub more : List ℕ
  pub left : drop passed chain ≡ x ∷ more
  pub own : own_of h (spots rest) ≡ breakpoints_of h (x ∷ more)

-- what is filled in so far, and where both chains stand
pub record IsFillingAt (s : Scene) (a b : List ℕ) (a0 b0 : ℕ) (all : List Draft) (x y : ℕ) (rest : List Draft) (rs : List Record) (before steps : ℕ) : Type 0 where
  pub filled : IsFilled s a0 b0 all x y rest rs before steps
  pub at_a : IsAt A a x rest
  pub at_b : IsAt B b y rest
