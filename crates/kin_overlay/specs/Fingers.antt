-- What is noted of the list of breakpoints of a merge.
use Rattle.std.specs.Prelude.{◌≡◌, ℕ, ◌<◌, cond, List, [], ◌∷◌, option_map, Option, Some, None}
use Rattle.kin_algebra.specs.declared.sign.Sign.{Sign}
use Rattle.kin_motion.specs.declared.form.Form.TheVariants.{Turn}
use Rattle.kin_motion.specs.Numbers.{IsIn, IsChain}
use Rattle.kin_motion.specs.Scene.{Scene, x_sign, y_sign}
use Rattle.kin_motion.specs.Chains.{is_zero}
use Rattle.kin_motion.specs.Merges.{Half.{A, B}, Breakpoint, is_of, slope_form, IsInterleaving, other_current, current_after, last_of}
use Rattle.kin_chain.specs.Merging.{is_in_place}
use Rattle.kin_overlay.specs.declared.record.Record.{Record}
use Rattle.kin_overlay.specs.declared.record.Next.{Next}
use Rattle.kin_overlay.specs.declared.end.End.{End}
use Rattle.kin_overlay.specs.Lists.{first_of, front, behind}
use Rattle.kin_overlay.specs.Seen.{seen}
use Rattle.kin_overlay.specs.Remembered.{Remembered, place_of, breakpoints}

-- a next breakpoint as the definitions have it
abbrev pub seen_next : Next → Breakpoint × Sign
seen_next n = (seen n.at, n.slope)

-- the next breakpoint with the sign of the slope form, where it is of the other half
abbrev pub next_for : Scene → Breakpoint → Option Breakpoint → Option (Breakpoint × Sign)
next_for s e None = None
next_for s e (Some f) = cond (is_of e.half f.half) None (Some (f, s.sign (slope_form e f)))

-- what is noted of a breakpoint where a and b are current, and after which f comes next, if there is one
pub record IsNoted (s : Scene) (a b : ℕ) (r : Record) (f : Option Breakpoint) : Type 0 where
  pub across : r.across ≡ other_current (place_of r).half a b
  pub turn : r.turn ≡ s.sign (Turn r.at.left r.at.right r.across)
  pub next : option_map seen_next r.next ≡ next_for s (place_of r) f

-- the same of all breakpoints of a list; a and b are current before the first
abbrev pub AreNoted : Scene → ℕ → ℕ → List Record → Type 0
AreNoted s a b [] = Unit {0}
AreNoted s a b (r ∷ rs) = IsNoted s a b r (first_of (breakpoints rs)) × AreNoted s (current_after A (place_of r) a) (current_after B (place_of r) b) rs

-- an outer end with the points a and b
abbrev pub end_at : Scene → ℕ → ℕ → End
end_at s a b = record { a = a; b = b; x = x_sign s a b; y = cond (is_zero (x_sign s a b)) (Some (y_sign s a b)) None }

-- the right outer end, where it is another than the left one
abbrev pub right_end : Scene → ℕ → List ℕ → ℕ → List ℕ → Option End
right_end s a [] b [] = None
right_end s a (p ∷ ps) b bs = Some (end_at s (last_of a (p ∷ ps)) (last_of b bs))
right_end s a [] b (q ∷ qs) = Some (end_at s a (last_of b (q ∷ qs)))

-- what is remembered is the merge of both chains in the scene
pub record IsMerged (s : Scene) (a b : List ℕ) (m : Remembered) : Type 0 where
  pub interleaved : IsInterleaving a b (breakpoints m.records)
  pub in_place : IsChain (is_in_place s) (breakpoints m.records)
  pub noted : AreNoted s (front a) (front b) m.records
  pub left : m.left ≡ Some (end_at s (front a) (front b))
  pub right : m.right ≡ right_end s (front a) (behind a) (front b) (behind b)

-- every number of the list is live
abbrev pub AreLive : List ℕ → List ℕ → Type 0
AreLive live xs = (i : ℕ) → IsIn i xs → IsIn i live

-- every number of a is less than every number of b
abbrev pub AreLess : List ℕ → List ℕ → Type 0
AreLess a b = (i j : ℕ) → IsIn i a → IsIn j b → i < j
