-- What a merge knows of the one before, and what its repair may ask.
use Rattle.std.specs.Prelude.{◌≡◌, ℕ, ◌+◌, ◌*◌, ◌<◌, ◌≤◌, Bool, true, false, not, ◌||◌, cond, nat_eq, List, [], ◌∷◌, length, filter, flat_map, Option, Some, None, Contains, ◌⊎◌}
use Rattle.kin_motion.specs.declared.fact.Fact.{Fact}
use Rattle.kin_motion.specs.declared.fact.Placed.{Placed}
use Rattle.kin_motion.specs.Merges.{Breakpoint, breakpoints_of}
use Rattle.kin_motion.specs.Numbers.{is_in, IsOnce}
use Rattle.kin_motion.specs.Scene.{Scene, Holds}
use Rattle.kin_chain.specs.Supports.{list_of}
use Rattle.kin_overlay.specs.declared.draft.Draft.{Draft}
use Rattle.kin_overlay.specs.declared.draft.Across.{Across}
use Rattle.kin_overlay.specs.declared.record.Record.{Record}
use Rattle.kin_overlay.specs.declared.record.Next.{Next}
use Rattle.kin_overlay.specs.declared.sketch.Puts.{Puts}
use Rattle.kin_overlay.specs.declared.standing.Standing.{Standing}
use Rattle.kin_overlay.specs.Fingers.{AreLess, IsMerged}
pub use Rattle.kin_overlay.specs.Lists.{AreApart}
use Rattle.kin_overlay.specs.Remembered.{Remembered, place_of, turn_fact, slope_facts, facts_of}
use Rattle.kin_overlay.specs.Sketches.{gaps, is_told}
use Rattle.kin_overlay.specs.Standings.{IsUnfailed}

-- at least n of the items are such
abbrev pub AtLeast : {A : Type 0} → (A → Type 0) → List A → ℕ → Type 0
AtLeast P [] n = n ≡ 0
AtLeast P (x ∷ xs) n = AtLeast P xs n ⊎ ((m : ℕ) × (n ≡ m + 1) × P x × AtLeast P xs m)

-- ---- what edits do to a chain
-- the numbers that aren't in the list
abbrev pub without : List ℕ → List ℕ → List ℕ
without gone xs = filter (λ x. not (is_in x gone)) xs

-- how often a number is in a list
abbrev pub times : ℕ → List ℕ → ℕ
times x [] = 0
times x (y ∷ ys) = cond (nat_eq x y) 1 0 + times x ys

-- the new list came of the old one, where these were put and dropped
pub record IsEdited (put dropped old new : List ℕ) : Type 0 where
  pub keeps : without put (without dropped new) ≡ without put (without dropped old)
  pub balanced : (x : ℕ) → times x new + times x dropped ≡ times x old + times x put

-- ---- what a merge knows of the one before
-- a merge that was settled, with its chains, and the numbers that edits have dropped from each since
pub record Past : Type 0 where
  pub scene : Scene
  pub a : List ℕ
  pub b : List ℕ
  pub drop_a : List ℕ
  pub drop_b : List ℕ

-- the list is that of the merge that was settled, and the present chains came of its chains
pub record IsPast (p : Past) (m : Remembered) (put_a put_b gone a b : List ℕ) : Type 0 where
  pub merged : IsMerged p.scene p.a p.b m
  pub a_some : 0 < length p.a
  pub b_some : 0 < length p.b
  pub a_once : IsOnce p.a
  pub b_once : IsOnce p.b
  pub less : AreLess p.a p.b
  pub a_edited : IsEdited put_a p.drop_a p.a a
  pub b_edited : IsEdited put_b p.drop_b p.b b
  pub gone_is : (x : ℕ) → is_in x gone ≡ is_in x p.drop_a || is_in x p.drop_b

-- the same, where no half puts a number that it drops
pub record IsKnownPast (p : Past) (w : Standing) (puts : Puts) (a b : List ℕ) : Type 0 where
  pub past : IsPast p w.list.now puts.a.now puts.b.now w.gone.now a b
  pub a_apart : AreApart puts.a.now p.drop_a
  pub b_apart : AreApart puts.b.now p.drop_b

-- ---- what a sketch keeps of the list before
-- whether the breakpoint is one of the present chains
abbrev pub IsStill : List ℕ → List ℕ → Breakpoint → Type 0
IsStill a b e = Contains (breakpoints_of e.half (list_of e.half a b)) e

-- a fact that isn't remembered, or has failed, or names a number that has left
abbrev pub IsUnknown : Standing → Fact → Type 0
IsUnknown w f = Contains (facts_of w.list.now) f → IsUnfailed w.failed.now w.gone.now f → ⊥

-- a breakpoint with what is still known by a record
pub record IsStillKnown (w : Standing) (r : Record) (d : Draft) : Type 0 where
  pub at : d.at ≡ r.at
  pub turn : IsUnfailed w.failed.now w.gone.now (turn_fact r) → is_told d r.across ≡ true
  pub slope : (n : Next) → r.next ≡ Some n → ((f : Fact) → Contains (slope_facts r) f → IsUnfailed w.failed.now w.gone.now f) → d.next ≡ Some n

-- whether a turn is known
abbrev pub has_turn : Option Across → Bool
has_turn None = false
has_turn (Some c) = true

-- how many have no turn that is known
abbrev pub untold : List Draft → ℕ
untold [] = 0
untold (d ∷ ds) = cond (has_turn d.across) 0 1 + untold ds

-- what is known of a record whose breakpoint is still there is in the sketch, and it has at most two gaps for each breakpoint without a turn, one for each record that is no longer there, and one for each slope that has failed or names a number that has left
pub record IsRetained (w : Standing) (a b : List ℕ) (out : List Draft) : Type 0 where
  pub kept : (r : Record) → Contains w.list.now.records r → IsStill a b (place_of r) → (d : Draft) × Contains out d × IsStillKnown w r d
  pub turns : ℕ
  pub slopes : ℕ
  pub lost_turns : AtLeast (λ r. IsStill a b (place_of r) → ⊥) w.list.now.records turns
  pub lost_slopes : AtLeast (λ f. IsUnfailed w.failed.now w.gone.now f → ⊥) (flat_map slope_facts w.list.now.records) slopes
  pub paid : gaps out ≤ 2 * untold out + (turns + slopes)

-- ---- what a repair asks
-- at least n of the facts aren't among the known ones
abbrev pub AreNew : List Fact → List Fact → ℕ → Type 0
AreNew known fs n = AtLeast (λ f. Contains known f → ⊥) fs n

-- at most five signs are asked for each fact that is born, and at most one for each that is dropped
pub record IsPaid (old new : List Fact) (before after : ℕ) : Type 0 where
  pub born : ℕ
  pub dropped : ℕ
  pub are_born : AreNew old new born
  pub are_dropped : AreNew new old dropped
  pub cost : after ≤ before + 5 * born + dropped

-- the same of a repair, where no half puts a number that it drops and no failed fact holds
abbrev pub IsPaidWhereKnown : Scene → Standing → Puts → List ℕ → List ℕ → Remembered → ℕ → ℕ → Type 0
IsPaidWhereKnown s w puts a b new before after =
    (p : Past) → IsKnownPast p w puts a b → ((f : Placed) → Contains w.failed.now f → Holds s f.fact → ⊥)
    → IsPaid (facts_of w.list.now) (facts_of new) before after
