-- Slots of the tournament that get the pairs of their cells.
use Rattle.std.specs.Prelude.{◌≡◌, ◌≢◌, ℕ, ◌+◌, ◌*◌, ◌^◌, ◌<◌, true, List, length, Contains, Option, None, slice_set, ◌⊎◌}
use Rattle.kin_motion.specs.ClosestPairs.{Near}
use Rattle.kin_motion.specs.Numbers.{IsIn}
use Rattle.kin_motion.specs.Sweeps.{HoldsCell}
use Rattle.kin_motion.specs.Tournaments.{item_in}
use Rattle.kin_tourney.specs.Tournament.{Tournament, mark_in}

-- the numbers have slots
abbrev pub HaveSlots : ℕ → List ℕ → Type 0
HaveSlots size xs = (i : ℕ) → IsIn i xs → 2 * i + 1 < 2 ^ size

-- the cells have slots
abbrev pub AreWithin : ℕ → List Near → Type 0
AreWithin room cells = (n : Near) → Contains cells n → n.slot < room

-- each of these slots holds a cell that has it, or none has it
abbrev pub HoldCells : List Near → List (Option Near) → Type 0
HoldCells cells slots = (i : ℕ) → HoldsCell cells i (item_in slots i)

-- the slot is as it was
abbrev pub IsKept : {K : Type 0} → Tournament K Near → Tournament K Near → ℕ → Type 0
IsKept old new i = (item_in new.slots i ≡ item_in old.slots i) × (mark_in new.marked i ≡ mark_in old.marked i)

-- the slot is marked, and holds what is wanted in place of something else
abbrev pub IsChanged : {K : Type 0} → (ℕ → Option Near) → Tournament K Near → Tournament K Near → ℕ → Type 0
IsChanged want old new i = (item_in new.slots i ≡ want i) × (mark_in new.marked i ≡ true) × (item_in old.slots i ≢ want i)

-- a slot gets this and is marked
abbrev pub IsSet : {K : Type 0} → ℕ → Option Near → Tournament K Near → Tournament K Near → Type 0
IsSet slot pair old new = new ≡ record old { slots = slice_set old.slots slot pair; marked = slice_set old.marked slot true; winners = new.winners }

-- a slot holds this already, or it gets it and is marked
abbrev pub IsTold : {K : Type 0} → ℕ → Option Near → Tournament K Near → Tournament K Near → Type 0
IsTold slot pair old new = ((item_in old.slots slot ≡ pair) × (new ≡ old)) ⊎ ((item_in old.slots slot ≢ pair) × IsSet slot pair old new)

-- each slot is as it was, or it is marked and holds what is wanted in place of something else
pub record AreTold {K : Type 0} (want : ℕ → Option Near) (old new : Tournament K Near) : Type 0 where
  pub same : new ≡ record old { slots = new.slots; marked = new.marked; winners = new.winners }
  pub slots_room : length new.slots ≡ length old.slots
  pub marks_room : length new.marked ≡ length old.marked
  pub each : (i : ℕ) → IsKept old new i ⊎ IsChanged want old new i

-- what is true of the slots between two calls: they hold these cells, and no place is taken
pub record AreSeated {K : Type 0} (tourney : Tournament K Near) (cells : List Near) (places : List (Option Near)) : Type 0 where
  pub slots_room : length tourney.slots ≡ 2 ^ tourney.size
  pub marks_room : length tourney.marked ≡ 2 ^ tourney.size
  pub places_room : length places ≡ 2 ^ tourney.size
  pub within : AreWithin (2 ^ tourney.size) cells
  pub held : HoldCells cells tourney.slots
  pub free : (i : ℕ) → item_in places i ≡ None
