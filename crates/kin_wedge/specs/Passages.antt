-- From the orders before a settle to those after it.
use Rattle.std.specs.Prelude.{◌≡◌, ◌≢◌, ◌&&◌, not, Bool, Contains, nat_eq, nat_lt, ℕ, ◌+◌, ◌*◌, ◌<◌, ◌≤◌, true, false, List, [], length, filter, Option, Some, None, slice_get, slice_index_or}
use Rattle.std.specs.List.{list_any, range_with_len}
use Rattle.std.specs.Option.{option_eq}
use Rattle.kin_motion.specs.Numbers.{is_in, IsChain}
use Rattle.kin_motion.specs.Octants.{Octant, octants}
use Rattle.kin_list.specs.declared.mark.Mark.{Mark}
use Rattle.kin_list.specs.declared.mark.Mark.TheVariants.{Rest, Enters, Leaves, Broken}
use Rattle.kin_list.specs.Listing.{staying, lasting}
use Rattle.kin_list.specs.Rows.{exchanged}
use Rattle.kin_wedge.specs.declared.touch.Touch.{Touch}
use Rattle.kin_wedge.specs.Rows.{row_of, IsFirstAnswer, WereExchanged}
use Rattle.kin_wedge.specs.Touched.{ComesFirst, IsOffered, HasOfferedBoth}

-- the number of the mark is new, or it is gone
abbrev pub AreBeside : Mark → List (List ℕ) → List (List ℕ) → Type 0
AreBeside Rest old new = Unit {0}
AreBeside (Enters i) old new = (part : ℕ) → is_in i (row_of old part) ≡ false
AreBeside (Leaves i) old new = (part : ℕ) → is_in i (row_of new part) ≡ false
AreBeside Broken old new = Unit {0}

-- the exchanges lead from the old orders to the new ones, but for the number that enters or leaves
pub record IsPassage (mark : Mark) (swaps old new : List (List ℕ)) : Type 0 where
  pub exchanges : (part : ℕ) → exchanged (row_of swaps part) (staying mark (row_of old part)) ≡ lasting mark (row_of new part)
  pub beside : AreBeside mark old new

-- each slot 8p + w has the first of octant w of p
abbrev pub AreAnswered : List (List ℕ) → List (Option ℕ) → Type 0
AreAnswered rows candidates = (p w : ℕ) (o : Octant) (answer : Option ℕ) → slice_get octants w ≡ Some o → slice_get candidates (8 * p + w) ≡ Some answer → IsFirstAnswer rows o p answer

-- the numbers of each exchange are offered where they can have changed a slot
abbrev pub AreExchangesOffered : Mark → List (List ℕ) → List (List ℕ) → List (List ℕ) → List (Option ℕ) → List Touch → Type 0
AreExchangesOffered mark swaps old new candidates ts = (part a b : ℕ) → WereExchanged (row_of swaps part) (staying mark (row_of old part)) a b → HasOfferedBoth new candidates part a b ts

-- all slots of a number are looked up
abbrev pub IsLookedUp : ℕ → List Touch → Type 0
IsLookedUp i ts = (w : ℕ) → w < 8 → IsOffered ts (8 * i + w) None

-- all slots of all members are looked up
abbrev pub AreAllLookedUp : List (List ℕ) → List Touch → Type 0
AreAllLookedUp rows ts = (i : ℕ) → is_in i (row_of rows 0) ≡ true → IsLookedUp i ts

-- a number is offered to each octant that it is in, where no candidate comes before it
abbrev pub IsOfferedAround : List (List ℕ) → List (Option ℕ) → ℕ → List Touch → Type 0
IsOfferedAround rows candidates i ts = (p w : ℕ) (o : Octant) → slice_get octants w ≡ Some o → ComesFirst rows candidates o p w i → IsOffered ts (8 * p + w) (Some i)

-- the same at the apexes that the first order has from one place to before another
abbrev pub IsOfferedFrom : List (List ℕ) → List (Option ℕ) → ℕ → ℕ → ℕ → List Touch → Type 0
IsOfferedFrom rows candidates i from to ts = (k p w : ℕ) (o : Octant) → from ≤ k → k < to → slice_get (row_of rows 0) k ≡ Some p → slice_get octants w ≡ Some o → ComesFirst rows candidates o p w i → IsOffered ts (8 * p + w) (Some i)

-- each slot whose candidate a number is, is looked up
abbrev pub IsLost : List (Option ℕ) → ℕ → List Touch → Type 0
IsLost candidates i ts = (slot : ℕ) → slice_get candidates slot ≡ Some (Some i) → IsOffered ts slot None

-- the number enters or leaves
abbrev pub IsNumberOf : Mark → ℕ → Type 0
IsNumberOf Rest i = ⊥
IsNumberOf (Enters j) i = i ≡ j
IsNumberOf (Leaves j) i = i ≡ j
IsNumberOf Broken i = ⊥

-- what the number of the mark can have changed is noted
abbrev pub IsMarkOffered : Mark → List (List ℕ) → List (Option ℕ) → List Touch → Type 0
IsMarkOffered Rest new candidates ts = Unit {0}
IsMarkOffered (Enters i) new candidates ts = IsLookedUp i ts × IsOfferedAround new candidates i ts
IsMarkOffered (Leaves i) new candidates ts = IsLookedUp i ts × IsLost candidates i ts
IsMarkOffered Broken new candidates ts = Unit {0}

-- eight empty rows
pub record AreVacantRows (rows : List (List ℕ)) : Type 0 where
  pub count : length rows ≡ 8
  pub each : (part : ℕ) → row_of rows part ≡ []

-- the slots are those of the touches that have another candidate now
pub record HasNoted (candidates : List (Option ℕ)) (ts : List Touch) (slots : List ℕ) : Type 0 where
  pub all : (t : Touch) → Contains ts t → slice_get candidates t.slot ≢ Some t.old → is_in t.slot slots ≡ true
  pub only : (s : ℕ) → is_in s slots ≡ true → (t : Touch) × Contains ts t × (t.slot ≡ s) × (slice_get candidates t.slot ≢ Some t.old)

-- the slot of a touch has another candidate now
abbrev pub has_changed : List (Option ℕ) → Touch → Bool
has_changed candidates t = not (option_eq nat_eq (slice_index_or candidates t.slot None) t.old)

-- the slots of the touches that have another candidate now, rising
abbrev pub changed_slots : List (Option ℕ) → List Touch → List ℕ
changed_slots candidates ts = filter (λ slot. list_any (λ t. nat_eq t.slot slot && has_changed candidates t) ts) (range_with_len 0 (length candidates))

-- the slots, rising, at which the candidates differ
pub record AreChanged (old new : List (Option ℕ)) (slots : List ℕ) : Type 0 where
  pub rising : IsChain nat_lt slots
  pub all : (slot : ℕ) → slice_get old slot ≢ slice_get new slot → is_in slot slots ≡ true
  pub only : (slot : ℕ) → is_in slot slots ≡ true → (slot < length new) × (slice_get old slot ≢ slice_get new slot)
