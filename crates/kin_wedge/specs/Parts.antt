-- The eight kinetic lists, each in a part of its own.
use Rattle.std.specs.Prelude.{◌≡◌, ℕ, ◌+◌, ◌^◌, List, [], ◌++◌, ◌∷◌, map, length, Some, slice_get, Contains, Bool, nat_eq}
use Rattle.kin_motion.specs.declared.fact.Placed.{Placed}
use Rattle.kin_motion.specs.Kinetics.{ListsFailing}
pub use Rattle.kin_motion.specs.Letters.{told_to}
use Rattle.kin_motion.specs.Octants.{direction_of}
use Rattle.kin_motion.specs.Parts.{moved_by}
use Rattle.kin_motion.specs.Scene.{Scene, IsReal}
use Rattle.kin_list.specs.declared.mark.Mark.{Mark}
use Rattle.kin_list.specs.declared.mark.Mark.TheVariants.{Rest}
use Rattle.kin_list.specs.Listing.{Listing, IsAtRest, IsReadyListing, IsSettledListing, names_leaving, staying, lasting}
use Rattle.kin_list.specs.Rows.{exchanged}

-- the facts of these lists, whose parts are numbered from n on
abbrev pub facts_from : ℕ → List Listing → List Placed
facts_from n [] = []
facts_from n (l ∷ ls) = map (moved_by n) l.facts ++ facts_from (n + 1) ls

-- the exchanges of each list
abbrev pub swaps_of : List Listing → List (List ℕ)
swaps_of ls = map (λ l. l.swaps) ls

-- the empty list of a part, with room for the numbers below 2^size
abbrev pub vacant_listing : ℕ → ℕ → Listing
vacant_listing size part = record { dx = (direction_of part).dx; dy = (direction_of part).dy; room = 2 ^ size; items = []; facts = []; swaps = []; mark = Rest }

-- eight empty lists, one for each part
pub record AreVacant (size : ℕ) (lists : List Listing) : Type 0 where
  pub count : length lists ≡ 8
  pub each : (part : ℕ) (l : Listing) → slice_get lists part ≡ Some l → l ≡ vacant_listing size part

-- each list has become another one
pub record EachTo (R : Listing → Listing → Type 0) (old new : List Listing) : Type 0 where
  pub count : length new ≡ length old
  pub each : (part : ℕ) (l m : Listing) → slice_get old part ≡ Some l → slice_get new part ≡ Some m → R l m

-- the same list with a mark
abbrev pub IsMarked : Mark → Listing → Listing → Type 0
IsMarked mark l m = m ≡ record l { mark = mark }

-- the fact in another part
abbrev pub in_part : ℕ → Placed → Placed
in_part part p = record { part = part; fact = p.fact }

abbrev pub is_of_part : ℕ → Placed → Bool
is_of_part part p = nat_eq p.part part

-- each list's own facts are in part 0
abbrev pub AreAtNought : List Placed → Type 0
AreAtNought facts = (p : Placed) → Contains facts p → p.part ≡ 0

-- the list has forgotten its exchanges, and where no mark waits and no fact has failed it has settled by that
pub record StandsStill (l m : Listing) : Type 0 where
  pub same : m ≡ record l { swaps = [] }
  pub settled : IsAtRest l → (s : Scene) → IsReal s → IsReadyListing l s → ListsFailing l.facts (names_leaving l.mark) s [] → IsSettledListing m s

-- the list has settled, and its exchanges lead from the old order to the new one
pub record IsResettled (s : Scene) (l m : Listing) : Type 0 where
  pub rest : m.mark ≡ Rest
  pub settled : IsSettledListing m s
  pub exchanges : exchanged m.swaps (staying l.mark l.items) ≡ lasting l.mark m.items
  pub same : (m.dx ≡ l.dx) × (m.dy ≡ l.dy) × (m.room ≡ l.room)

-- a list that had no failed fact and no mark has exchanged nothing
abbrev pub AreQuiet : Mark → List (List Placed) → List Listing → Type 0
AreQuiet mark boxes lists = (part : ℕ) (l : Listing) → slice_get lists part ≡ Some l → told_to boxes part ≡ [] → mark ≡ Rest → l.swaps ≡ []
