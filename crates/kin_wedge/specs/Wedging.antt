-- What the eight orders with their candidates mean to a caller.
use Rattle.std.specs.Prelude.{◌≡◌, ℕ, ◌+◌, ◌*◌, ◌^◌, ◌<◌, ◌≤◌, List, length, Option, Some, None, slice_get, slice_index_or, false, true}
use Rattle.kin_motion.specs.declared.fact.Placed.{Placed}
use Rattle.kin_motion.specs.Contents.{IsSettledWedges}
use Rattle.kin_motion.specs.Numbers.{is_in, IsOnce}
use Rattle.kin_motion.specs.Octants.{direction_of}
use Rattle.kin_motion.specs.Scene.{Scene}
use Rattle.kin_list.specs.declared.mark.Mark.{Mark}
use Rattle.kin_list.specs.declared.mark.Mark.TheVariants.{Rest, Enters, Leaves, Broken}
use Rattle.kin_list.specs.Listing.{Listing, HasMarked}
use Rattle.kin_wedge.specs.Parts.{AreAtNought}
use Rattle.kin_wedge.specs.Passages.{AreAnswered}
use Rattle.kin_wedge.specs.Rows.{row_of, AreAlike, AreOrders}
use Rattle.kin_wedge.specs.Seen.{rows_of}

-- numbers are below 2^size; the orders of the eight parts, the live facts, the candidate of each slot 8p + w, the slots that the last settle changed, and the mark
pub record Wedging : Type 0 where
  pub size : ℕ
  pub orders : List (List ℕ)
  pub facts : List Placed
  pub candidates : List (Option ℕ)
  pub changed : List ℕ
  pub mark : Mark

-- the members, in the first order
abbrev pub members_of : Wedging → List ℕ
members_of k = row_of k.orders 0

-- the candidate of p in octant w by the slots
abbrev pub candidate_at : List (Option ℕ) → ℕ → ℕ → Option ℕ
candidate_at candidates p w = slice_index_or candidates (8 * p + w) None

abbrev pub candidate_told : Wedging → ℕ → ℕ → Option ℕ
candidate_told k p w = candidate_at k.candidates p w

-- the members as they will be are the live numbers
abbrev pub IsReadyWedging : Wedging → Scene → Type 0
IsReadyWedging k s = HasMarked k.mark (members_of k) s.live

-- no mark waits
abbrev pub IsWedgingAtRest : Wedging → Type 0
IsWedgingAtRest k = k.mark ≡ Rest

-- the orders are the eight orders, the candidates are the definition's, and the facts are those of the orders
pub record IsSettledWedging (k : Wedging) (s : Scene) : Type 0 where
  pub ordered : AreOrders s k.orders
  pub wedges : IsSettledWedges s k.size (candidate_told k) k.facts

-- the list of a part, with this mark
pub record IsListOf (size : ℕ) (mark : Mark) (part : ℕ) (l : Listing) : Type 0 where
  pub dx : l.dx ≡ (direction_of part).dx
  pub dy : l.dy ≡ (direction_of part).dy
  pub room : l.room ≡ 2 ^ size
  pub marked : l.mark ≡ mark
  pub nought : AreAtNought l.facts

-- the number of the mark may enter or leave
abbrev pub IsMarkable : ℕ → Mark → List ℕ → Type 0
IsMarkable size Rest members = Unit {0}
IsMarkable size (Enters i) members = (i < 2 ^ size) × (is_in i members ≡ false)
IsMarkable size (Leaves i) members = is_in i members ≡ true
IsMarkable size Broken members = Unit {0}

-- the rows are those of the lists, which have the same members, each once, and the slots have their candidates
pub record AreKept (size : ℕ) (mark : Mark) (lists : List Listing) (rows : List (List ℕ)) (candidates : List (Option ℕ)) : Type 0 where
  pub count : length lists ≡ 8
  pub each : (part : ℕ) (l : Listing) → slice_get lists part ≡ Some l → IsListOf size mark part l
  pub same : rows ≡ rows_of lists
  pub once : (part : ℕ) → part < 8 → IsOnce (row_of (rows_of lists) part)
  pub alike : AreAlike (rows_of lists)
  pub below : (i : ℕ) → is_in i (row_of (rows_of lists) 0) ≡ true → i < 2 ^ size
  pub answered : AreAnswered (rows_of lists) candidates
  pub markable : IsMarkable size mark (row_of (rows_of lists) 0)

-- after want of memory nothing is kept
abbrev pub AreKeptIf : ℕ → Mark → List Listing → List (List ℕ) → List (Option ℕ) → Type 0
AreKeptIf size Rest lists rows candidates = AreKept size Rest lists rows candidates
AreKeptIf size (Enters i) lists rows candidates = AreKept size (Enters i) lists rows candidates
AreKeptIf size (Leaves i) lists rows candidates = AreKept size (Leaves i) lists rows candidates
AreKeptIf size Broken lists rows candidates = Unit {0}

-- what is true of every structure
pub record AreWedges (size : ℕ) (mark : Mark) (lists : List Listing) (rows : List (List ℕ)) (candidates : List (Option ℕ)) : Type 0 where
  pub small : size ≤ 12
  pub slots : length candidates ≡ 8 * 2 ^ size
  pub kept : AreKeptIf size mark lists rows candidates
