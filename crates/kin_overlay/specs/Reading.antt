-- How a chain is read again where its list has changed.
use Rattle.std.specs.Prelude.{◌≡◌, ℕ, ◌+◌, ◌-◌, ◌≤◌, false, List, [], ◌∷◌, ◌++◌, length, take, drop, Option, Some, ◌<◌, unwrap_or}
use Rattle.kin_algebra.specs.declared.sign.Sign.{Sign}
use Rattle.kin_motion.specs.Cells.{above_of, changes_of}
use Rattle.kin_motion.specs.Numbers.{is_in}
use Rattle.kin_overlay.specs.declared.end.End.{End}
use Rattle.kin_overlay.specs.declared.record.Record.{Record}
use Rattle.kin_overlay.specs.declared.walk.Cell.{Cell as Step}
use Rattle.kin_overlay.specs.Remembered.{Remembered}
use Rattle.kin_overlay.specs.Walks.{above_by, right_above, last_item, first_cell, gifts_before, gifts, chain_read, cell_by, IsThreaded}

-- there is an end, and both are the same
abbrev pub AreSameEnds : Option End → Option End → Type 0
AreSameEnds one other = (e : End) × (one ≡ Some e) × (other ≡ Some e)

-- both lists have the same first `front` records, and the same left end if there are any, and the same last `back` ones, and the same right end if there are any; the records of each have the current points of its cells
pub record AreAlike (old new : Remembered) (front back : ℕ) : Type 0 where
  pub old_end : End
  pub new_end : End
  pub old_left : old.left ≡ Some old_end
  pub new_left : new.left ≡ Some new_end
  pub left : 0 < front → old_end ≡ new_end
  pub right : 0 < back → AreSameEnds old.right new.right
  pub old_threaded : IsThreaded (first_cell old_end) old.records
  pub new_threaded : IsThreaded (first_cell new_end) new.records
  pub old_room : front + back ≤ length old.records
  pub new_room : front + back ≤ length new.records
  pub in_front : take front old.records ≡ take front new.records
  pub at_end : drop (length old.records - back) old.records ≡ drop (length new.records - back) new.records

-- the sign at the right outer end of a list with this left end, which is the only one where there is no other
abbrev pub right_of : Remembered → End → Sign
right_of l left = right_above (unwrap_or l.right left)

-- the chain read off m is `head`, then what is given already, then what the cells give from this one on, where the sign at the right outer end is `right`
pub record IsOpened (m : Remembered) (right : Sign) (head : List ℕ) (from : ℕ) (c : Step) (given : List ℕ) : Type 0 where
  pub read : chain_read m ≡ head ++ (given ++ changes_of (last_item given) (gifts c (drop from m.records) right))
  pub threaded : IsThreaded c (drop from m.records)

-- both chains begin with the same `start` numbers, and go on from a cell of each
pub record AreOpened (old new : Remembered) (old_right right : Sign) (start from : ℕ) (c : Step) (given : List ℕ) : Type 0 where
  pub head : List ℕ
  pub counted : length head ≡ start
  pub cell : Step
  pub of_old : IsOpened old old_right head from cell given
  pub of_new : IsOpened new right head from c given

-- all that is left was given
pub record IsReadWhole (old : List ℕ) (left : List Record) (c : Step) (right : End) (before after : List ℕ) (end : ℕ) : Type 0 where
  pub all : end ≡ length old
  pub given : after ≡ before ++ changes_of (last_item before) (gifts c left (right_above right))

-- what was given ends in the point that is above right after the first of these breakpoints; where the old chain has that point, `end` is the place after it
pub record IsReadUntil (old : List ℕ) (left : List Record) (c : Step) (before after : List ℕ) (end : ℕ) : Type 0 where
  pub first : Record
  pub others : List Record
  pub point : ℕ
  pub is : left ≡ first ∷ others
  pub upper : above_of (above_by first) (cell_by first).a (cell_by first).b ≡ point ∷ []
  pub given : after ≡ before ++ changes_of (last_item before) (gifts_before c (first ∷ []) ++ point ∷ [])
  pub here : (front back : List ℕ) → old ≡ front ++ (point ∷ back) → is_in point front ≡ false → end ≡ length front + 1

-- the new chain is the old one, but for what was given in place of its numbers from `start` up to `end`
pub record IsReadAgain (old new given : List ℕ) (start end : ℕ) : Type 0 where
  pub ordered : start ≤ end
  pub within : end ≤ length old
  pub new_is : new ≡ take start old ++ (given ++ drop end old)
