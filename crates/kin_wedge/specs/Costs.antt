-- The sign tests of eight orders, one after another.
use Rattle.std.specs.Prelude.{◌≡◌, ℕ, zero, suc, ◌+◌, ◌*◌, ◌≤◌, List, length}
use Rattle.kin_motion.specs.Records.{moved_pairs}
use Rattle.kin_motion.specs.Deltas.{Change}
use Rattle.kin_list.specs.declared.mark.Mark.{Mark}
use Rattle.kin_list.specs.Listing.{AreHalvings}
use Rattle.kin_wedge.specs.Rows.{row_of}

-- how many pairs changed places in the first n orders
abbrev pub moved_below : ℕ → List (List ℕ) → List (List ℕ) → ℕ
moved_below zero old new = 0
moved_below (suc n) old new = moved_below n old new + moved_pairs (row_of old n) (row_of new n)

-- so many halvings are allowed to the first n orders together
abbrev pub AreHalvingsBelow : ℕ → Mark → List (List ℕ) → ℕ → Type 0
AreHalvingsBelow zero mark old total = total ≡ 0
AreHalvingsBelow (suc n) mark old total = (before own : ℕ) × AreHalvingsBelow n mark old before × AreHalvings mark (length (row_of old n)) own × (total ≡ before + own)

-- in the first n orders at most 8 tests for each fact dropped or born and for each moved pair, and the halvings
pub record AreFewBelow (n : ℕ) (mark : Mark) (old new : List (List ℕ)) (out out' : Change) (before after : ℕ) : Type 0 where
  pub halvings : ℕ
  pub allowed : AreHalvingsBelow n mark old halvings
  pub bound : after + 8 * (length out.dropped + length out.born) ≤ before + 8 * (length out'.dropped + length out'.born + moved_below n old new) + halvings
