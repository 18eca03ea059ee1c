-- Where a breakpoint may be placed by its turn: after as many breakpoints of the other half as make the point of the turn current.
use Rattle.std.specs.Prelude.{ℕ, Bool, false, List, Option, Some, None, slice_get}
use Rattle.kin_motion.specs.Merges.{other}
use Rattle.kin_chain.specs.Supports.{list_of}
use Rattle.kin_overlay.specs.declared.draft.Draft.{Draft}
use Rattle.kin_overlay.specs.Sketches.{half_at, is_told}

-- whether the turn to this point is known
abbrev pub is_told_of : Option ℕ → Draft → Bool
is_told_of None d = false
is_told_of (Some k) d = is_told d k

-- whether the turn to the point that is current after n breakpoints of the other half is known
abbrev pub seat_in : List ℕ → List ℕ → Draft → ℕ → Bool
seat_in a b d n = is_told_of (slice_get (list_of (other (half_at d)) a b) n) d
