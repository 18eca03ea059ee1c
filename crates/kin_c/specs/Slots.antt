-- What a slot owns.
use Rattle.std.specs.Prelude.{Option, Some, None}
use base.Fml.{Fml, ftrue}
use denote.RawPtr.{Ptr}
use Rattle.std.specs.declared.alloc.Global.{Global}
use Rattle.std.specs.contracts.impls.GlobalAllocator.TheImpl.{ghosts}
use Rattle.std.specs.Box.Ownership.{box_owns}
use Rattle.kin_tracker.specs.contracts.tracker.Tracker.{the_row}

-- the block of a tracker, with the right to free it, or nothing
abbrev pub slot_owns : Global → Ptr → Option the_row.Denot → Fml
slot_owns a p None = ftrue
slot_owns a p (Some w) = box_owns (ghosts.dealloc_token a) the_row p w
