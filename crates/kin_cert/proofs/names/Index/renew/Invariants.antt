use Rattle.std.proofs.Common.{length}
use Rattle.kin_cert.specs.Names.{IsIndexBut}
use Rattle.kin_cert.proofs.names.Index.renew.Given as goal

abbrev pub invariant-ids : goal.invariant-ids
invariant-ids l = IsIndexBut (record { pointing = l.self-inside.pointers; changed = l.self-inside.changed }) l.roll

abbrev pub decreases-ids : goal.decreases-ids
decreases-ids l = length l.self-inside.changed
