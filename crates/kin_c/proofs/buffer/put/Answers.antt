use Rattle.std.proofs.Common.{refl}
use Rattle.kin_c.proofs.buffer.put.Goals as goal

pub returns-then-out-items : goal.returns-then-out-items
returns-then-out-items g c = record { room = c.if-out-items.true; len = refl; list = refl }
