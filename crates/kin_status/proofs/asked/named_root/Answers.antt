use Rattle.std.proofs.Math.Facts.{to_z-of_z}
use Rattle.kin_status.proofs.NamedRoots.{two_named}
use Rattle.kin_status.proofs.asked.named_root.Goals as goal

pub returns-in-Two : goal.returns-in-Two
returns-in-Two c = rw c.named.ensures (two_named c.args.upper _ c.new.result c.in-Two.lesser c.in-Two.greater (rw (to_z-of_z c.ranges.a, to_z-of_z c.ranges.b, to_z-of_z c.ranges.c) at c.new.ensures) c.in-Two.ensures.canonical c.in-Two.ensures.exact c.in-Two.ensures.rising)
