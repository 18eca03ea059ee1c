-- What the table of octants means.
use Rattle.std.specs.Prelude.{◌<◌}
use Rattle.kin_motion.specs.Octants.{Octant, Reading}
use Rattle.kin_plain.specs.declared.octant.Octant.{Octant as Table}
use Rattle.kin_plain.specs.declared.octant.Reading.{Reading as Entry}

-- an order as it is read
abbrev pub reading_seen : Entry → Reading
reading_seen r = record { part = r.part; from_end = r.from_end }

-- the three orders of an octant
abbrev pub octant_seen : Table → Octant
octant_seen o = record { first = reading_seen o.first; second = reading_seen o.second; third = reading_seen o.third }

-- its orders are of the parts 0 to 7
pub record IsOfEight (o : Octant) : Type 0 where
  pub first : o.first.part < 8
  pub second : o.second.part < 8
  pub third : o.third.part < 8
