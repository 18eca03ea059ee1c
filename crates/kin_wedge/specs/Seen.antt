-- What the code's tables mean.
use Rattle.std.specs.Prelude.{ℕ, ◌<◌, List, map}
use Rattle.kin_list.specs.Listing.{Listing}
use Rattle.kin_motion.specs.Octants.{Octant, Reading}
use Rattle.kin_wedge.specs.declared.octant.Octant.{Octant as Table}
use Rattle.kin_wedge.specs.declared.octant.Reading.{Reading as Entry}

abbrev pub reading_seen : Entry → Reading
reading_seen r = record { part = r.part; from_end = r.from_end }

abbrev pub octant_seen : Table → Octant
octant_seen o = record { first = reading_seen o.first; second = reading_seen o.second; third = reading_seen o.third }

-- the orders of the octant are of the parts 0 to 7
pub record IsOfEight (o : Octant) : Type 0 where
  pub first : o.first.part < 8
  pub second : o.second.part < 8
  pub third : o.third.part < 8

-- the members of each list
abbrev pub rows_of : List Listing → List (List ℕ)
rows_of ls = map (λ l. l.items) ls
