-- A table with a list of its facts.
use Rattle.std.specs.Prelude.{◌≡◌, false, List, Contains}
use Rattle.kin_motion.specs.declared.fact.Placed.{Placed}
use Rattle.kin_cert.specs.Facts.{LiveFact}

-- no fact of the table waits, and all of them are listed
abbrev pub AreListed : List LiveFact → List Placed → Type 0
AreListed live facts = (l : LiveFact) → Contains live l → (l.waits ≡ false) × Contains facts l.certificate.placed
