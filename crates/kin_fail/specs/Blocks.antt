-- Owned facts and failures, as the definitions of the live facts and of the journal have them.
use Rattle.kin_motion.specs.Live.{Certificate}
use Rattle.kin_motion.specs.Journal.{Failure}
use Rattle.kin_fail.specs.declared.owned.Owned.{Owned}
use Rattle.kin_fail.specs.declared.owned.Failure.{Failure as Failed}

-- a fact of an owner that was live, with its new sign
abbrev pub failure_of : Failed → Failure
failure_of f = record { was = record { structure = f.structure; placed = record { part = f.part; fact = record { form = f.form; sign = f.before } } }; now = f.after }

-- a fact with its owner, as the definition of the live facts has it
abbrev pub certificate_of : Owned → Certificate
certificate_of o = record { structure = o.structure; placed = record { part = o.part; fact = o.fact } }
