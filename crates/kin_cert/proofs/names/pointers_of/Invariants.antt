use Rattle.kin_cert.specs.Names.{IsIndexUpTo}
use Rattle.kin_cert.proofs.names.pointers_of.Given as goal

abbrev pub invariant-loop-id : goal.invariant-loop-id
invariant-loop-id l = IsIndexUpTo l.id l.pointers l.roll
