use Rattle.std.proofs.Common.{List, Option, subst}
use Rattle.kin_cert.specs.Entries.{Entry}
use Rattle.kin_cert.specs.Layout.{NoneTwice}
use Rattle.kin_cert.proofs.Rolls.{once}
use Rattle.kin_cert.specs.Holders.{holder_of}
use Rattle.kin_cert.proofs.roll.Roll.len.Goals as goal

pub returns-clause-once : goal.returns-clause-once
returns-clause-once c = subst (λ (slots : List (Option Entry)). NoneTwice slots) c.self.view_is (once c.self.inside.plan c.self.inside.entries.slots (holder_of c.self.inside.holders) c.self.inside.others c.self.invariant)
