use Rattle.std.proofs.Common.{◌≡◌, Some, slice_set, refl, sym, subst}
use Rattle.kin_cert.specs.Entries.{Entry}
use Rattle.kin_cert.specs.Rolls.{IsRoll}
use Rattle.kin_cert.specs.Layout.{entry_at, fresh}
use Rattle.kin_cert.proofs.Rolls.{kept-roll}
use Rattle.kin_cert.proofs.Tables.{has-slot}
use Rattle.kin_cert.specs.Holders.{holder_of}
use Rattle.kin_cert.proofs.roll.Roll.free.Goals as goal

pub invariant_of-self : goal.invariant_of-self
invariant_of-self c =
    let e = c.in-Some.entry.now in
    let there : entry_at c.self.inside.entries.slots c.args.id ≡ Some e = sym c.in-Some.ensures.value in
    subst (λ (x : Entry). IsRoll c.self.inside.plan (slice_set c.self.inside.entries.slots c.args.id (Some x)) (holder_of c.self.inside.holders) c.self.inside.others) (sym c.renew.ensures)
    (kept-roll c.self.inside.plan c.self.inside.entries.slots (holder_of c.self.inside.holders) c.self.inside.others c.self.invariant _ c.args.id e (fresh e.owned) there (has-slot c.self.inside.entries.slots c.args.id e (Some (fresh e.owned)) there) refl)
