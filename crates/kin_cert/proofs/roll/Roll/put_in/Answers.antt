use Rattle.std.proofs.Common.{◌≡◌, ℕ, List, Option, Some, sym, subst, ap, ◌∙◌}
use Rattle.slab.specs.Slab.{Slab, Updates}
use Rattle.kin_cert.specs.Entries.{Entry}
use Rattle.kin_fail.specs.Rank.{owned_rank}
use Rattle.kin_cert.specs.Layout.{held, fresh, HasSlot, IsNotFound}
use Rattle.kin_cert.proofs.Rolls.{same-index}
use Rattle.kin_cert.proofs.Enrolling.{enrolled-roll}
use Rattle.kin_cert.specs.Rolls.{IsRoll}
use Rattle.kin_cert.specs.Holders.{holder_of}
use Rattle.kin_cert.proofs.roll.Roll.put_in.Goals as goal

pub invariant_of-self : goal.invariant_of-self
invariant_of-self c =
    subst (λ (slots : List (Option Entry)). IsRoll c.self.inside.plan slots (holder_of c.self.inside.holders) c.self.inside.others) (ap (λ (s : Slab Entry). s.slots) (sym c.reserve.ensures.rest_kept)) c.self.invariant

pub invariant_of-self-in_err-enrol : goal.invariant_of-self-in_err-enrol
invariant_of-self-in_err-enrol c =
    let slots_are : c.self.inside.entries.slots ≡ c.reserve.new.self.slots = ap (λ (s : Slab Entry). s.slots) (sym c.reserve.ensures.rest_kept) in
    subst (λ (slots : List (Option Entry)). IsRoll c.self.inside.plan slots (holder_of c.enrol.new.holders) c.enrol.new.others) slots_are
    (same-index c.self.inside.plan c.self.inside.entries.slots (holder_of c.self.inside.holders) c.self.inside.others c.self.invariant (holder_of c.enrol.new.holders) c.enrol.new.others c.in_err-enrol.ensures.err)

pub invariant_of-self-2 : goal.invariant_of-self-2
invariant_of-self-2 c =
    let slots_are : c.reserve.new.self.slots ≡ c.self.inside.entries.slots = ap (λ (s : Slab Entry). s.slots) c.reserve.ensures.rest_kept in
    let id = c.vacant_key-id.result in
    let key : c.insert_reserved.result ≡ id = c.insert_reserved.ensures.key ∙ sym c.vacant_key-id.ensures.value in
    let u : Updates c.reserve.new.self c.insert_reserved.new.self id (Some (fresh (held c.args.structure c.args.placed.now))) =
    subst (λ (e : Entry). Updates c.reserve.new.self c.insert_reserved.new.self id (Some e)) c.new.ensures
    (subst (λ (k : ℕ). Updates c.reserve.new.self c.insert_reserved.new.self k (Some c.new.result)) key c.insert_reserved.ensures.updates) in
    let slot : HasSlot c.reserve.new.self.slots c.insert_reserved.new.self.slots id (Some (fresh (held c.args.structure c.args.placed.now))) = record { changed = u.changed; others = u.others } in
    let roll = subst (λ (slots : List (Option Entry)). IsRoll c.self.inside.plan slots (holder_of c.self.inside.holders) c.self.inside.others) (sym slots_are) c.self.invariant in
    let free = subst (λ (slots : List (Option Entry)). IsNotFound slots (owned_rank (held c.args.structure c.args.placed.now))) (sym (slots_are ∙ c.self.view_is)) c.requires.free in
    enrolled-roll c.self.inside.plan c.reserve.new.self.slots c.insert_reserved.new.self.slots (holder_of c.self.inside.holders) (holder_of c.enrol.new.holders) c.self.inside.others c.enrol.new.others roll id (held c.args.structure c.args.placed.now) c.vacant_key-id.ensures.vacant slot free c.in_ok-enrol.ensures.ok
