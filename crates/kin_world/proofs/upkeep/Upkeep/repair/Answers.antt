use Rattle.kin_world.proofs.Vocabulary.{arith, sym, ◌∙◌, subst, List, from_two, Structure, HasGoneOn, IsRepaired, stage_of}
use Rattle.std.proofs.lemmas.List.{with_items_is}
use Rattle.kin_world.proofs.Becoming.{keep_here, may_be_told, paid, place_here, settled_here, updated}
use Rattle.kin_world.proofs.PaidLaws.{has_paid_none}
use Rattle.kin_world.proofs.RepairLaws.{given_leaves, idle_on, may_settle, repaired}
use Rattle.kin_world.proofs.upkeep.Upkeep.repair.Goals as goal

pub returns-then-is_idle-clause-goes_on : goal.returns-then-is_idle-clause-goes_on
returns-then-is_idle-clause-goes_on g c = idle_on c.args.self.now.mail c.requires.repair (c.is_idle.ensures c.if-is_idle.true)

pub returns-then-is_idle-clause-cost : goal.returns-then-is_idle-clause-cost
returns-then-is_idle-clause-cost g c = has_paid_none _ c.args.k (stage_of c.args.self.now) c.args.steps.now

pub settle_at-requires-clause-may : goal.settle_at-requires-clause-may
settle_at-requires-clause-may g c = rw (c.deref_mut.ensures.value, c.told-failed.ensures) (λ st here. may_settle c.args.self.now.mail c.requires.repair st c.requires.within here)

pub tell-requires : goal.tell-requires
tell-requires g c =
    let order = c.requires.repair.1.in_order in
    let changed = rw (c.clear.ensures, c.deref_mut.ensures.value) at c.in_ok-settle_at.ensures in
    may_be_told (stage_of c.args.self.now) order changed c.requires.within ((place_here (stage_of c.args.self.now) order changed c.requires.within).fine.ahead (omega arith)).kind

pub returns-clause-goes_on : goal.returns-clause-goes_on
returns-clause-goes_on g c =
    let order = c.requires.repair.1.in_order in
    let changed = rw (c.clear.ensures, c.deref_mut.ensures.value) at c.in_ok-settle_at.ensures in
    let kind = ((place_here (stage_of c.args.self.now) order changed c.requires.within).fine.ahead (omega arith)).kind in
    rw (with_items_is c.args.self.now.structures c.settle_at.new.structures (c.settle_at.auto.structures ∙ c.deref_mut.ensures.len))
    (from_two c.tell.result
    (λ told made.
    subst (λ (xs : List Structure). HasGoneOn (IsRepaired c.args.self.now.mail) c.args.k (stage_of c.args.self.now) (record (stage_of c.args.self.now) { structures = xs; table = c.tell.new.self })) (sym changed.written)
    (repaired c.args.self.now.mail c.requires.repair (keep_here (stage_of c.args.self.now) order changed c.requires.within).0 changed.was changed.after c.tell.new.self (updated (stage_of c.args.self.now) order changed c.requires.within kind told made)))
    c.tell.ensures.told c.tell.ensures.made)

pub returns-clause-cost : goal.returns-clause-cost
returns-clause-cost g c =
    let order = c.requires.repair.1.in_order in
    let changed = rw (c.clear.ensures, c.deref_mut.ensures.value) at c.in_ok-settle_at.ensures in
    let kind = ((place_here (stage_of c.args.self.now) order changed c.requires.within).fine.ahead (omega arith)).kind in
    rw (with_items_is c.args.self.now.structures c.settle_at.new.structures (c.settle_at.auto.structures ∙ c.deref_mut.ensures.len))
    (from_two c.tell.result
    (λ told cost. paid (stage_of c.args.self.now) order changed c.requires.within kind told
    (λ l there waits own. given_leaves order (keep_here (stage_of c.args.self.now) order changed c.requires.within).0 changed.after (settled_here (stage_of c.args.self.now) order changed c.requires.within kind) l there waits) c.tell.new.steps cost)
    c.tell.ensures.told c.tell.ensures.cost)
