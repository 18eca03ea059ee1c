use Rattle.kin_world.proofs.Vocabulary.{◌≡◌, arith, sym, ◌∙◌, subst, true, false, List, from_two, Structure, HasGoneOn, IsCarriedOut, stage_of}
use Rattle.std.proofs.lemmas.List.{with_items_is}
use Rattle.kin_world.proofs.Becoming.{may_be_told, paid, place_here, updated}
use Rattle.kin_world.proofs.MarkLaws.{carried_on, may_carry_out}
use Rattle.kin_world.proofs.upkeep.Upkeep.carry_out_one.Goals as goal

pub carry_out_at-requires-clause-may : goal.carry_out_at-requires-clause-may
carry_out_at-requires-clause-may g c = rw c.deref_mut.ensures.value (λ st here. may_carry_out c.args.mark c.requires.marked.1 st c.requires.within here)

pub tell-requires : goal.tell-requires
tell-requires g c =
    let order = c.requires.marked.1.in_order in
    let changed = rw (c.clear.ensures, c.deref_mut.ensures.value) at c.in_ok-carry_out_at.ensures in
    may_be_told (stage_of c.args.self.now) order changed c.requires.within ((place_here (stage_of c.args.self.now) order changed c.requires.within).fine.ahead (omega arith)).kind

pub returns-clause-goes_on : goal.returns-clause-goes_on
returns-clause-goes_on g c =
    let order = c.requires.marked.1.in_order in
    let changed = rw (c.clear.ensures, c.deref_mut.ensures.value) at c.in_ok-carry_out_at.ensures in
    let kind = ((place_here (stage_of c.args.self.now) order changed c.requires.within).fine.ahead (omega arith)).kind in
    rw (with_items_is c.args.self.now.structures c.carry_out_at.new.structures (c.carry_out_at.auto.structures ∙ c.deref_mut.ensures.len))
    (from_two c.tell.result
    (λ told made.
    subst (λ (xs : List Structure). HasGoneOn (IsCarriedOut c.args.mark) c.args.k (stage_of c.args.self.now) (record (stage_of c.args.self.now) { structures = xs; table = c.tell.new.self })) (sym changed.written)
    (carried_on c.args.mark c.requires.marked changed.was (updated (stage_of c.args.self.now) order changed c.requires.within kind told made)))
    c.tell.ensures.told c.tell.ensures.made)

pub returns-clause-cost : goal.returns-clause-cost
returns-clause-cost g c =
    let order = c.requires.marked.1.in_order in
    let changed = rw (c.clear.ensures, c.deref_mut.ensures.value) at c.in_ok-carry_out_at.ensures in
    let kind = ((place_here (stage_of c.args.self.now) order changed c.requires.within).fine.ahead (omega arith)).kind in
    rw (with_items_is c.args.self.now.structures c.carry_out_at.new.structures (c.carry_out_at.auto.structures ∙ c.deref_mut.ensures.len))
    (from_two c.tell.result
    (λ told cost. paid (stage_of c.args.self.now) order changed c.requires.within kind told
    (λ l there waits own. absurd (let clash : true ≡ false = sym waits ∙ c.requires.marked.1.none_waits l there in cc)) c.tell.new.steps cost)
    c.tell.ensures.told c.tell.ensures.cost)
